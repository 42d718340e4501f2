-- What the engines of a plan by value have to spare, place by place.
-- Assumes nothing.
use Rattle.std.specs.Prelude.{◌≡◌, List, ℕ, ◌-◌, ◌≤◌, ◌<◌, length}
use Rattle.std.proofs.Math.Path.{ap}
use Rattle.std.proofs.Common.{◌∙◌, take_all, arith}
use Rattle.planning.specs.declared.Plan.{Plan as ByValue}
use Rattle.planning.specs.Bounds.{most_engines}
use Rattle.planning.specs.ByValue.{engines_in, plan_in, Usable}
use Rattle.planning.specs.Capacity.{each_capacity, capacities}
use Rattle.planning.specs.Cutting.{Serves}
use Rattle.planning.proofs.Laws.ByValue.{count-engines_in, count-deliveries_in}
use Rattle.planning.proofs.Laws.Front.{Stored, stored_old}
use Rattle.planning.proofs.Laws.Plans.{length-capacities, length-energies}
use Rattle.planning.proofs.Laws.Tables.{length-listed, listed_same}
use Rattle.planning.specs.Modes.{spares}
use Rattle.planning.specs.Sum.{sum}
use Rattle.planning.specs.Tables.{listed, padded, piece_in, at}
use Rattle.allocation.specs.Laws.Searches.{amount-at}

-- the sum of engine i's pieces, and what they leave of each capacity
abbrev pub load_at : (engines deliveries : ℕ) → (table : List ℕ) → ℕ → ℕ
load_at engines deliveries table i = sum deliveries (λ p. piece_in engines table p i)

abbrev pub left_of : (engines deliveries : ℕ) → (capacities table : List ℕ) → List ℕ
left_of engines deliveries capacities table = listed engines (λ i. at capacities i - load_at engines deliveries table i)

module _ {p : ByValue} (u : Usable p) (T : ℕ) {amounts : List ℕ} (are : amounts ≡ padded most_engines (each_capacity (engines_in p.engines) T))
    (table : List ℕ) where
  engines-in : length (plan_in p).engines ≡ p.engines.count
  unfolding plan_in
  engines-in = count-engines_in p.engines

  deliveries-in : length (plan_in p).deliveries ≡ p.deliveries.count
  unfolding plan_in
  deliveries-in = count-deliveries_in p.deliveries

  -- by the array of capacities they are the plan's spares
  left-spares : left_of p.engines.count p.deliveries.count amounts table ≡ spares (plan_in p) T table
  unfolding spares capacities plan_in
  left-spares =
      rw (engines-in, deliveries-in)
      (listed_same p.engines.count _ _ (λ i l. ap (λ (c : ℕ). c - load_at p.engines.count p.deliveries.count table i) (amount-at u.engines T are i)))

  -- all of them are stored
  pub spares_stored : {old now : List ℕ} {i : ℕ} → Stored (left_of p.engines.count p.deliveries.count amounts table) old i now
      → length old ≡ p.engines.count → p.engines.count ≤ i → now ≡ spares (plan_in p) T table
  spares_stored {old} stored e l =
      let n = length-listed p.engines.count (λ i. at amounts i - load_at p.engines.count p.deliveries.count table i) in
      stored_old stored (omega (arith, e))
      ∙ take_all (length old) (left_of p.engines.count p.deliveries.count amounts table) (omega (arith, e, n))
      ∙ left-spares

  -- where the table serves, no engine has more pieces than its capacity
  pub load-within : Serves 1 (plan_in p) T (piece_in p.engines.count table) → (i : ℕ) → i < p.engines.count
      → load_at p.engines.count p.deliveries.count table i ≤ at amounts i
  unfolding capacities plan_in
  load-within serves i l =
      let within = serves.fits.within i (omega (arith, length-capacities (plan_in p) T, engines-in)) in
      omega (arith, rw (length-energies (plan_in p), deliveries-in) at within, amount-at u.engines T are i)
