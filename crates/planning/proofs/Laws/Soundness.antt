-- Found is true: the table that a search finds is a cutting in 1 part that serves. Its length, the number of its pieces, and that each engine's
-- spare and pieces add up to its capacity.
-- Assumes nothing.
pub mod Found
pub mod Placing
pub mod FromState
pub mod StraightFill
pub mod Table
use Rattle.std.specs.Prelude.{◌≡◌, refl, Bool, true, false, List, ltb, length}
use Prim.Native.Nat.{ℕ, ◌+◌, ◌*◌, ◌-◌, ◌≤◌, ◌<◌}
use Rattle.std.proofs.Common.{ltb-false}
use native.Mathlib.Omega.{arith}
use Rattle.planning.specs.Capacity.{capacities}
use Rattle.planning.specs.Cutting.{Fits, Cuts, Serves}
use Rattle.planning.proofs.Laws.Plans.{length-capacities, length-energies, limit-positive}
use Rattle.planning.proofs.Laws.Tables.{at_listed, length-listed}
use Rattle.planning.proofs.Laws.Soundness.FromState.{Sound, search_sound}
use Rattle.planning.proofs.Laws.Finite.Sums.{positives-le-bound}
use Rattle.planning.specs.Modes.{search_at, spares}
use Rattle.planning.specs.Tables.{piece_in, at}
use Rattle.planning.specs.Plan.{Plan, All, DeliveryInRange, energies, limits}
use Rattle.planning.specs.Search.{State, total, found, Allowance, up_to, size, search_from, unless_too_much, searched}
use Rattle.planning.specs.Sum.{sum, positives}

-- the state that the search begins in
abbrev start : (capacity energy limit : List ℕ) → State
start capacity energy limit = record { remaining = capacity; rest = energy; limit = limit }

-- past step A, which leaves the energies at most the capacities
found-sound : (capacity energy limit : List ℕ) (allowance : Allowance) {tries : ℕ} {table : List ℕ}
    → ((p : ℕ) → p < length energy → 1 ≤ at limit p) → searched capacity energy limit allowance ≡ found tries table
    → Sound (start capacity energy limit) table
unfolding searched unless_too_much
found-sound capacity energy limit allowance {tries} {table} limits h = go (ltb (total capacity) (total energy)) refl h
  where
    go : (too_much : Bool) → ltb (total capacity) (total energy) ≡ too_much
        → unless_too_much too_much (search_from allowance (start capacity energy limit) 0) ≡ found tries table → Sound (start capacity energy limit) table
    go true e g = let z : ◌≡◌ {A = ℕ} 0 1 = cc in absurd (omega arith)
    go false e g =
        search_sound allowance (start capacity energy limit) 0
        (record { limits = λ p l k. limits p l; enough = ltb-false (total capacity) (total energy) e }) g

module _ (capacity energy limit : List ℕ) (allowance : Allowance) {tries : ℕ} {table : List ℕ} (limits : (p : ℕ) → p < length energy → 1 ≤ at limit p)
    (finds : searched capacity energy limit allowance ≡ found tries table) where
  pub found-cuts : Cuts 1 capacity energy limit (piece_in (length capacity) table)
  found-cuts =
      record {
        from_one = omega arith;
        fits = record {
          whole = λ p l. omega (arith, fits.whole p l);
          within = λ i l. omega (arith, fits.within i l);
          few = fits.few;
        };
      }
    where
      fits : Fits (length capacity) (length energy) (at capacity) (at energy) (at limit) (piece_in (length capacity) table)
      fits = (found-sound capacity energy limit allowance limits finds).fits

  -- a row for each delivery, a piece for each engine in it
  pub found-length : length table ≡ length energy * length capacity
  found-length = (found-sound capacity energy limit allowance limits finds).cells

  -- at most as many pieces as deliveries and engines
  pub found-pieces : positives (length table) (at table) ≤ length energy + length capacity
  unfolding size
  found-pieces =
      omega (
        arith,
        (found-sound capacity energy limit allowance limits finds).pieces,
        positives-le-bound (length capacity) (at capacity),
        positives-le-bound (length energy) (at energy),
      )

-- The same of a plan's search for T minutes, where its deliveries are in range.
module _ (plan : Plan) (T : ℕ) {tries : ℕ} {table : List ℕ} (deliveries : All DeliveryInRange plan.deliveries)
    (finds : search_at plan T ≡ found tries table) where
  limits-positive : (p : ℕ) → p < length (energies plan) → 1 ≤ at (limits plan) p
  limits-positive p l = limit-positive plan deliveries p (omega (arith, length-energies plan))

  pub plan-serves : Serves 1 plan T (piece_in (length plan.engines) table)
  unfolding search_at
  plan-serves =
      rw (length-capacities plan T) at (found-cuts (capacities plan T) (energies plan) (limits plan) (up_to plan.allowance) limits-positive finds)

  pub plan-length : length table ≡ length plan.deliveries * length plan.engines
  unfolding search_at
  plan-length =
      rw (length-capacities plan T, length-energies plan)
      at (found-length (capacities plan T) (energies plan) (limits plan) (up_to plan.allowance) limits-positive finds)

  pub plan-pieces : positives (length table) (at table) ≤ length plan.deliveries + length plan.engines
  unfolding search_at
  plan-pieces =
      omega (
        arith,
        length-capacities plan T,
        length-energies plan,
        found-pieces (capacities plan T) (energies plan) (limits plan) (up_to plan.allowance) limits-positive finds,
      )

  -- "capacity less its pieces" loses nothing: an engine's spare and its pieces add up to its capacity
  pub plan-spares : (i : ℕ) → i < length plan.engines
      → at (spares plan T table) i + sum (length plan.deliveries) (λ p. piece_in (length plan.engines) table p i) ≡ at (capacities plan T) i
  unfolding spares
  plan-spares i l =
      omega (arith, within, at_listed (length plan.engines) (λ k. at (capacities plan T) k - drawn k) i l)
    where
      drawn : ℕ → ℕ
      drawn k = sum (length plan.deliveries) (λ p. piece_in (length plan.engines) table p k)

      within : drawn i ≤ 1 * at (capacities plan T) i
      within = rw (length-energies plan) at (plan-serves.fits.within i (omega (arith, length-capacities plan T)))

pub length-spares : (plan : Plan) (T : ℕ) (table : List ℕ) → length (spares plan T table) ≡ length plan.engines
unfolding spares
length-spares plan T table =
    length-listed (length plan.engines)
    (λ i. at (capacities plan T) i - sum (length plan.deliveries) (λ p. piece_in (length plan.engines) table p i))
