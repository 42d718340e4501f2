-- The search of a plan by value for some minutes: what is lent to it is in its range and makes up the plan's search.
-- Assumes nothing.
use Rattle.std.specs.Prelude.{◌≡◌, List, ℕ, ◌*◌, ◌≤◌, ◌<◌, length, take, Result as Returned, Ok, IsOk}
use Rattle.std.proofs.Math.Path.{sym}
use Rattle.std.proofs.Common.{ap, ◌∙◌, length-take-le, get_or-take, arith}
use Rattle.planning.specs.declared.Deliveries.{Deliveries}
use Rattle.planning.specs.declared.Engines.{Engines}
use Rattle.planning.specs.declared.Plan.{Plan as ByValue}
use Rattle.planning.specs.Bounds.{most_engines}
use Rattle.planning.specs.ByValue.{delivery_in, engines_in, plan_in, UsableEngines, UsableDeliveries, Usable}
use Rattle.planning.specs.Capacity.{each_capacity, capacities}
use Rattle.planning.proofs.Laws.ByValue.{count-capacities_in, most-capacity_in, delivery_in_range, energies_in, limits_in}
use Rattle.planning.proofs.Laws.Padded.{length-padded, at-padded, take-padded}
use Rattle.planning.specs.Modes.{search_at}
use Rattle.planning.specs.Plan.{Within}
use Rattle.planning.specs.Tables.{at, padded}
use Rattle.search.specs.declared.Ended.{Ended}
use Rattle.search.specs.declared.OutOfRange.{OutOfRange}
use Rattle.search.specs.declared.Task.{Task}
use Rattle.search.specs.Promises.{AllWithin, InSearchRange, Answers as SearchAnswers}
use Rattle.allocation.specs.Ends.{Ends}

-- numbers in range at the front of a list
front-within : {low high : ℕ} (n : ℕ) (xs : List ℕ) → n ≤ length xs → ((i : ℕ) → i < n → Within low high (at xs i)) → AllWithin low high (take n xs)
front-within n xs l h i k =
    let inside : i < n = omega (arith, length-take-le n xs l) in rw (get_or-take n xs i 0 inside) (h i inside)

-- the columns of deliveries have room for all that are counted, so that many are lent of each
module _ {d : Deliveries} (u : UsableDeliveries d) where
  pub few-energies : d.count ≤ length d.energy
  few-energies = omega (arith, u.energy, u.count.most)

  pub few-limits : d.count ≤ length d.limit
  few-limits = omega (arith, u.limit, u.count.most)

  pub lent-energies : length (take d.count d.energy) ≡ d.count
  lent-energies = length-take-le d.count d.energy few-energies

  pub lent-limits : length (take d.count d.limit) ≡ d.count
  lent-limits = length-take-le d.count d.limit few-limits

-- and so has the array of capacities
module _ {e : Engines} (u : UsableEngines e) (T : ℕ) {amounts : List ℕ} (are : amounts ≡ padded most_engines (each_capacity (engines_in e) T)) where
  pub few-capacities : e.count ≤ length amounts
  few-capacities =
      omega (
        arith,
        ap length are,
        length-padded most_engines (each_capacity (engines_in e) T) (omega (arith, count-capacities_in e T, u.count.most)),
        u.count.most,
      )

  pub lent-capacities : length (take e.count amounts) ≡ e.count
  lent-capacities = length-take-le e.count amounts few-capacities

  pub amount-at : (i : ℕ) → at amounts i ≡ at (each_capacity (engines_in e) T) i
  amount-at i = ap (λ (xs : List ℕ). at xs i) are ∙ at-padded most_engines (each_capacity (engines_in e) T) i

  front-amounts : take e.count amounts ≡ each_capacity (engines_in e) T
  front-amounts =
      let all = each_capacity (engines_in e) T in
      ap (take e.count) are
      ∙ ap (λ (n : ℕ). take n (padded most_engines all)) (sym (count-capacities_in e T))
      ∙ take-padded most_engines all

-- the task of a plan: the front of each column, and the allowance
pub record IsTaskOf (p : ByValue) (amounts : List ℕ) (task : Task) : Type 0 where
  pub capacities : task.capacities.now ≡ take p.engines.count amounts
  pub energies : task.energies.now ≡ take p.deliveries.count p.deliveries.energy
  pub limits : task.limits.now ≡ take p.deliveries.count p.deliveries.limit
  pub allowance : task.allowance ≡ p.allowance

module _ {p : ByValue} (u : Usable p) (T : ℕ) {amounts : List ℕ} (are : amounts ≡ padded most_engines (each_capacity (engines_in p.engines) T))
    (lent : List ℕ) (cells : length lent ≡ p.deliveries.count * p.engines.count) {task : Task} (is : IsTaskOf p amounts task) where
  -- it is in range
  task_in_range : InSearchRange task (length lent)
  unfolding delivery_in
  task_in_range =
      let engines = ap length is.capacities ∙ lent-capacities u.engines T are in
      let energies = ap length is.energies ∙ lent-energies u.deliveries in
      record {
        counts =
            record {
              engine_count = omega (arith, engines, u.engines.count.most);
              delivery_count = omega (arith, energies, u.deliveries.count.most);
              paired = ap length is.limits ∙ lent-limits u.deliveries ∙ sym energies;
              table = rw (engines, energies) cells;
              tries = omega (arith, is.allowance, u.allowance.most);
            };
        capacities =
            rw is.capacities
            (front-within p.engines.count amounts (few-capacities u.engines T are)
            (λ i l. record { least = omega arith; most = omega (arith, amount-at u.engines T are i, most-capacity_in u.engines T i l) }));
        energies =
            rw is.energies
            (front-within p.deliveries.count p.deliveries.energy (few-energies u.deliveries)
            (λ q l. (delivery_in_range u.deliveries q l).energy));
        limits =
            rw is.limits
            (front-within p.deliveries.count p.deliveries.limit (few-limits u.deliveries)
            (λ q l. (delivery_in_range u.deliveries q l).limit));
      }

  -- and its search is the plan's
  module _ {r : Returned Ended OutOfRange} {left : List ℕ} (answers : SearchAnswers task lent r left) where
    pub search-begins : IsOk r
    search-begins = rw (answers.in_range task_in_range).0

    pub search_ends : {ended : Ended} → r ≡ Ok ended → Ends (search_at (plan_in p) T) lent ended left
    unfolding search_at capacities plan_in
    search_ends e =
        let told =
        rw (is.capacities, is.energies, is.limits, is.allowance, front-amounts u.engines T are, ← energies_in u, ← limits_in u) at
        (answers.in_range task_in_range) in
        record { ended = cc (told.0, e); table = told.1 }
