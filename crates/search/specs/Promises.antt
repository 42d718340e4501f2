-- What a search promises: on numbers in range document 01's search, step A included; out of range it is not begun, and nothing is written.
-- Assumes nothing.
use Rattle.std.specs.Prelude.{◌≡◌, List, ℕ, ◌*◌, ◌≤◌, ◌<◌, length, Result as Returned, Ok, Err}
use Rattle.planning.specs.Bounds.{most_engines, most_deliveries, most_tries, most_fuel, most_energy, most_limit}
use Rattle.planning.specs.declared.Outcome.TheVariants.{Found, None, Stopped}
use Rattle.planning.specs.Plan.{Within}
use Rattle.planning.specs.Search.{Result, found, none, stopped, up_to, searched}
use Rattle.planning.specs.Tables.{at}
use Rattle.search.specs.declared.Ended.{Ended}
use Rattle.search.specs.declared.OutOfRange.{OutOfRange}
use Rattle.search.specs.declared.Task.{Task}

-- how many engines and deliveries a task has
abbrev pub engines_of : Task → ℕ
engines_of task = length task.capacities.now

abbrev pub deliveries_of : Task → ℕ
deliveries_of task = length task.energies.now

-- document 01's search of a task
abbrev pub search_of : Task → Result
search_of task = searched task.capacities.now task.energies.now task.limits.now (up_to task.allowance)

-- a result as the search returns it
unfoldable pub ended_of : Result → Ended
ended_of (found tries table) = record { outcome = Found; tries = tries }
ended_of (none tries) = record { outcome = None; tries = tries }
ended_of (stopped tries) = record { outcome = Stopped; tries = tries }

-- the table that a result leaves: "Found writes the piece table .. None and stopped leave both untouched." A lent table has the plan's own
-- length, so found writes all of it
unfoldable pub written : Result → (lent : List ℕ) → List ℕ
written (found tries table) lent = table
written (none tries) lent = lent
written (stopped tries) lent = lent

-- every number of a list is low to high
abbrev pub AllWithin : (low high : ℕ) → List ℕ → Type 0
AllWithin low high xs = (i : ℕ) → i < length xs → Within low high (at xs i)

-- The counts of a plan that can be searched: "Engines number 1 to 12", deliveries 0 to 37, with a limit for each energy, "a piece table of
-- deliveries × engines" and "TRIES, the allowance, is 0 to 1,000,000,000." (A list without engines can be searched, too.)
pub record CountsInRange (task : Task) (cells : ℕ) : Type 0 where
  pub engine_count : engines_of task ≤ most_engines
  pub delivery_count : deliveries_of task ≤ most_deliveries
  pub paired : length task.limits.now ≡ deliveries_of task
  pub table : cells ≡ deliveries_of task * engines_of task
  pub tries : task.allowance ≤ most_tries

-- and its numbers: capacities are at most the most fuel, "ENERGY 1 to 1,000,000,000 Wh; LIMIT .. 1 to 12". No order of checks is in it.
pub record InSearchRange (task : Task) (cells : ℕ) : Type 0 where
  pub counts : CountsInRange task cells
  pub capacities : AllWithin 0 most_fuel task.capacities.now
  pub energies : AllWithin 1 most_energy task.energies.now
  pub limits : AllWithin 1 most_limit task.limits.now

-- What a search returns, and what the table holds that it was lent.
pub record Answers (task : Task) (lent : List ℕ) (r : Returned Ended OutOfRange) (table : List ℕ) : Type 0 where
  pub in_range : InSearchRange task (length lent) → (r ≡ Ok (ended_of (search_of task))) × (table ≡ written (search_of task) lent)
  pub otherwise : (InSearchRange task (length lent) → ⊥) → (r ≡ Err (record {})) × (table ≡ lent)
