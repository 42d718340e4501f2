-- Fixed and shortest, the answer they carry, and what found writes (document 01, "Capacity and tries").
-- "The minutes a plan gives are its MINUTES, in both modes".
-- Assumes nothing.
use Rattle.std.specs.Prelude.{ℕ, zero, suc, ◌+◌, ◌-◌, ◌/◌, Bool, true, false, List, length, ltb}
use Rattle.planning.specs.declared.Answer.{Answer}
use Rattle.planning.specs.declared.Mode.{Mode}
use Rattle.planning.specs.declared.Mode.TheVariants.{Fixed, Shortest}
use Rattle.planning.specs.declared.Outcome.{Outcome}
use Rattle.planning.specs.declared.Outcome.TheVariants.{Found, None, Stopped}
use Rattle.planning.specs.Capacity.{capacities}
use Rattle.planning.specs.Plan.{Plan, energies, limits}
use Rattle.planning.specs.Search.{Result, found, none, stopped, up_to, unlimited, searched}
use Rattle.planning.specs.Tables.{at, listed, piece_in, over_front}
use Rattle.planning.specs.Sum.{sum}

-- the search for T minutes; "Each search has the full allowance"
unfoldable pub search_at : Plan → ℕ → Result
search_at plan T = searched (capacities plan T) (energies plan) (limits plan) (up_to plan.allowance)

-- the same search without an allowance: what it takes when no try is one too many
unfoldable pub unlimited_at : Plan → ℕ → Result
unlimited_at plan T = searched (capacities plan T) (energies plan) (limits plan) unlimited

-- a search that is answered, and its minutes
pub record Planned : Type 0 where
  pub minutes : ℕ
  pub result : Result

unfoldable pub planned_at : Plan → ℕ → Planned
planned_at plan T = record { minutes = T; result = search_at plan T }

-- what follows a search by its outcome; each branch waits until the outcome is known
unfoldable pub by_outcome : {A : Type 0} → Result → (if_found if_none if_stopped : Unit {0} → A) → A
by_outcome (found tries table) if_found if_none if_stopped = if_found tt
by_outcome (none tries) if_found if_none if_stopped = if_none tt
by_outcome (stopped tries) if_found if_none if_stopped = if_stopped tt

-- "T = (low + high) / 2 rounded down"
abbrev pub middle : (low high : ℕ) → ℕ
middle low high = (low + high) / 2

-- one of two branches, each of which waits until the test is known
unfoldable pub while_above : {A : Type 0} → Bool → (turn answer : Unit {0} → A) → A
while_above true turn answer = turn tt
while_above false turn answer = answer tt

-- "while high − low is above 1, search T = (low + high) / 2 rounded down; found sets high, none sets low, stopped answers
-- stopped with that T. The answer is the search at high." On a bound for the number of turns: high - low falls with each.
unfoldable pub bisect : (bound : ℕ) → Plan → (low high : ℕ) → Planned
bisect zero plan low high = planned_at plan high
bisect (suc bound) plan low high =
    while_above
    (ltb 1 (high - low))
    (λ _. by_outcome
    (search_at plan (middle low high))
    (λ _. bisect bound plan low (middle low high))
    (λ _. bisect bound plan (middle low high) high)
    (λ _. planned_at plan (middle low high)))
    (λ _. planned_at plan high)

-- "`shortest`: search MINUTES first; none or stopped there is the answer. Then low = 0, high = MINUTES"
unfoldable pub shortest : Plan → Planned
shortest plan =
    by_outcome
    (search_at plan plan.minutes)
    (λ _. bisect plan.minutes plan 0 plan.minutes)
    (λ _. planned_at plan plan.minutes)
    (λ _. planned_at plan plan.minutes)

unfoldable pub planned_in : Mode → Plan → Planned
planned_in Fixed plan = planned_at plan plan.minutes
planned_in Shortest plan = shortest plan

-- what a plan is answered
unfoldable pub planned : Plan → Planned
planned plan = planned_in plan.mode plan

-- "An answer is one of found, none and stopped, carried with its minutes and tries"; "the reported tries are those of the search answered"
unfoldable pub outcome_of : Result → Outcome
outcome_of (found tries table) = Found
outcome_of (none tries) = None
outcome_of (stopped tries) = Stopped

unfoldable pub tries_of : Result → ℕ
tries_of (found tries table) = tries
tries_of (none tries) = tries
tries_of (stopped tries) = tries

unfoldable pub answer_of : Planned → Answer
answer_of a = record { outcome = outcome_of a.result; minutes = a.minutes; tries = tries_of a.result }

-- "each engine's spare: capacity less its pieces"
unfoldable pub spares : Plan → (T : ℕ) → (table : List ℕ) → List ℕ
spares plan T table =
    listed
    (length plan.engines)
    (λ i. at (capacities plan T) i - sum (length plan.deliveries) (λ p. piece_in (length plan.engines) table p i))

-- "Found writes the piece table (0 where nothing is drawn) and each engine's spare .. None and stopped leave both untouched.":
-- what the lent piece table and the lent spare list hold afterwards
unfoldable pub table_by : Result → (lent : List ℕ) → List ℕ
table_by (found tries table) lent = over_front table lent
table_by (none tries) lent = lent
table_by (stopped tries) lent = lent

unfoldable pub spares_by : Plan → (T : ℕ) → Result → (lent : List ℕ) → List ℕ
spares_by plan T (found tries table) lent = over_front (spares plan T table) lent
spares_by plan T (none tries) lent = lent
spares_by plan T (stopped tries) lent = lent

unfoldable pub table_after : Plan → (lent : List ℕ) → List ℕ
table_after plan lent = table_by (planned plan).result lent

unfoldable pub spares_after : Plan → (lent : List ℕ) → List ℕ
spares_after plan lent = spares_by plan (planned plan).minutes (planned plan).result lent
