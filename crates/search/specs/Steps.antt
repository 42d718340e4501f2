-- What the code's decisions and results stand for: document 01's choice, step and result.
-- Assumes nothing.
use Rattle.std.specs.Prelude.{◌≡◌, List, ℕ, ◌≤◌, length, Option, Some, None}
use Rattle.planning.specs.Search.{State as Document, Choice, none_left, chosen, bulkiest_of, Step, finished, fills, lays, cuts, step_of, Result}
use Rattle.planning.specs.Search.{up_to, perform, search_from}
use Rattle.planning.specs.Tables.{at}
use Rattle.planning.specs.declared.Outcome.{Outcome}
use Rattle.search.specs.declared.choice.Candidate.{Candidate}
use Rattle.search.specs.declared.choice.Turn.{Turn}
use Rattle.search.specs.declared.choice.Turn.TheVariants.{Finished, Fill, Lay, Cut}
use Rattle.search.specs.declared.cycle.Run.{Run}
use Rattle.search.specs.declared.Ended.{Ended}
use Rattle.search.specs.declared.state.State.{State}
use Rattle.search.specs.declared.view.View.{View}
use Rattle.search.specs.Layout.{served_of, limit_of, state_of, document, Sized, Picked}
use Rattle.search.specs.Promises.{ended_of, written}

-- ---- what is looked at

-- the energies and limits, and document 01's state for some counts
abbrev pub energies : View → List ℕ
energies v = v.task.now.energies.now

abbrev pub limits : View → List ℕ
limits v = v.task.now.limits.now

abbrev pub documented : View → (engines deliveries : ℕ) → Document
documented v engines deliveries = state_of engines deliveries (energies v) (limits v) v.state.now

-- the counts of a plan that has them
abbrev pub SizedIn : View → (engines deliveries : ℕ) → Type 0
SizedIn v engines deliveries = Sized engines deliveries v.state.now.left v.state.now.«open»

-- ---- the choice

-- a candidate is delivery p, which is left, with its slot, rest and limit, the set of engines that serve it already and its LIMIT
pub record IsDelivery (v : View) (p : ℕ) (c : Candidate) : Type 0 where
  pub is_row : c.pick.row ≡ p
  pub picked : Picked (energies v) v.state.now c.pick
  pub is_limit : c.limit ≡ limit_of (limits v) v.state.now p
  pub is_served : c.served ≡ served_of v.state.now p
  pub is_most : c.most ≡ at (limits v) p

-- a candidate, or none, is a choice
unfoldable pub IsChoice : View → Choice → Option Candidate → Type 0
IsChoice v none_left c = c ≡ None
IsChoice v (chosen p) c = (d : Candidate) × (c ≡ Some d) × IsDelivery v p d

-- it is the choice among all deliveries, for every plan's counts
pub record IsBulkiest (v : View) (c : Option Candidate) : Type 0 where
  pub choice : (engines deliveries : ℕ) → SizedIn v engines deliveries → IsChoice v (bulkiest_of (documented v engines deliveries) deliveries) c

-- ---- the step

-- the step that a turn stands for
unfoldable pub step_of_turn : Turn → Step
step_of_turn Finished = finished
step_of_turn Fill = fills
step_of_turn (Lay pick) = lays pick.row
step_of_turn (Cut pick) = cuts pick.row

-- what a turn says of the delivery picked
unfoldable pub PickOf : View → Turn → Type 0
PickOf v Finished = Unit {0}
PickOf v Fill = Unit {0}
PickOf v (Lay pick) = Picked (energies v) v.state.now pick × (limit_of (limits v) v.state.now pick.row ≡ 1)
PickOf v (Cut pick) = Picked (energies v) v.state.now pick × (2 ≤ limit_of (limits v) v.state.now pick.row)

-- the turn of a state is document 01's step, for every plan's counts
pub record IsTurn (v : View) (turn : Turn) : Type 0 where
  pub picked : PickOf v turn
  pub step : (engines deliveries : ℕ) → SizedIn v engines deliveries → step_of_turn turn ≡ step_of (documented v engines deliveries)

-- ---- the result

-- the steps from a state return document 01's result, and leave the table that the result leaves
pub record EndsIn (result : Result) (lent : List ℕ) (r : Ended) (table : List ℕ) : Type 0 where
  pub is_ended : r ≡ ended_of result
  pub is_table : table ≡ written result lent

-- ---- a run

-- the search that a run makes from a state, and a step of it, with the tries made
abbrev pub search_in : Run → State → Result
search_in run s = search_from (up_to run.task.now.allowance) (document run.task.now s) run.tries

abbrev pub step_in : Step → Run → State → Result
step_in step run s =
    perform step (λ after tries. search_from (up_to run.task.now.allowance) after tries) (up_to run.task.now.allowance)
    (document run.task.now s) run.tries

-- A run returns that result, and leaves its table so. Its task is the same, and its table the one that it was lent.
pub record Makes (result : Result) (before : Run) (outcome : Outcome) (after : Run) : Type 0 where
  pub ends : EndsIn result before.table.now (record { outcome = outcome; tries = after.tries }) after.table.now
  pub same_task : after.task ≡ before.task
  pub same_table : after.table.ghost_name ≡ before.table.ghost_name
  pub same_length : length after.table.now ≡ length before.table.now
