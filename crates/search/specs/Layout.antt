-- What a state of the code stands for: document 01's state. The layout may change behind `state_of`, `Kept` and `Sized`.
--
-- A delivery left is untouched, and then has its energy and limit, or begun, and then lives in the slot of the engine that was first
-- cut for it: a cut closes its engine, so that engine's amount holds the delivery's rest, and `served` the set of engines cut for it.
-- There are as many slots as the arrays are long; only `Lengths` says how long that is.
-- Assumes nothing.
use Rattle.std.specs.Prelude.{◌≡◌, Bool, true, false, cond, ◌&&◌, List, ℕ, ◌*◌, ◌-◌, ◌≤◌, ◌<◌, ltb, eqb, length, Option, Some, None}
use Rattle.std.specs.Int.Count.{ones}
use Rattle.planning.specs.Bounds.{most_engines, most_deliveries, most_fuel, most_energy, most_limit}
use Rattle.planning.specs.Tables.{listed, at}
use Rattle.planning.specs.Plan.{Within}
use Rattle.planning.specs.Search.{State as Document, after_laying, after_cutting}
use Rattle.planning.specs.Sum.{sum}
use Rattle.search.specs.declared.cycle.Run.{Run}
use Rattle.search.specs.declared.state.Pick.{Pick}
use Rattle.search.specs.declared.state.State.{State}
use Rattle.search.specs.declared.Task.{Task}
use Rattle.search.specs.Promises.{engines_of, deliveries_of}
use Rattle.search.specs.Sets.{has}

-- ---- what a state stands for

-- a state with those fields
abbrev pub state_in : (left untouched : ℕ) → (amount served row : List ℕ) → (opened : ℕ) → State
state_in left untouched amount served row opened =
    record { left = left; untouched = untouched; amount = amount; served = served; row = row; «open» = opened }

-- slot k is in use, for delivery p
unfoldable pub holds : (served row : List ℕ) → (k p : ℕ) → Bool
holds served row k p = ltb 0 (at served k) && eqb (at row k) p

-- the rest in the slot of delivery p, and the set of engines that serve it there; 0 where it has no slot
unfoldable pub slot_rest : (amount served row : List ℕ) → (p : ℕ) → ℕ
slot_rest amount served row p = sum (length served) (λ k. cond (holds served row k p) (at amount k) 0)

unfoldable pub slot_served : (served row : List ℕ) → (p : ℕ) → ℕ
slot_served served row p = sum (length served) (λ k. cond (holds served row k p) (at served k) 0)

-- what remains of engine i
unfoldable pub remaining_at : (opened : ℕ) → (amount : List ℕ) → (i : ℕ) → ℕ
remaining_at opened amount i = cond (has opened i) (at amount i) 0

-- the rest of delivery p, given the energies of the plan
unfoldable pub rest_at : (energy : List ℕ) → (untouched : ℕ) → (amount served row : List ℕ) → (p : ℕ) → ℕ
rest_at energy untouched amount served row p = cond (has untouched p) (at energy p) (slot_rest amount served row p)

-- the set of engines that serve delivery p already
unfoldable pub served_at : (untouched : ℕ) → (served row : List ℕ) → (p : ℕ) → ℕ
served_at untouched served row p = cond (has untouched p) 0 (slot_served served row p)

-- the limit of delivery p, given the limits of the plan: lowered by each engine that serves it; 1 of a delivery that is done, since
-- a delivery is laid whole only at limit 1
unfoldable pub limit_at : (limit : List ℕ) → (left untouched : ℕ) → (served row : List ℕ) → (p : ℕ) → ℕ
limit_at limit left untouched served row p = cond (has left p) (at limit p - ones (served_at untouched served row p)) 1

-- the same of a state
abbrev pub rest_of : (energy : List ℕ) → State → (p : ℕ) → ℕ
rest_of energy s p = rest_at energy s.untouched s.amount s.served s.row p

abbrev pub served_of : State → (p : ℕ) → ℕ
served_of s p = served_at s.untouched s.served s.row p

abbrev pub limit_of : (limit : List ℕ) → State → (p : ℕ) → ℕ
limit_of limit s p = limit_at limit s.left s.untouched s.served s.row p

-- document 01's state
unfoldable pub state_of : (engines deliveries : ℕ) → (energy limit : List ℕ) → State → Document
state_of engines deliveries energy limit s =
    record {
      remaining = listed engines (λ i. remaining_at s.«open» s.amount i);
      rest = listed deliveries (λ p. rest_of energy s p);
      limit = listed deliveries (λ p. limit_of limit s p);
    }

-- and of a state in the search of a task
abbrev pub document : Task → State → Document
document task s = state_of (engines_of task) (deliveries_of task) task.energies.now task.limits.now s

-- ---- what every state of a search keeps

-- of its deliveries
pub record Deliveries (energy limit : List ℕ) (left untouched : ℕ) (amount served row : List ℕ) : Type 0 where
  -- a slot for each engine
  pub serveds : length served ≡ length amount
  pub rows : length row ≡ length amount
  -- a delivery left is in the plan's ranges
  pub in_range : (p : ℕ) → has left p ≡ true → Within 1 most_energy (at energy p) × Within 1 most_limit (at limit p)
  pub untouched_left : (p : ℕ) → has untouched p ≡ true → has left p ≡ true
  -- a slot in use has a delivery left that is begun, with a rest, served by fewer engines than its limit
  pub slot_left : (k : ℕ) → 0 < at served k → has left (at row k) ≡ true
  pub slot_begun : (k : ℕ) → 0 < at served k → has untouched (at row k) ≡ false
  pub slot_rests : (k : ℕ) → 0 < at served k → Within 1 most_energy (at amount k)
  pub slot_few : (k : ℕ) → 0 < at served k → ones (at served k) < at limit (at row k)
  -- no two slots have one delivery, and each delivery begun has a slot
  pub alone : (k l : ℕ) → 0 < at served k → 0 < at served l → at row k ≡ at row l → k ≡ l
  pub slotted : (p : ℕ) → has left p ≡ true → has untouched p ≡ false → (k : ℕ) × (holds served row k p ≡ true)

-- of its engines: an open engine has something remaining and its slot is free; the engines that serve a delivery are closed
pub record Engines (opened : ℕ) (amount served : List ℕ) : Type 0 where
  pub remains : (i : ℕ) → has opened i ≡ true → Within 1 most_fuel (at amount i)
  pub free : (i : ℕ) → has opened i ≡ true → at served i ≡ 0
  pub closed : (k i : ℕ) → has (at served k) i ≡ true → (i < length served) × (has opened i ≡ false)

-- the lengths: a slot for every engine that a plan may have, as many energies as limits, and no more deliveries than a plan may have
pub record Lengths (energy limit amount : List ℕ) : Type 0 where
  pub amounts : length amount ≡ most_engines
  pub energies : length energy ≤ most_deliveries
  pub limits : length limit ≡ length energy

pub record Kept (energy limit : List ℕ) (s : State) : Type 0 where
  pub deliveries : Deliveries energy limit s.left s.untouched s.amount s.served s.row
  pub engines : Engines s.«open» s.amount s.served
  pub lengths : Lengths energy limit s.amount

-- ---- a plan's search

-- the sets have only the plan's engines and deliveries
pub record Sized (engines deliveries left opened : ℕ) : Type 0 where
  pub engine_set : (i : ℕ) → has opened i ≡ true → i < engines
  pub delivery_set : (p : ℕ) → has left p ≡ true → p < deliveries

-- a table for a task, and arrays that have room for it
pub record Room (task : Task) (cells : ℕ) : Type 0 where
  pub engine_count : engines_of task ≤ most_engines
  pub delivery_count : deliveries_of task ≤ most_deliveries
  pub table : cells ≡ deliveries_of task * engines_of task

-- a run of the search can go on from a state
pub record UnderWay (run : Run) (s : State) : Type 0 where
  pub kept : Kept run.task.now.energies.now run.task.now.limits.now s
  pub sized : Sized (engines_of run.task.now) (deliveries_of run.task.now) s.left s.«open»
  pub room : Room run.task.now (length run.table.now)
  pub allowed : run.tries ≤ run.task.now.allowance

-- ---- laying and cutting

-- delivery p is in that slot, or is untouched and so has none
pub record SlotOf (untouched : ℕ) (served row : List ℕ) (p : ℕ) (slot : Option ℕ) : Type 0 where
  pub fresh : slot ≡ None → has untouched p ≡ true
  pub begun : (k : ℕ) → slot ≡ Some k → (has untouched p ≡ false) × (holds served row k p ≡ true)

-- the delivery picked is left, with that rest, in that slot
pub record Picked (energy : List ℕ) (s : State) (pick : Pick) : Type 0 where
  pub is_left : has s.left pick.row ≡ true
  pub is_rest : pick.rest ≡ rest_of energy s pick.row
  pub is_slot : SlotOf s.untouched s.served s.row pick.row pick.slot

-- it can be laid on engine i, or cut there, in a state of some search
pub record Layable (s : State) (pick : Pick) (i : ℕ) : Type 0 where
  pub energy : List ℕ
  pub limit : List ℕ
  pub kept : Kept energy limit s
  pub picked : Picked energy s pick
  pub one : limit_of limit s pick.row ≡ 1
  pub engine : has s.«open» i ≡ true
  pub enough : pick.rest ≤ at s.amount i

pub record Cuttable (s : State) (pick : Pick) (i : ℕ) : Type 0 where
  pub energy : List ℕ
  pub limit : List ℕ
  pub kept : Kept energy limit s
  pub picked : Picked energy s pick
  pub several : 2 ≤ limit_of limit s pick.row
  pub engine : has s.«open» i ≡ true
  pub below : at s.amount i < pick.rest

-- the state after delivery `row` was laid on engine i, or cut there: document 01's state after that step, for every plan's counts
pub record Laid (energy limit : List ℕ) (s : State) (row i : ℕ) (r : State) : Type 0 where
  pub kept : Kept energy limit r
  pub sized : (engines deliveries : ℕ) → Sized engines deliveries s.left s.«open» → Sized engines deliveries r.left r.«open»
  pub state : (engines deliveries : ℕ) → Sized engines deliveries s.left s.«open»
      → state_of engines deliveries energy limit r ≡ after_laying (state_of engines deliveries energy limit s) row i

pub record CutOff (energy limit : List ℕ) (s : State) (row i : ℕ) (r : State) : Type 0 where
  pub kept : Kept energy limit r
  pub sized : (engines deliveries : ℕ) → Sized engines deliveries s.left s.«open» → Sized engines deliveries r.left r.«open»
  pub state : (engines deliveries : ℕ) → Sized engines deliveries s.left s.«open»
      → state_of engines deliveries energy limit r ≡ after_cutting (state_of engines deliveries energy limit s) row i
