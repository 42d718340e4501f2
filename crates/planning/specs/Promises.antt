-- What the allocation on numbers promises, for every call: the fields of its contract. Demands 1 to 3 are said in terms of cuttings; only
-- what stopped means speaks of the search.
-- Assumes nothing.
use Rattle.std.specs.Prelude.{◌≡◌, ◌≢◌, ◌↔◌, List, ℕ, ◌+◌, ◌<◌, length, Result, Ok, Err}
use Rattle.planning.specs.declared.Answer.{Answer}
use Rattle.planning.specs.declared.Fault.{Fault}
use Rattle.planning.specs.declared.Fault.TheVariants.{Size, Grammar, Fields, Kind, Name, Value, Count, NoEngine, Space, UnknownEngine, QuietSpan}
use Rattle.planning.specs.declared.Mode.TheVariants.{Fixed, Shortest}
use Rattle.planning.specs.declared.Outcome.TheVariants.{Found, None, Stopped}
use Rattle.planning.specs.declared.Refusal.{Refusal}
use Rattle.planning.specs.Capacity.{capacities}
use Rattle.planning.specs.Cutting.{NotServed, Serves, ShortestTime}
use Rattle.planning.specs.Modes.{tries_of, unlimited_at}
use Rattle.planning.specs.Numbers.{Call, plan_of, Accepted, allocation, table_on_exit, spare_on_exit}
use Rattle.planning.specs.Plan.{Within}
use Rattle.planning.specs.Sum.{sum}
use Rattle.planning.specs.Tables.{piece_in, at}

-- The faults on numbers, and where: "Its place for 6 is the record number with plan first, engines, then deliveries; else 0.", and 6, 10 and 11 of
-- a quiet span have "place 0" (document 02, K1).
unfoldable pub FaultOnNumbers : (records : ℕ) → Fault → (place : ℕ) → Type 0
FaultOnNumbers records Fields place = place ≡ 0
FaultOnNumbers records NoEngine place = place ≡ 0
FaultOnNumbers records Count place = place ≡ 0
FaultOnNumbers records Space place = place ≡ 0
FaultOnNumbers records Value place = Within 0 records place
FaultOnNumbers records UnknownEngine place = place ≡ 0
FaultOnNumbers records QuietSpan place = place ≡ 0
FaultOnNumbers records Size place = ⊥
FaultOnNumbers records Grammar place = ⊥
FaultOnNumbers records Kind place = ⊥
FaultOnNumbers records Name place = ⊥

-- the plan's record, and one for each engine and delivery
abbrev pub records_of : Call → ℕ
records_of call = 1 + length call.watts + length call.energies

-- `table'` and `spare'` are what the lent lists hold on exit
pub record Promised (call : Call) (r : Result Answer Refusal) (table' spare' : List ℕ) : Type 0 where
  -- what is returned, and what the lent lists hold, are what the definitions say
  pub result : r ≡ allocation call
  pub table : table' ≡ table_on_exit call
  pub spare : spare' ≡ spare_on_exit call
  -- Demand 1: the call is answered exactly when it is accepted. A refusal has a fault on numbers and its place, and changes nothing lent.
  pub answered_exactly : ((a : Answer) × (r ≡ Ok a)) ↔ Accepted call
  pub turned_down : (refusal : Refusal) → r ≡ Err refusal
      → FaultOnNumbers (records_of call) refusal.fault refusal.place × (table' ≡ call.table) × (spare' ≡ call.spare)
  -- Demand 2: a found table gives each delivery exactly its energy, loads no engine beyond its capacity for the answered minutes and draws
  -- no delivery from more engines than its limit; each engine's spare is what its pieces leave of its capacity.
  pub found_serves : (a : Answer) → r ≡ Ok a → a.outcome ≡ Found
      → Serves 1 (plan_of call) a.minutes (piece_in (length call.watts) table')
      × ((i : ℕ) → i < length call.watts
      → at spare' i + sum (length call.energies) (λ p. piece_in (length call.watts) table' p i) ≡ at (capacities (plan_of call) a.minutes) i)
  -- none and stopped leave everything lent as it was
  pub kept_unless_found : (a : Answer) → r ≡ Ok a → a.outcome ≢ Found → (table' ≡ call.table) × (spare' ≡ call.spare)
  -- stopped means that the search at the answered minutes needs more tries than were allowed; its tries are then the allowance
  pub stopped_exactly : (a : Answer) → r ≡ Ok a
      → ((a.outcome ≡ Stopped) ↔ (call.allowance < tries_of (unlimited_at (plan_of call) a.minutes)))
      × (a.outcome ≡ Stopped → a.tries ≡ call.allowance)
  -- Demand 3: unless the answer is stopped, it is none exactly when, for every n from 1, no cutting in n parts serves the plan in its
  -- MINUTES, in both modes.
  pub none_exactly : (a : Answer) → r ≡ Ok a → a.outcome ≢ Stopped → (a.outcome ≡ None) ↔ NotServed (plan_of call) call.minutes
  -- Where a shortest time is answered, a cutting serves the plan in that time, and none in any smaller whole minute down to one; a fixed
  -- time that is answered found is the plan's MINUTES.
  pub shortest_exactly : (a : Answer) → r ≡ Ok a → a.outcome ≡ Found
      → (call.mode ≡ Shortest → ShortestTime (plan_of call) a.minutes)
      × (call.mode ≡ Fixed → a.minutes ≡ call.minutes)
