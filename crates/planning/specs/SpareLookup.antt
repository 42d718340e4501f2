-- The spare lookup (document 01, "Capacity and tries", its last paragraph). Which engine it names is the program's choice: the
-- definition says what every permitted answer has in common.
-- Assumes nothing.
use Rattle.std.specs.Prelude.{◌≡◌, ℕ, ◌≤◌, ◌<◌, List, length, leb, Ok, Err, Some, None}
use Rattle.std.proofs.Math.Option.{Option, none, some}
use Rattle.planning.specs.declared.Fault.{Fault}
use Rattle.planning.specs.declared.Fault.TheVariants.{Size, Grammar, Fields, Kind, Name, Value, Count, NoEngine, Space, UnknownEngine, QuietSpan}
use Rattle.planning.specs.declared.Refusal.{Refusal}
use Rattle.planning.specs.Bounds.{most_engines, most_energy}
use Rattle.planning.specs.Lookup.{Lookup}
use Rattle.planning.specs.Numbers.{within}
use Rattle.planning.specs.Refusals.{check, ◌then◌}
use Rattle.planning.specs.Tables.{at}

-- "It refuses by 8, 7, then 6, place 0.": no engine, a 13th engine, an amount out of range
unfoldable pub lookup_refusal : (spare : List ℕ) → (amount : ℕ) → Option Refusal
lookup_refusal spare amount =
    check (leb 1 (length spare)) NoEngine 0
    then check (leb (length spare) most_engines) Count 0
    then check (within 1 most_energy amount) Value 0

-- "names some engine with that much, or says none has it only where that is so"
unfoldable pub Names : (spare : List ℕ) → (amount : ℕ) → Lookup → Type 0
Names spare amount (Ok (Some i)) = (i < length spare) × (amount ≤ at spare i)
Names spare amount (Ok None) = (i : ℕ) → i < length spare → at spare i < amount
Names spare amount (Err refusal) = ⊥

-- the answers that are permitted
unfoldable pub PermittedBy : Option Refusal → (spare : List ℕ) → (amount : ℕ) → Lookup → Type 0
PermittedBy (some refusal) spare amount answer = answer ≡ Err refusal
PermittedBy none spare amount answer = Names spare amount answer

unfoldable pub Permitted : (spare : List ℕ) → (amount : ℕ) → Lookup → Type 0
Permitted spare amount answer = PermittedBy (lookup_refusal spare amount) spare amount answer

-- the faults of a lookup, each at place 0
unfoldable pub FaultInLookup : Fault → (place : ℕ) → Type 0
FaultInLookup NoEngine place = place ≡ 0
FaultInLookup Count place = place ≡ 0
FaultInLookup Value place = place ≡ 0
FaultInLookup Size place = ⊥
FaultInLookup Grammar place = ⊥
FaultInLookup Fields place = ⊥
FaultInLookup Kind place = ⊥
FaultInLookup Name place = ⊥
FaultInLookup Space place = ⊥
FaultInLookup UnknownEngine place = ⊥
FaultInLookup QuietSpan place = ⊥

-- what the lookup promises of its answer
pub record LookedUp (spare : List ℕ) (amount : ℕ) (r : Lookup) : Type 0 where
  pub permitted : Permitted spare amount r
  -- an engine that is named has the amount, and where none is named none has it
  pub named : (i : ℕ) → r ≡ Ok (Some i) → (i < length spare) × (amount ≤ at spare i)
  pub nowhere : r ≡ Ok None → (i : ℕ) → i < length spare → at spare i < amount
  pub turned_down : (refusal : Refusal) → r ≡ Err refusal → FaultInLookup refusal.fault refusal.place
