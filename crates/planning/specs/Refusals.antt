-- Refusals (document 01, "Turned down"): the number of each fault, and checks in an order.
-- Assumes nothing.
use Rattle.std.specs.Prelude.{ℕ, ◌+◌, Bool, true, false, List, [], ◌∷◌, Result, Ok, Err, ⊤}
use Rattle.std.proofs.Math.Option.{Option, none, some}
use Rattle.planning.specs.declared.Fault.{Fault}
use Rattle.planning.specs.declared.Fault.TheVariants.{Size, Grammar, Fields, Kind, Name, Value, Count, NoEngine, Space, UnknownEngine, QuietSpan}
use Rattle.planning.specs.declared.Refusal.{Refusal}

-- the column "No." of the table, by its column "When"
unfoldable pub fault_number : Fault → ℕ
-- "file empty or above 32,768 bytes"
fault_number Size = 1
-- "record breaks RFC 4180"
fault_number Grammar = 2
-- "not four fields; on numbers: paired lists differ in length"
fault_number Fields = 3
-- "first field unknown; record 1 no plan; a plan later"
fault_number Kind = 4
-- "name against the rule above"
fault_number Name = 5
-- "MODE or a number against its form or range"
fault_number Value = 6
-- "a 13th engine", or a 38th delivery (document 02, K7)
fault_number Count = 7
-- "no engine"
fault_number NoEngine = 8
-- "lent table of the wrong length, or output longer than the lent space"
fault_number Space = 9
-- document 02, K1: "10 ..: the named engine isn't earlier in the file", on numbers "no such engine"
fault_number UnknownEngine = 10
-- "11 ..: FROM is not below TO, the span overlaps an earlier one of that engine, or it is the ninth"
fault_number QuietSpan = 11

-- one check: a fault at a record, where the test fails
unfoldable pub check : Bool → Fault → (place : ℕ) → Option Refusal
check true fault place = none
check false fault place = some (record { fault = fault; place = place })

-- the first fault of two checks in order
infixr 20 ◌then◌
unfoldable pub ◌then◌ : Option Refusal → Option Refusal → Option Refusal
◌then◌ (some refusal) later = some refusal
◌then◌ none later = later

-- the first fault among the members of a list, of which the first has the record number r
unfoldable pub check_each : {A : Type 0} → (ℕ → A → Option Refusal) → (r : ℕ) → List A → Option Refusal
check_each one r [] = none
check_each one r (x ∷ xs) = one r x then check_each one (r + 1) xs

-- what checks come to, as the code returns it
unfoldable pub verdict_of : Option Refusal → Result ⊤ Refusal
verdict_of none = Ok tt
verdict_of (some refusal) = Err refusal
