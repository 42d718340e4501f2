-- The allocation on numbers with the mode as a number too, so that "MODE .. against its form" (document 01, row 6) speaks of it.
-- Assumes nothing.
use Rattle.std.specs.Prelude.{ℕ, zero, suc, Bool, true, false, cond, List, leb, Result, Err}
use Rattle.std.proofs.Math.Option.{Option, none, some}
use Rattle.planning.specs.declared.Answer.{Answer}
use Rattle.planning.specs.declared.Fault.{Fault}
use Rattle.planning.specs.declared.Fault.TheVariants.{Size, Grammar, Fields, Kind, Name, Value, Count, NoEngine, Space, UnknownEngine, QuietSpan}
use Rattle.planning.specs.declared.Mode.{Mode}
use Rattle.planning.specs.declared.Mode.TheVariants.{Fixed, Shortest}
use Rattle.planning.specs.declared.Refusal.{Refusal}
use Rattle.planning.specs.Numbers.{Call, allocation, refusal_of, table_on_exit, spare_on_exit}

-- 0 is `fixed`, 1 is `shortest`, and no other number is a mode
unfoldable pub is_mode : ℕ → Bool
is_mode mode = leb mode 1

unfoldable pub mode_of : ℕ → Mode
mode_of zero = Fixed
mode_of (suc n) = Shortest

-- 6 at the plan's record
unfoldable pub no_mode : Refusal
no_mode = record { fault = Value; place = 1 }

-- "It checks 3, 8, 7, 9, then 6 over minutes, ..": MODE stands in the plan's record, left of MINUTES. So a number that is no mode is
-- refused by 3, 8, 7 or 9 where a mode would be, and by 6 at place 1 in every other case.
unfoldable pub before_mode : Fault → Bool
before_mode Fields = true
before_mode NoEngine = true
before_mode Count = true
before_mode Space = true
before_mode Size = false
before_mode Grammar = false
before_mode Kind = false
before_mode Name = false
before_mode Value = false
before_mode UnknownEngine = false
before_mode QuietSpan = false

unfoldable pub without_mode : Option Refusal → Refusal
without_mode (some refusal) = cond (before_mode refusal.fault) refusal no_mode
without_mode none = no_mode

unfoldable pub allocation_by : (mode : ℕ) → Call → Result Answer Refusal
allocation_by mode call = cond (is_mode mode) (allocation call) (Err (without_mode (refusal_of call)))

-- "Each refusal .. changes nothing lent."
unfoldable pub table_by : (mode : ℕ) → Call → List ℕ
table_by mode call = cond (is_mode mode) (table_on_exit call) call.table

unfoldable pub spare_by : (mode : ℕ) → Call → List ℕ
spare_by mode call = cond (is_mode mode) (spare_on_exit call) call.spare

-- the minutes that the code hands on: with 0 the call is refused just as it is without a mode (Laws)
unfoldable pub minutes_under : (mode minutes : ℕ) → ℕ
minutes_under mode minutes = cond (is_mode mode) minutes 0
