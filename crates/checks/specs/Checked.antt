-- What the checks of a call on numbers come to: the plan by value, or the refusal.
-- Assumes nothing.
use Rattle.std.specs.Prelude.{ℕ, replicate, Result, Ok, Err}
use Rattle.std.proofs.Math.Option.{Option, none, some}
use Rattle.planning.specs.declared.Plan.{Plan as ByValue}
use Rattle.planning.specs.declared.PlanLists.{PlanLists}
use Rattle.planning.specs.declared.Refusal.{Refusal}
use Rattle.planning.specs.ByValue.{by_value}
use Rattle.planning.specs.Numbers.{Call, call_of, refusal_of}

-- a call that is lent a table and a spare list of those lengths; what they hold is no matter of the checks
abbrev pub call_lent : PlanLists → (table spare : ℕ) → Call
call_lent lists table spare = call_of lists (replicate table 0) (replicate spare 0)

-- the plan by value of a call that is accepted
unfoldable pub plan_unless : Option Refusal → Call → Result ByValue Refusal
plan_unless none call = Ok (by_value call)
plan_unless (some refusal) call = Err refusal

unfoldable pub checked_of : Call → Result ByValue Refusal
checked_of call = plan_unless (refusal_of call) call
