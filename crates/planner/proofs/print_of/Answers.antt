-- By the answer of the call: what is lent is what the print of every file takes. Assumes nothing.
use Rattle.std.proofs.Common.{◌≡◌, refl, List, ℕ, ◌≤◌, length, take, arith}
use Rattle.planning.specs.Bounds.{most_cells, most_engines}
use Rattle.planfile.specs.FileCall.{FileCall, print_length, print_output}
use Rattle.planfile.proofs.Laws.Program.{call-printed, call-refused, print-inside, prints_as_program}
use Rattle.planfile.specs.Print.{longest_print}
use Rattle.planfile.specs.Promises.{PrintsAsProgram, ProgramPrints}
use Rattle.planner.proofs.print_of.Goals as goal

-- what is printed is the program's print, and within the output
as-program : (call : FileCall) → length call.table ≡ most_cells → length call.spare ≡ most_engines → longest_print ≤ length call.output
    → {n : ℕ} {out : List ℕ} → n ≡ print_length call → out ≡ print_output call → ProgramPrints call.file (take n out) × (n ≤ length out)
unfolding PrintsAsProgram
as-program call table spare output p q = (rw (p, q) (prints_as_program call table spare output), rw (p, q) (print-inside call))

pub returns-in-Ok-clause-print : goal.returns-in-Ok-clause-print
returns-in-Ok-clause-print c =
    let print = call-printed _ c.plan_file.ensures c.in-Ok.is in
    (as-program _ refl refl (omega arith) print.0 print.1).0

pub returns-in-Ok-clause-within : goal.returns-in-Ok-clause-within
returns-in-Ok-clause-within c =
    let print = call-printed _ c.plan_file.ensures c.in-Ok.is in
    (as-program _ refl refl (omega arith) print.0 print.1).1

pub returns-in-Err-clause-print : goal.returns-in-Err-clause-print
returns-in-Err-clause-print c =
    let print = call-refused _ c.plan_file.ensures c.in-Err.is c.write_refusal.ensures in
    (as-program _ refl refl (omega arith) print.0 print.1).0

pub returns-in-Err-clause-within : goal.returns-in-Err-clause-within
returns-in-Err-clause-within c =
    let print = call-refused _ c.plan_file.ensures c.in-Err.is c.write_refusal.ensures in
    (as-program _ refl refl (omega arith) print.0 print.1).1
