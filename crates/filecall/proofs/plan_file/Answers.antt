-- By what the file is read as, and by the lengths of what is lent. Assumes nothing.
use Rattle.planreader.specs.Laws.Plans.{read-refused, read-accepted, read-usable}
use Rattle.filecall.specs.Calls.{call_with}
use Rattle.filecall.specs.Laws.FileCall.{refusal-promised, handed-promised, file-refused, table-refused, spare-refused, call_space}
use Rattle.planfile.specs.Reading.{fault}
use Rattle.filecall.proofs.plan_file.Goals as goal

pub returns-in-Err : goal.returns-in-Err
returns-in-Err c =
    let call = call_with c.args.file.now c.args.table.now c.args.spare.now c.args.output.now in
    refusal-promised call _ (file-refused call _ (read-refused _ _ c.read.ensures _ c.in-Err.is))

pub returns-in_default : goal.returns-in_default
unfolding fault
returns-in_default c =
    let call = call_with c.args.file.now c.args.table.now c.args.spare.now c.args.output.now in
    let read = read-accepted _ _ c.read.ensures _ c.in-Ok.is in
    rw c.at.ensures (refusal-promised call _ (table-refused call _ read c.in_default.ensures.cases))

pub returns-in_default-as_mut_array : goal.returns-in_default-as_mut_array
unfolding fault
returns-in_default-as_mut_array c =
    let call = call_with c.args.file.now c.args.table.now c.args.spare.now c.args.output.now in
    let read = read-accepted _ _ c.read.ensures _ c.in-Ok.is in
    let table = c.in-Some.ensures.cases in
    rw (c.at-in_default-as_mut_array.ensures, table.same)
    (refusal-promised call _ (spare-refused call _ read table.long c.in_default-as_mut_array.ensures.cases))

pub in_place-requires : goal.in_place-requires
in_place-requires c = (read-usable _ _ c.read.ensures _ c.in-Ok.is, c.if-output-ge-LONGEST_PRINT.true)

pub aside-requires : goal.aside-requires
aside-requires c = read-usable _ _ c.read.ensures _ c.in-Ok.is

pub returns-then-output-ge-LONGEST_PRINT : goal.returns-then-output-ge-LONGEST_PRINT
returns-then-output-ge-LONGEST_PRINT c =
    let call = call_with c.args.file.now c.args.table.now c.args.spare.now c.args.output.now in
    let read = read-accepted _ _ c.read.ensures _ c.in-Ok.is in
    let table = c.in-Some.ensures.cases in
    let spare = c.in-Some-as_mut_array.ensures.cases in
    handed-promised call _ (call_space call _ read table.long spare.long) (rw (table.same, spare.same) at c.in_place.ensures)

pub returns-else-output-ge-LONGEST_PRINT : goal.returns-else-output-ge-LONGEST_PRINT
returns-else-output-ge-LONGEST_PRINT c =
    let call = call_with c.args.file.now c.args.table.now c.args.spare.now c.args.output.now in
    let read = read-accepted _ _ c.read.ensures _ c.in-Ok.is in
    let table = c.in-Some.ensures.cases in
    let spare = c.in-Some-as_mut_array.ensures.cases in
    handed-promised call _ (call_space call _ read table.long spare.long) (rw (table.same, spare.same) at c.aside.ensures)
