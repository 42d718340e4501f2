-- `add_next` meets its contract: the record is cut, and added by its fields.
use Rattle.std.proofs.lemmas.Result.{err_from_is_err_and}
use Rattle.planreader.specs.Laws.Records.{record_faulty}
use Rattle.planreader.specs.Parts.{CutAt}
use Rattle.planreader.specs.Records.{AddsNext}
use Rattle.planreader.proofs.records.add_next.Goals as goal

pub returns-in_err-entry : goal.returns-in_err-entry
unfolding AddsNext CutAt
returns-in_err-entry c =
    let (what, is, same) = err_from_is_err_and c.from_residual.result c.from_residual.ensures.1 in
    rw (is, same) (record_faulty _ _ c.in_err-entry.ensures _)

pub returns-in_err-add_record : goal.returns-in_err-add_record
unfolding AddsNext CutAt
returns-in_err-add_record c =
    let (what, is, same) = err_from_is_err_and c.from_residual-in_err-add_record.result c.from_residual-in_err-add_record.ensures.1 in
    rw (is, same, ← c.in_ok-entry.ensures.text) c.in_err-add_record.ensures

pub returns : goal.returns
unfolding AddsNext CutAt
returns c = (rw (← c.in_ok-entry.ensures.text) c.in_ok-add_record.ensures, c.in_ok-entry.ensures.behind)
