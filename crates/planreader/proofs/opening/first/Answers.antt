-- `first` meets its contract: the record is cut, and read by its fields.
use Rattle.std.proofs.Common.{sym, ap, ◌∙◌}
use Rattle.std.proofs.lemmas.Result.{err_from_is_err_and}
use Rattle.planreader.specs.Laws.Opening.{opening_faulty}
use Rattle.planreader.specs.Opening.{opening_read, read_opening, FirstRead}
use Rattle.planreader.specs.Parts.{CutAt}
use Rattle.planreader.proofs.opening.first.Goals as goal

pub returns-in_err-entry : goal.returns-in_err-entry
unfolding FirstRead CutAt
returns-in_err-entry c =
    let (what, is, same) = err_from_is_err_and c.from_residual.result c.from_residual.ensures.1 in
    rw (is, same) (opening_faulty _ _ (c.in_err-entry.ensures 1))

pub returns-in_err-read : goal.returns-in_err-read
unfolding FirstRead CutAt opening_read
returns-in_err-read c =
    let (what, is, same) = err_from_is_err_and c.from_residual-in_err-read.result c.from_residual-in_err-read.ensures.1 in
    rw (is, same) (ap read_opening (sym c.in_ok-entry.ensures.text) ∙ sym c.in_err-read.ensures)

pub returns : goal.returns
unfolding FirstRead CutAt opening_read
returns c = (ap read_opening (sym c.in_ok-entry.ensures.text) ∙ sym c.in_ok-read.ensures, c.in_ok-entry.ensures.behind)
