-- `read` meets its contract: the beginning, then the other records into an empty plan.
use Rattle.std.proofs.Common.{sym, ap, ◌∙◌}
use Rattle.std.proofs.lemmas.Result.{err_from_is_err_and}
use Rattle.planning.specs.Tables.{padded}
use Rattle.planreader.specs.Columns.{by_value, reading_of}
use Rattle.planreader.specs.Laws.Pending.{records-refused-by, records-read-by}
use Rattle.planreader.specs.Opening.{BeginsBy}
use Rattle.planreader.proofs.read.Goals as goal

pub returns-in_err-opening : goal.returns-in_err-opening
unfolding BeginsBy reading_of
returns-in_err-opening c =
    let (refusal, is, same) = err_from_is_err_and c.from_residual.result c.from_residual.ensures.1 in
    rw (is, same) (ap reading_of (sym c.in_err-opening.ensures))

pub read-requires : goal.read-requires
unfolding BeginsBy by_value padded
read-requires c = (c.in_ok-opening.ensures.0, rw (c.none.ensures, c.none-2.ensures))

pub returns-in_err-read : goal.returns-in_err-read
unfolding BeginsBy reading_of
returns-in_err-read c =
    let (refusal, is, same) = err_from_is_err_and c.from_residual-in_err-read.result c.from_residual-in_err-read.ensures.1 in
    rw (is, same) (ap reading_of (sym (c.in_ok-opening.ensures.1 ∙ records-refused-by _ _ _ c.in_err-read.ensures)))

pub returns : goal.returns
unfolding BeginsBy
returns c = records-read-by _ _ c.in_ok-read.ensures ∙ ap reading_of (sym c.in_ok-opening.ensures.1)
