-- The parts, in their order, make up planning's refusal.
use Rattle.std.proofs.Common.{sym, ap, ◌∙◌, arith}
use Rattle.std.proofs.lemmas.Bool.Decides.{nat_tests}
use Rattle.std.proofs.lemmas.Result.{err_from_is_err_and}
use Rattle.planning.specs.Numbers.{refusal_of}
use Rattle.planning.specs.Refusals.{check, ◌then◌, verdict_of}
use Rattle.checks.specs.Laws.Parts.{parted}
use Rattle.checks.specs.Laws.Verdicts.{accepted-first, refused-first}
use Rattle.checks.proofs.refusals.refusal.Goals as goal

pub returns-then-lists : goal.returns-then-lists
unfolding refusal_of check ◌then◌ verdict_of
returns-then-lists c = grind (arith, nat_tests)

pub returns-in_err-counts : goal.returns-in_err-counts
returns-in_err-counts c =
    let p = err_from_is_err_and c.from_residual.result c.from_residual.ensures.1 in
    rw (p.1, p.2)
    (refused-first _ _ _ (sym c.in_err-counts.was ∙ c.counts.ensures)
    ∙ ap verdict_of (parted c.args.lists c.args.table c.args.spare c.if-lists.false c.if-lists-2.false c.if-lists-ne0.false))

pub returns-in_err-values : goal.returns-in_err-values
returns-in_err-values c =
    let p = err_from_is_err_and c.from_residual-in_err-values.result c.from_residual-in_err-values.ensures.1 in
    rw (p.1, p.2)
    (refused-first _ _ _ (sym c.in_err-values.was ∙ c.values.ensures)
    ∙ accepted-first _ _ (sym c.in_ok-counts.was ∙ c.counts.ensures)
    ∙ ap verdict_of (parted c.args.lists c.args.table c.args.spare c.if-lists.false c.if-lists-2.false c.if-lists-ne0.false))

pub returns : goal.returns
returns c =
    c.check_spans.ensures
    ∙ accepted-first _ _ (sym c.in_ok-values.was ∙ c.values.ensures)
    ∙ accepted-first _ _ (sym c.in_ok-counts.was ∙ c.counts.ensures)
    ∙ ap verdict_of (parted c.args.lists c.args.table c.args.spare c.if-lists.false c.if-lists-2.false c.if-lists-ne0.false)
