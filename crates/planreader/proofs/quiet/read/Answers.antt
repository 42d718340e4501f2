-- `read` meets its contract: check after check.
use Rattle.std.proofs.Common.{refl, sym, ◌∙◌, arith}
use Rattle.planreader.specs.Items.{fields_in}
use Rattle.planreader.specs.Laws.Exits.{exit}
use Rattle.planreader.specs.Laws.Parts.{by-ends}
use Rattle.planreader.specs.Laws.Quiet.{span_by, quiet-found, quiet-span, quiet_read}
use Rattle.planreader.specs.Quiet.{SpanRead}
use Rattle.planreader.proofs.quiet.read.Goals as goal

pub returns-in_err-place : goal.returns-in_err-place
unfolding SpanRead span_by
returns-in_err-place c =
    let (none, is) = exit c.from_residual.result c.from_residual.ensures.1 c.in_err-place.ensures.value in
    rw is (quiet-found _ _ (fields_in c.args.fields) (sym none ∙ c.find.ensures) refl refl)

pub returns-in_err-from : goal.returns-in_err-from
unfolding SpanRead span_by
returns-in_err-from c =
    let (none, is) = exit c.from_residual-in_err-from.result c.from_residual-in_err-from.ensures.1 c.in_err-from.ensures.value in
    let place = sym c.in_ok-place.ensures.ok_part ∙ c.find.ensures in
    let from = by-ends c.new-minutes.result _ c.new-minutes.ensures.start c.new-minutes.ensures.end c.in_range.ensures in
    rw is (quiet-found _ _ (fields_in c.args.fields) place (sym none ∙ from) refl)

pub returns-in_err-to : goal.returns-in_err-to
unfolding SpanRead span_by
returns-in_err-to c =
    let (none, is) = exit c.from_residual-in_err-to.result c.from_residual-in_err-to.ensures.1 c.in_err-to.ensures.value in
    let place = sym c.in_ok-place.ensures.ok_part ∙ c.find.ensures in
    let from = by-ends c.new-minutes.result _ c.new-minutes.ensures.start c.new-minutes.ensures.end c.in_range.ensures in
    let to = by-ends c.new-minutes.result _ c.new-minutes.ensures.start c.new-minutes.ensures.end c.in_range-2.ensures in
    rw is (quiet-found _ _ (fields_in c.args.fields) place (sym c.in_ok-from.ensures.ok_part ∙ from) (sym none ∙ to))

pub returns-then-not-fits_among : goal.returns-then-not-fits_among
returns-then-not-fits_among c =
    let place = sym c.in_ok-place.ensures.ok_part ∙ c.find.ensures in
    let from = by-ends c.new-minutes.result _ c.new-minutes.ensures.start c.new-minutes.ensures.end c.in_range.ensures in
    let to = by-ends c.new-minutes.result _ c.new-minutes.ensures.start c.new-minutes.ensures.end c.in_range-2.ensures in
    quiet-span _ _ (fields_in c.args.fields) place (sym c.in_ok-from.ensures.ok_part ∙ from) (sym c.in_ok-to.ensures.ok_part ∙ to) (omega arith)
    c.if-not-fits_among.ensures

pub returns : goal.returns
returns c =
    let place = sym c.in_ok-place.ensures.ok_part ∙ c.find.ensures in
    let from = by-ends c.new-minutes.result _ c.new-minutes.ensures.start c.new-minutes.ensures.end c.in_range.ensures in
    let to = by-ends c.new-minutes.result _ c.new-minutes.ensures.start c.new-minutes.ensures.end c.in_range-2.ensures in
    quiet_read _ _ (fields_in c.args.fields) place (sym c.in_ok-from.ensures.ok_part ∙ from) (sym c.in_ok-to.ensures.ok_part ∙ to) (omega arith)
    c.if-not-fits_among.ensures
