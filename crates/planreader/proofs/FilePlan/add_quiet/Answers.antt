-- `add_quiet` meets its contract: the span that was read has room, and is stored.
use Rattle.std.proofs.Common.{arith, refl, length-take}
use Rattle.std.proofs.lemmas.Result.{err_from_is_err_and}
use Rattle.planreader.specs.Items.{fields_in}
use Rattle.planreader.specs.Laws.Quiet.{quiet-numbers, span-fits}
use Rattle.planreader.specs.Quiet.{with_span, plan_with_span, AddsQuiet}
use Rattle.planreader.proofs.FilePlan.add_quiet.Goals as goal

pub returns-in_err-span : goal.returns-in_err-span
unfolding AddsQuiet
returns-in_err-span c =
    let p = c.args.self.now in
    let (fault, is, same) = err_from_is_err_and c.from_residual.result c.from_residual.ensures.1 in
    rw (is, same) (rw (quiet-numbers p.spans p.quiet c.requires.threes) c.in_err-span.ensures, refl)

pub bounds-self-k : goal.bounds-self-k
bounds-self-k c =
    let p = c.args.self.now in
    let few = length-take p.engines.count p.engines.names in
    omega (
      arith,
      span-fits p (fields_in c.args.fields) c.in_ok-span.span (omega arith) c.requires
          (rw (quiet-numbers p.spans p.quiet c.requires.threes) c.in_ok-span.ensures),
    )

pub returns : goal.returns
unfolding AddsQuiet plan_with_span with_span
returns c =
    let p = c.args.self.now in
    (c.in_ok-span.span, rw (quiet-numbers p.spans p.quiet c.requires.threes) c.in_ok-span.ensures, refl)
