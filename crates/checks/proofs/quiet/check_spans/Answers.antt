-- A span that is not refused is one more that passes.
use Rattle.std.proofs.Common.{arith}
use Rattle.std.proofs.lemmas.Result.{err_from_is_err_and}
use Rattle.planning.proofs.Laws.Triples.{quiet_threes}
use Rattle.checks.specs.Laws.Quiet.{spans_begin, spans_pass, spans_fail, spans-end}
use Rattle.checks.proofs.quiet.check_spans.Goals as goal

pub loop-k-init : goal.loop-k-init
loop-k-init c = spans_begin _ _

pub returns-in_err-check_span : goal.returns-in_err-check_span
returns-in_err-check_span c =
    let p = err_from_is_err_and c.from_residual.result c.from_residual.ensures.1 in
    rw (p.1, p.2, quiet_threes c.args.quiet.now, ← c.as_chunks.ensures.front)
    (spans_fail _ _ c.loop-k.invariant (omega arith) c.check_span.ensures c.in_err-check_span.was)

pub loop-k-preserved : goal.loop-k-preserved
loop-k-preserved c = spans_pass _ _ c.loop-k.invariant (omega arith) c.check_span.ensures c.in_ok-check_span.was

pub returns : goal.returns
returns c = rw (quiet_threes c.args.quiet.now, ← c.as_chunks.ensures.front) (spans-end _ _ c.loop-k.invariant (omega arith))
