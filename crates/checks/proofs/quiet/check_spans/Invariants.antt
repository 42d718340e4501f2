-- The spans passed so far are not refused.
use Rattle.checks.specs.Laws.Quiet.{SpansPass}
use Rattle.checks.proofs.quiet.check_spans.Given as goal

abbrev pub invariant-loop-k : goal.invariant-loop-k
invariant-loop-k l = SpansPass l.engines l.threes l.k
