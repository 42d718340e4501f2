-- The first spans are stored in front of zeros.
use Rattle.std.specs.Prelude.{map, replicate}
use Rattle.planning.proofs.Laws.Front.{Stored}
use Rattle.planning.specs.Bounds.{most_quiet}
use Rattle.planning.specs.ByValue.{no_span, span_by}
use Rattle.planning.specs.Numbers.{quiet_of}
use Rattle.checks.proofs.columns.spans_of.Given as goal

abbrev pub invariant-loop-k : goal.invariant-loop-k
invariant-loop-k l = Stored (map span_by (quiet_of l.quiet)) (replicate most_quiet no_span) l.k l.spans
