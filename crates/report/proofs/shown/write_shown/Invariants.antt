-- The texts of the bytes from the present one on, and of the bracket that closes, are left.
use Rattle.std.proofs.Common.{drop}
use Rattle.lines.specs.Laws.Loops.{TextsLeft}
use Rattle.report.specs.Shown.{closed_texts}
use Rattle.report.proofs.shown.write_shown.Given as goal

abbrev pub invariant-loop-b : goal.invariant-loop-b
invariant-loop-b l =
    TextsLeft (closed_texts (drop l.b-index l.bytes)) l.out (closed_texts l.bytes) l.initial.out
