-- The lines from engine `i` on are left. Assumes nothing.
use Rattle.std.proofs.Common.{length}
use Rattle.lines.specs.Laws.Lines.{LinesLeft}
use Rattle.planning.specs.Tables.{at}
use Rattle.planfile.specs.Print.{row_lines}
use Rattle.filecall.specs.Laws.Printing.{row_from}
use Rattle.filecall.proofs.print.write_row.Given as goal

abbrev pub invariant-loop-engine : goal.invariant-loop-engine
invariant-loop-engine l =
    LinesLeft (row_from l.delivery l.engines l.row (length l.yielded)) l.out (row_lines l.delivery l.engines (at l.row)) l.fn.out
