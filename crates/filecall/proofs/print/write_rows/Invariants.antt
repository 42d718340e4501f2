-- A row of pieces is left for each delivery that is left, and their lines are. Assumes nothing.
use Rattle.std.proofs.Common.{◌≡◌, ◌*◌, length}
use Rattle.std.specs.Iterator.Adapters.{zip_first, zip_second}
use Rattle.std.specs.Slice.Iter.{iter_rest, chunks_exact_rest, chunks_exact_size}
use Rattle.lines.specs.Laws.Lines.{LinesLeft}
use Rattle.planning.specs.Tables.{piece_in}
use Rattle.planfile.specs.Print.{piece_lines}
use Rattle.filecall.proofs.print.write_rows.Given as goal

abbrev pub invariant-loop-delivery : goal.invariant-loop-delivery
invariant-loop-delivery l =
    let n = length l.engines in
    let names = iter_rest (zip_first l.delivery-iterator) in
    let rows = zip_second l.delivery-iterator in
    (chunks_exact_size rows ≡ n) × (length (chunks_exact_rest rows) ≡ length names * n)
    × LinesLeft (piece_lines names l.engines (piece_in n (chunks_exact_rest rows))) l.out (piece_lines l.deliveries l.engines (piece_in n l.pieces)) l.fn.out
