-- The texts of the numbers from `i` on, of which the first stands `times` times before them, are left.
use Rattle.std.proofs.Common.{drop, ◌≤◌}
use Rattle.lines.specs.Laws.Loops.{TextsLeft}
use Rattle.report.specs.Numbers.{texts_behind, number_texts}
use Rattle.report.proofs.numbers.write_numbers.Given as goal

abbrev pub invariant-loop-i : goal.invariant-loop-i
invariant-loop-i l =
    (l.times ≤ l.i) × TextsLeft (texts_behind l.times (drop l.i l.list)) l.out (number_texts l.list) l.fn.out
