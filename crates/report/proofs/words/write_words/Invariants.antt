-- The texts of the words from the present byte on, with the numbers that are left, are left.
use Rattle.std.proofs.Common.{drop}
use Rattle.lines.specs.Laws.Loops.{TextsLeft}
use Rattle.report.specs.Words.{word_texts}
use Rattle.report.proofs.words.write_words.Given as goal

abbrev pub invariant-loop-b : goal.invariant-loop-b
invariant-loop-b l =
    TextsLeft (word_texts (drop l.b-index l.words) l.left) l.out (word_texts l.words l.numbers) l.fn.out
