-- The measure is how much of the input is left. Assumes nothing.
use Rattle.std.proofs.Common.{length}
use Rattle.csv_test.proofs.show_examples.Given as goal

abbrev pub decreases-loop-input : goal.decreases-loop-input
decreases-loop-input g l = length l.input.rest.now
