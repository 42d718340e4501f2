-- The measure is how much of the input is left.
use Rattle.std.proofs.Common.{length}
use Rattle.allocation_test.proofs.run_all.Given as goal

abbrev pub decreases-loop-input : goal.decreases-loop-input
decreases-loop-input g l = length l.input.rest.now
