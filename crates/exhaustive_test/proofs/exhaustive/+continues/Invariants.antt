-- The measure is the number of cells from the place on.
use Rattle.std.proofs.Common.{◌-◌, length}
use Rattle.exhaustive_test.proofs.exhaustive.+continues.Given as goal

abbrev pub decreases-continues : goal.decreases-continues
decreases-continues l = length l.cells.now - l.at
