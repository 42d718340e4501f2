-- The fields before `at` are passed. The measure is what is left of the file, and one more for the field that may stand at its end.
use Rattle.std.proofs.Common.{◌-◌, ◌+◌, length}
use Rattle.planreader.specs.Laws.Cuts.{Passed}
use Rattle.planreader.proofs.entry.Entry.cut.Given as goal

abbrev pub invariant-loop-read : goal.invariant-loop-read
invariant-loop-read l = Passed l.file l.from l.count l.places l.at

abbrev pub decreases-loop-read : goal.decreases-loop-read
decreases-loop-read l = length l.file + 1 - l.at
