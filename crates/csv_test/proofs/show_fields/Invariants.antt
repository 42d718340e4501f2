-- What follows begins in the file. The measure is what is left of the file.
use Rattle.std.proofs.Common.{length, ◌-◌, ◌≤◌}
use Rattle.csv_test.proofs.show_fields.Given as goal

abbrev pub invariant-loop-field : goal.invariant-loop-field
invariant-loop-field g l = l.from ≤ length l.file

abbrev pub decreases-loop-field : goal.decreases-loop-field
decreases-loop-field g l = length l.file - l.from
