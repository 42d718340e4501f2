-- What follows begins in the file. The measure is what is left of the file.
use Rattle.std.proofs.Common.{length, ◌-◌, ◌≤◌}
use Rattle.csv_test.proofs.show_records.Given as goal

abbrev pub invariant-loop-from : goal.invariant-loop-from
invariant-loop-from g l = l.from ≤ length l.file

abbrev pub decreases-loop-from : goal.decreases-loop-from
decreases-loop-from g l = length l.file - l.from
