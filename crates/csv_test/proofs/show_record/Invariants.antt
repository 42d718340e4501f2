-- The next field begins in the text. The measure is what is left of the text.
use Rattle.std.proofs.Common.{length, ◌-◌, ◌≤◌}
use Rattle.csv_test.proofs.show_record.Given as goal

abbrev pub invariant-loop-from : goal.invariant-loop-from
invariant-loop-from g l = l.from ≤ length l.text

abbrev pub decreases-loop-from : goal.decreases-loop-from
decreases-loop-from g l = length l.text - l.from
