-- The numbers read so far leave no more of the input than there was.
use Rattle.std.proofs.Common.{◌≤◌, length}
use Rattle.allocation_test.proofs.read_list.Given as goal

abbrev pub invariant-loop-number : goal.invariant-loop-number
invariant-loop-number l = length l.numbers.rest.now ≤ length l.fn.numbers.rest.now
