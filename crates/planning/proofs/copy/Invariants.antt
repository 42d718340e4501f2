-- `planning::copy`: the first numbers that there is room for are stored in front of the list.
use Rattle.std.proofs.Common.{take}
use Rattle.planning.proofs.Laws.Front.{Stored}
use Rattle.planning.proofs.copy.Given as goal

abbrev pub invariant-loop-i : goal.invariant-loop-i
invariant-loop-i l = Stored (take l.n l.numbers) l.fn.to l.i l.to
