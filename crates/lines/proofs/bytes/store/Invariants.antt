-- Storing the bytes left from the present place on makes the same output as storing all of them at the entry.
use Rattle.std.proofs.Common.{drop, ◌+◌}
use Rattle.rfc4180.proofs.Laws.Stores.{Ahead}
use Rattle.lines.proofs.bytes.store.Given as goal

abbrev pub invariant-loop-i : goal.invariant-loop-i
invariant-loop-i l = Ahead (drop l.i l.bytes) (l.at + l.i) l.out l.fn.out l.at l.bytes
