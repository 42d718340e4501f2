-- The sum of the pieces passed.
use Rattle.std.proofs.Common.{◌≡◌}
use Rattle.allocation.specs.Laws.Spares.{load_at}
use Rattle.allocation.proofs.accepted.Accepted.load.Given as goal

abbrev pub invariant-loop-p : goal.invariant-loop-p
invariant-loop-p l = l.sum ≡ load_at l.self.plan.engines.count l.p l.self.table.now l.i
