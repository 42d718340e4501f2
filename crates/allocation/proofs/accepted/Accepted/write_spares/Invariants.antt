-- What the first engines have to spare is stored in front of the list.
use Rattle.planning.proofs.Laws.Front.{Stored}
use Rattle.allocation.specs.Laws.Spares.{left_of}
use Rattle.allocation.proofs.accepted.Accepted.write_spares.Given as goal

abbrev pub invariant-loop-i : goal.invariant-loop-i
invariant-loop-i l = Stored (left_of l.self.plan.engines.count l.self.plan.deliveries.count l.capacities l.self.table.now) l.initial.spare l.i l.spare
