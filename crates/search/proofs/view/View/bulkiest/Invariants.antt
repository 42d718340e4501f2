-- The loop's invariant: `best` is the choice among the deliveries passed.
use Rattle.search.specs.Laws.Choice.{BestSoFar}
use Rattle.search.proofs.view.View.bulkiest.Given as goal

abbrev pub invariant-loop-p : goal.invariant-loop-p
invariant-loop-p l = BestSoFar l.self l.p-iterator.0 l.best
