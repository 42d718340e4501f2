-- The loop's invariant: the table made whole from here is straight fill's whole table.
use Rattle.std.proofs.Common.{◌≡◌, List, ℕ, length, take}
use Rattle.planning.specs.Bounds.{most_engines}
use Rattle.planning.specs.Search.{straight_fill}
use Rattle.planning.specs.Tables.{listed}
use Rattle.search.specs.declared.view.View.{View}
use Rattle.search.specs.Laws.Filling.{table_whole}
use Rattle.search.specs.Layout.{rest_of}
use Rattle.search.specs.Promises.{engines_of, deliveries_of}
use Rattle.search.specs.Steps.{energies}
use Rattle.search.proofs.view.View.straight.Given as goal

-- the deliveries' rests
abbrev pub rests : View → List ℕ
rests v = listed (deliveries_of v.task.now) (λ p. rest_of (energies v) v.state.now p)

abbrev pub invariant-loop-p : goal.invariant-loop-p
invariant-loop-p l =
    let engines = engines_of l.self.task.now in
    (length l.remaining ≡ most_engines)
    × (table_whole l.table (rests l.self) l.remaining engines l.p ≡ straight_fill (rests l.self) (take engines l.initial.remaining))
