-- The loop's invariant: the row made whole from here is the row made whole from its start, and so are the engines' remainings.
use Rattle.std.proofs.Common.{◌≡◌}
use Rattle.planning.specs.Search.{drawn, undrawn}
use Rattle.search.specs.Laws.Filling.{row_whole, remains_whole}
use Rattle.search.proofs.fill.fill_row.Given as goal

abbrev pub invariant-loop-i : goal.invariant-loop-i
invariant-loop-i l =
    (row_whole l.row l.remaining l.rest l.i ≡ drawn l.initial.rest l.initial.remaining)
    × (remains_whole l.remaining l.rest l.i ≡ undrawn l.initial.rest l.initial.remaining)
