-- The measures of choose, lay and cut, and where their loops stand. Each try lowers the size of the state; choose hands its own state to
-- lay or cut, so its measure is one more.
use Rattle.std.proofs.Common.{◌+◌, ◌*◌}
use Rattle.planning.specs.Search.{size}
use Rattle.search.specs.Laws.Rounds.Kinds.{laying, cutting}
use Rattle.search.specs.Laws.Rounds.Loop.{Loop}
use Rattle.search.specs.Layout.{document}
use Rattle.search.proofs.cycle.Run.+choose_cut_lay.Given as goal

abbrev pub decreases-choose : goal.decreases-choose
decreases-choose l = 2 * size (document l.self.now.task.now l.s) + 1

abbrev pub decreases-cut : goal.decreases-cut
decreases-cut l = 2 * size (document l.self.now.task.now l.s)

abbrev pub decreases-lay : goal.decreases-lay
decreases-lay l = 2 * size (document l.self.now.task.now l.s)

abbrev pub invariant-cut-loop-i : goal.invariant-cut-loop-i
invariant-cut-loop-i l = Loop cutting l.s l.pick l.initial.self l.self l.i-iterator.0

abbrev pub invariant-lay-loop-i : goal.invariant-lay-loop-i
invariant-lay-loop-i l = Loop laying l.s l.pick l.initial.self l.self l.i-iterator.0
