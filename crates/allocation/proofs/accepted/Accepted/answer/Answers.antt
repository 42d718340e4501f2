-- By mode.
use Rattle.planning.specs.ByValue.{plan_in}
use Rattle.allocation.specs.Laws.Modes.{answered-at, fixed-planned, shortest-planned}
use Rattle.allocation.proofs.accepted.Accepted.answer.Goals as goal

pub returns-in-Fixed-clause-answers : goal.returns-in-Fixed-clause-answers
unfolding plan_in
returns-in-Fixed-clause-answers c =
    rw (fixed-planned (plan_in c.args.self.now.plan) c.in-Fixed.is) (answered-at _ _ c.search_at.ensures.ends c.answer_of.ensures)

pub returns-in-Shortest-clause-answers : goal.returns-in-Shortest-clause-answers
unfolding plan_in
returns-in-Shortest-clause-answers c = rw (shortest-planned (plan_in c.args.self.now.plan) c.in-Shortest.is) c.shortest.ensures.answers
