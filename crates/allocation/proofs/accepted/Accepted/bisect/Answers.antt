-- A turn by what the search at the middle came to.
use Rattle.std.proofs.Common.{arith, ◌∙◌}
use Rattle.allocation.specs.Laws.Bisection.{bracket_last, bracket_found, bracket_none, bracket_stopped}
use Rattle.allocation.proofs.accepted.Accepted.bisect.Goals as goal

pub loop-high-preserved-in-Found : goal.loop-high-preserved-in-Found
loop-high-preserved-in-Found c =
    let here = c.loop-high.invariant in
    let ends = rw here.plan at c.search_at-ended.ensures.ends in
    record {
      plan = c.search_at-ended.ensures.kept.0 ∙ here.plan;
      ordered = omega arith;
      within = omega arith;
      bracket = bracket_found here.bracket (omega arith) (omega arith) ends c.in-Found.is;
    }

pub loop-high-preserved : goal.loop-high-preserved
loop-high-preserved c =
    let here = c.loop-high.invariant in
    let ends = rw here.plan at c.search_at-ended.ensures.ends in
    record {
      plan = c.search_at-ended.ensures.kept.0 ∙ here.plan;
      ordered = omega arith;
      within = omega arith;
      bracket = bracket_none here.bracket (omega arith) (omega arith) ends c.in-None.is;
    }

pub returns-in-Stopped-clause-answers : goal.returns-in-Stopped-clause-answers
returns-in-Stopped-clause-answers c =
    let here = c.loop-high.invariant in
    let ends = rw here.plan at c.search_at-ended.ensures.ends in
    bracket_stopped here.bracket (omega arith) (omega arith) ends c.in-Stopped.is c.answer_of.ensures

pub returns-clause-answers : goal.returns-clause-answers
returns-clause-answers c = bracket_last c.loop-high.invariant.bracket (omega arith) c.answer_of-2.ensures
