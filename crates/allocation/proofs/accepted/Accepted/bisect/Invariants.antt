-- The bisection between low and high is the one asked for, and the search at high found the table in the scratch.
use Rattle.std.proofs.Common.{◌≡◌, ◌-◌, ◌≤◌}
use Rattle.planning.specs.ByValue.{plan_in}
use Rattle.allocation.specs.Laws.Bisection.{Bracket}
use Rattle.allocation.proofs.accepted.Accepted.bisect.Given as goal

abbrev pub invariant-loop-high : goal.invariant-loop-high
invariant-loop-high l =
    record {
      plan : l.self.plan ≡ l.fn.self.plan;
      ordered : l.low ≤ l.high;
      within : l.high ≤ l.fn.self.plan.minutes;
      bracket : Bracket (plan_in l.fn.self.plan) l.fn.self.plan.minutes l.low l.high l.best l.self.table.now;
    }

abbrev pub decreases-loop-high : goal.decreases-loop-high
decreases-loop-high l = l.high - l.low
