-- The minutes that each engine runs by the spans passed so far.
use Rattle.std.proofs.Common.{◌≡◌}
use Rattle.planning.specs.ByValue.{quiet_at}
use Rattle.planning.specs.Tables.{listed}
use Rattle.allocation.specs.Running.{running_each}
use Rattle.allocation.proofs.capacity.running.Given as goal

abbrev pub invariant-loop-span : goal.invariant-loop-span
invariant-loop-span l = l.out ≡ running_each (listed l.span-index (λ j. quiet_at l.quiet j)) l.minutes
