-- The first capacities are stored in front of zeros.
use Rattle.std.specs.Prelude.{length, replicate}
use Rattle.planning.specs.Bounds.{most_engines}
use Rattle.planning.specs.ByValue.{engines_in}
use Rattle.planning.specs.Capacity.{each_capacity}
use Rattle.planning.proofs.Laws.Front.{Stored}
use Rattle.allocation.proofs.capacity.capacities.Given as goal

abbrev pub invariant-loop-i : goal.invariant-loop-i
invariant-loop-i l = Stored (each_capacity (engines_in l.engines) l.minutes) (replicate most_engines 0) (length l.yielded) l.out
