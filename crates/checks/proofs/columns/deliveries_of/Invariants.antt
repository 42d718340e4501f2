-- The first energies and limits are stored in front of zeros.
use Rattle.std.specs.Prelude.{length, replicate}
use Rattle.planning.proofs.Laws.Front.{Stored}
use Rattle.planning.specs.Bounds.{most_deliveries}
use Rattle.checks.proofs.columns.deliveries_of.Given as goal

abbrev pub invariant-loop-p : goal.invariant-loop-p
invariant-loop-p l =
    record {
      energies : Stored l.energies (replicate most_deliveries 0) (length l.yielded) l.energy;
      limits : Stored l.limits (replicate most_deliveries 0) (length l.yielded) l.limit;
    }
