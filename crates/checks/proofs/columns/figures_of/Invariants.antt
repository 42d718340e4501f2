-- The figures of the first engines are stored in front of zeros.
use Rattle.std.specs.Prelude.{length, replicate}
use Rattle.planning.proofs.Laws.Front.{Stored}
use Rattle.planning.specs.Bounds.{most_engines}
use Rattle.planning.specs.ByValue.{no_figures, figures_by}
use Rattle.checks.proofs.columns.figures_of.Given as goal

abbrev pub invariant-loop-i : goal.invariant-loop-i
invariant-loop-i l = Stored (figures_by l.watts l.fuels) (replicate most_engines no_figures) (length l.yielded) l.figures
