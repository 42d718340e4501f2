-- How many minutes each engine runs, as the code has them.
-- Assumes nothing.
use Rattle.std.specs.Prelude.{List, ℕ, suc}
use Rattle.planning.specs.Bounds.{most_engines}
use Rattle.planning.specs.Quiet.{Quiet, spans_of, running}
use Rattle.planning.specs.Tables.{listed}

-- of the minutes before T, for every engine that there may be
unfoldable pub running_each : List Quiet → (T : ℕ) → List ℕ
running_each quiet T = listed most_engines (λ i. running (spans_of (suc i) quiet) T)
