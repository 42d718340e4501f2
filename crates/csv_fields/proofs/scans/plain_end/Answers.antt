-- Assumes nothing.
use Rattle.std.proofs.Common.{arith}
use Rattle.csv_fields.specs.Laws.Scans.{found_far}
use Rattle.csv_fields.proofs.scans.plain_end.Goals as goal

pub returns-else-at-end : goal.returns-else-at-end
returns-else-at-end g c = found_far _ _ _ _ _ (omega arith) (omega arith) _ c.plain_count.ensures (omega arith) c.plain_far.ensures
