-- The bytes so far are plain. Assumes nothing.
use Rattle.std.specs.Prelude.{not, nat_eq}
use Rattle.csv_fields.specs.Scans.{Passed}
use Rattle.csv_fields.proofs.scans.plain_count.Given as goal

abbrev pub invariant-loop-i : goal.invariant-loop-i
invariant-loop-i g l = Passed l.bytes (not (nat_eq g.row.QUOTED 0)) 0 l.i
