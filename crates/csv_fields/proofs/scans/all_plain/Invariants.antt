-- The flag is still set exactly where the bytes so far are plain. Assumes nothing.
use Rattle.std.specs.Prelude.{◌≡◌, ◌↔◌, true, not, nat_eq}
use Rattle.csv_fields.specs.Scans.{Passed}
use Rattle.csv_fields.proofs.scans.all_plain.Given as goal

abbrev pub invariant-loop-b : goal.invariant-loop-b
invariant-loop-b g l = (l.plain ≡ true) ↔ Passed l.bytes (not (nat_eq g.row.QUOTED 0)) 0 l.b-index
