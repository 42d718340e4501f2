-- The bytes so far are plain. The measure is what is left. Assumes nothing.
use Rattle.std.proofs.Common.{◌-◌, ◌≤◌, length, not, nat_eq}
use Rattle.csv_fields.specs.Scans.{Passed}
use Rattle.csv_fields.proofs.scans.plain_far.Given as goal

abbrev pub invariant-loop-at : goal.invariant-loop-at
invariant-loop-at g l = (l.from ≤ l.at) × ((l.at ≤ length l.bytes) × Passed l.bytes (not (nat_eq g.row.QUOTED 0)) l.from l.at)

abbrev pub decreases-loop-at : goal.decreases-loop-at
decreases-loop-at g l = length l.bytes - l.at
