-- The place looked for is that from here on. The measure is what is left. Assumes nothing.
use Rattle.std.proofs.Common.{◌≡◌, ◌-◌, true, length}
use Rattle.csv_fields.specs.Laws.Outside.{place_of}
use Rattle.csv_fields.proofs.scans.find_outside.Given as goal

abbrev pub invariant-loop-at : goal.invariant-loop-at
invariant-loop-at l = place_of l.b true l.bytes l.from ≡ place_of l.b l.outside l.bytes l.at

abbrev pub decreases-loop-at : goal.decreases-loop-at
decreases-loop-at l = length l.bytes - l.at
