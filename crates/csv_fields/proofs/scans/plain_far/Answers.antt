-- Assumes nothing.
use Rattle.std.proofs.Common.{arith}
use Rattle.csv_fields.specs.Laws.Scans.{part_passed, found_rest}
use Rattle.csv_fields.proofs.scans.plain_far.Goals as goal

pub loop-at-preserved : goal.loop-at-preserved
loop-at-preserved g c =
    let passed = c.loop-at.invariant.1.1 in
    (omega arith, (omega arith, part_passed _ _ _ _ _ passed (omega arith) (omega arith) (c.all_plain.ensures.0 c.if-all_plain.true)))

pub returns : goal.returns
returns g c =
    let (behind, (room, passed)) = c.loop-at.invariant in
    found_rest _ _ _ _ _ behind room passed c.plain_count.ensures
