-- Planned on the front of the tables lent, and printed from there. Assumes nothing.
use Rattle.std.proofs.Common.{rules}
use Rattle.filecall.specs.Laws.HandOver.{names-count, some-engine, own-cells, print-fits, handed}
use Rattle.filecall.proofs.call.in_place.Goals as goal

pub write-requires : goal.write-requires
write-requires c =
    let u = c.requires.0 in
    rw (names-count u.deliveries, names-count u.engines) (some-engine u, own-cells c.planned-answer.ensures)

pub unwrap-requires : goal.unwrap-requires
unwrap-requires c = rw (print-fits c.planned-answer.ensures c.new-out.ensures.front c.new-out.ensures.lent c.requires.1 c.write.ensures)

pub returns : goal.returns
returns c =
    handed _ _ c.planned-answer.ensures c.new-out.ensures.front c.new-out.ensures.lent c.requires.1 c.write.ensures c.len.ensures (search rules)
