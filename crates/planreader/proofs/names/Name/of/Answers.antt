-- `of` makes a name: 0 stands behind the bytes that count.
use Rattle.std.proofs.Common.{refl, take_at}
use Rattle.planreader.specs.Laws.Padding.{padded-front}
use Rattle.planreader.proofs.names.Name.of.Goals as goal

pub invariant_of-result : goal.invariant_of-result
invariant_of-result c = (c.requires, rw (c.copy_from_slice.ensures.after, take_at c.args.text.now _ _ refl, padded-front 16 c.args.text.now))
