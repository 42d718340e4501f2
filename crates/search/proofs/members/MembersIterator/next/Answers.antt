-- The bit of the least member is one of the number, and no member stands before it.
use Rattle.std.proofs.Common.{arith}
use Rattle.std.specs.Int.Count.{count_trailing_zeros}
use Rattle.search.specs.Laws.Passes.{least-of}
use Rattle.search.specs.Laws.Sets.{least-member, shifted, shifted-le}
use Rattle.search.specs.Sets.{delivery_bits}
use Rattle.search.proofs.members.MembersIterator.next.Goals as goal

pub overflow_sub-self : goal.overflow_sub-self
overflow_sub-self c =
    let least = least-member delivery_bits c.args.self.now.0 (omega arith) (omega arith) in
    shifted-le delivery_bits c.args.self.now.0 _ least.0 least.1

pub returns-clause-steps : goal.returns-clause-steps
returns-clause-steps c =
    let set = c.args.self.now.0 in
    let least = least-member delivery_bits set (omega arith) (omega arith) in
    rw (shifted delivery_bits (count_trailing_zeros delivery_bits set) least.0) (least-of delivery_bits set c.if-self-eq0.false (omega arith))
