-- An open engine is a member of the set, so the subtraction does not wrap.
use Rattle.std.proofs.Common.{eq-eqb, ne_eqb, arith}
use Rattle.search.specs.Laws.Sets.{shifted, shifted-le}
use Rattle.search.specs.Sets.{engine_bits}
use Rattle.search.proofs.state.open_after.Goals as goal

pub overflow_sub-result : goal.overflow_sub-result
overflow_sub-result c = shifted-le engine_bits c.args.open c.args.i (omega arith) c.requires.1

pub returns-then-remaining-eq0 : goal.returns-then-remaining-eq0
returns-then-remaining-eq0 c = rw (eq-eqb c.args.remaining 0 c.if-remaining-eq0.true, shifted engine_bits c.args.i (omega arith))

pub returns-else-remaining-eq0 : goal.returns-else-remaining-eq0
returns-else-remaining-eq0 c = rw (ne_eqb c.args.remaining 0 c.if-remaining-eq0.false)
