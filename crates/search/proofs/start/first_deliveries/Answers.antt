-- 2 ^ n - 1 is the set of the first n.
use Rattle.std.proofs.Common.{ap, ◌∙◌, ℕ, ◌-◌, arith}
use Rattle.search.specs.Laws.FirstSet.{has_first}
use Rattle.search.specs.Laws.Sets.{shifted}
use Rattle.search.specs.Sets.{has, delivery_bits}
use Rattle.search.proofs.start.first_deliveries.Goals as goal

pub returns : goal.returns
returns c = λ p. ap (λ (m : ℕ). has (m - 1) p) (shifted delivery_bits c.args.n (omega arith)) ∙ has_first c.args.n p
