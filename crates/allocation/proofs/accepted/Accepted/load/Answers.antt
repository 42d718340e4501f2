-- The sum of the pieces passed is at most that of all, which fits.
use Rattle.std.proofs.Common.{refl, sym, ap, ◌∙◌, ℕ, ◌+◌, ◌*◌, arith}
use Rattle.planning.specs.Sum.{sum}
use Rattle.planning.specs.Tables.{piece_in, cell, at}
use Rattle.planning.proofs.Laws.Finite.Sums.{sum-next, next-within}
use Rattle.allocation.proofs.accepted.Accepted.load.Goals as goal

pub loop-p-init : goal.loop-p-init
unfolding sum
loop-p-init c = refl

pub overflow_add-sum-in-loop-p : goal.overflow_add-sum-in-loop-p
unfolding piece_in cell
overflow_add-sum-in-loop-p c =
    let a = c.args in
    let plan = a.self.now.plan in
    let pieces : ℕ → ℕ = λ p. piece_in plan.engines.count a.self.now.table.now p a.i in
    omega (arith, next-within c.loop-p.p plan.deliveries.count pieces c.loop-p-test.true, c.requires.most, c.loop-p.invariant)

pub loop-p-preserved : goal.loop-p-preserved
unfolding piece_in cell
loop-p-preserved c =
    let a = c.args in
    let here = c.loop-p in
    ap (λ (s : ℕ). s + at a.self.now.table.now (here.p * a.self.now.plan.engines.count + a.i)) here.invariant ∙ sym (sum-next here.p _)
