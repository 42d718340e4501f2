-- Each number is what remains of its engine.
use Rattle.std.proofs.Common.{rules, ◌≡◌, ℕ, ◌<◌, sym, ◌∙◌, ext_get_or, arith}
use Rattle.planning.specs.Bounds.{most_engines}
use Rattle.planning.proofs.Laws.Tables.{length-listed, at_listed}
use Rattle.planning.specs.Tables.{listed, at}
use Rattle.search.specs.Layout.{remaining_at}
use Rattle.search.proofs.fill.open_amounts.Goals as goal

pub returns : goal.returns
returns c =
    let f : ℕ → ℕ = remaining_at c.args.s.now.«open» c.args.s.now.amount in
    let items = c.from_fn.ensures.items in
    ext_get_or 0 c.from_fn.result (listed most_engines f) (items.long ∙ sym (length-listed most_engines f))
    (λ i l.
    let inside : i < most_engines = omega (arith, items.long) in
    let (p, q, called) = items.at i 0 inside in
    let is : at c.from_fn.result i ≡ f i = search rules in
    is ∙ sym (at_listed most_engines f i inside))
