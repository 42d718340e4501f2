-- A turn stores the figures of an engine more.
use Rattle.std.specs.Prelude.{max}
use Rattle.std.proofs.Common.{rules, sym, ◌∙◌, length, arith}
use Rattle.planning.proofs.Laws.Front.{stored_none, over_alike}
use Rattle.planning.proofs.Laws.Tables.{length-listed, listed_at}
use Rattle.planning.specs.ByValue.{no_figures, figures_of}
use Rattle.checks.specs.Laws.Paired.{stored-turn, stored-end}
use Rattle.checks.proofs.columns.figures_of.Goals as goal

pub loop-i-init : goal.loop-i-init
loop-i-init c = stored_none _ _

pub loop-i-preserved : goal.loop-i-preserved
loop-i-preserved c =
    let watts = c.args.watts.now in
    let fuels = c.args.fuels.now in
    let figures = figures_of watts fuels in
    let count = max (length watts) (length fuels) in
    stored-turn watts fuels _ _ _ c.next.new.self _ (search rules) (search rules) (search rules) c.loop-i.yielded_by c.loop-i.invariant
    0 0 no_figures (λ watts fuel. record { watts = watts; fuel = fuel })
    (λ i l m. (omega (arith, length-listed count figures), omega arith, sym (listed_at count i figures no_figures (omega arith))))
    _ c.in-Some.is c.next.ensures.steps

pub returns : goal.returns
returns c =
    let watts = c.args.watts.now in
    let fuels = c.args.fuels.now in
    let count = max (length watts) (length fuels) in
    stored-end watts fuels _ _ _ c.next.new.self _ (search rules) (search rules) (search rules) c.loop-i.yielded_by c.loop-i.invariant
    (omega (arith, length-listed count (figures_of watts fuels))) c.in-None.is c.next.ensures.steps
    ∙ over_alike no_figures _ _
