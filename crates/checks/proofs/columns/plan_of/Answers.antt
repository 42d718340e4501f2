-- Each list fits what it is stored in. Assumes nothing.
use Rattle.std.proofs.Common.{[], arith}
use Rattle.planning.specs.ByValue.{by_value}
use Rattle.planning.specs.Numbers.{call_of}
use Rattle.checks.specs.Laws.Columns.{watts_fit, fuels_fit, energies_fit, limits_fit, quiet_fit, parts-by-value}
use Rattle.checks.proofs.columns.plan_of.Goals as goal

pub figures_of-requires-clause-watts : goal.figures_of-requires-clause-watts
figures_of-requires-clause-watts c = watts_fit _ c.requires.usable

pub figures_of-requires-clause-fuels : goal.figures_of-requires-clause-fuels
figures_of-requires-clause-fuels c = fuels_fit _ c.requires.usable c.requires.engines

pub deliveries_of-requires-clause-energies : goal.deliveries_of-requires-clause-energies
deliveries_of-requires-clause-energies c = energies_fit _ c.requires.usable

pub deliveries_of-requires-clause-limits : goal.deliveries_of-requires-clause-limits
deliveries_of-requires-clause-limits c = limits_fit _ c.requires.usable c.requires.deliveries

pub spans_of-requires : goal.spans_of-requires
spans_of-requires c = quiet_fit _ c.requires.usable c.requires.threes

pub overflow_cast-result : goal.overflow_cast-result
unfolding by_value
overflow_cast-result c = omega (arith, c.requires.usable.allowance.most)

pub returns : goal.returns
returns c =
    let deliveries = c.deliveries_of.ensures in
    parts-by-value (call_of c.args.lists [] []) c.figures_of.ensures c.spans_of.ensures deliveries.count deliveries.energies deliveries.limits
