-- Each engine's capacity is stored in its turn.
use Rattle.std.proofs.Common.{rules, ap, min, ◌*◌, ◌/◌, take, ◌∙◌, ◌≤◌, ◌<◌, length, arith}
use Rattle.std.proofs.lemmas.List.{get_or-take, length-take-le}
use Rattle.planning.specs.Bounds.{most_engines}
use Rattle.planning.specs.ByValue.{no_figures, quiet_in}
use Rattle.planning.proofs.Laws.ByValue.{usable-kept, count-capacities_in}
use Rattle.planning.proofs.Laws.Front.{stored_none, over_zeros}
use Rattle.planning.proofs.Laws.Numbers.{kept_wider}
use Rattle.checks.specs.Laws.Paired.{stored-turn, stored-end}
use Rattle.allocation.specs.Laws.Running.{capacity-runs, length-running}
use Rattle.allocation.proofs.capacity.capacities.Goals as goal

pub running-runs-requires-clause-kept : goal.running-runs-requires-clause-kept
running-runs-requires-clause-kept c = kept_wider c.requires.count.most (usable-kept c.requires)

pub loop-i-init : goal.loop-i-init
loop-i-init c = stored_none _ _

-- the lists side by side, and what their pairs make
pub loop-i-preserved : goal.loop-i-preserved
loop-i-preserved c =
    let e = c.args.engines.now in
    let few : e.count ≤ length e.figures = omega (arith, c.requires.count.most, c.requires.figures) in
    rw c.capacity.ensures
    (stored-turn (take e.count e.figures) c.running-runs.result _ _ _ c.next.new.self _ (search rules) (search rules) (search rules)
    c.loop-i.yielded_by c.loop-i.invariant no_figures 0 0 (λ figures running. min figures.fuel (figures.watts * running / 60))
    (λ i l m.
    let inside : i < e.count = omega (arith, length-take-le e.count e.figures few) in (
      omega (arith, count-capacities_in e c.args.minutes),
      omega (arith, c.requires.count.most),
      capacity-runs e c.args.minutes i inside c.requires.count.most (get_or-take e.count e.figures i no_figures inside) c.running-runs.ensures,
    ))
    _ c.in-Some.is c.next.ensures.steps)

pub returns : goal.returns
returns c =
    let e = c.args.engines.now in
    let few : e.count ≤ length e.figures = omega (arith, c.requires.count.most, c.requires.figures) in
    stored-end (take e.count e.figures) c.running-runs.result _ _ _ c.next.new.self _ (search rules) (search rules) (search rules)
    c.loop-i.yielded_by c.loop-i.invariant
    (omega (
      arith,
      count-capacities_in e c.args.minutes,
      length-take-le e.count e.figures few,
      c.requires.count.most,
      ap length c.running-runs.ensures,
      length-running (quiet_in e.quiet) c.args.minutes,
    ))
    c.in-None.is c.next.ensures.steps
    ∙ over_zeros most_engines _
