-- A turn stores an energy and a limit more.
use Rattle.std.proofs.Common.{rules, refl, ◌∙◌, arith}
use Rattle.planning.proofs.Laws.Front.{stored_none, over_zeros}
use Rattle.checks.specs.Laws.Paired.{stored-turn, stored-end}
use Rattle.checks.proofs.columns.deliveries_of.Goals as goal

pub loop-p-init : goal.loop-p-init
loop-p-init c = record { energies = stored_none _ _; limits = stored_none _ _ }

pub loop-p-preserved : goal.loop-p-preserved
loop-p-preserved c =
    let here = c.loop-p in
    let energies = c.args.energies.now in
    let limits = c.args.limits.now in
    record {
      energies =
          stored-turn energies limits _ _ _ c.next.new.self _ (search rules) (search rules) (search rules) here.yielded_by here.invariant.energies
          0 0 0 (λ wh most. wh) (λ i l m. (l, omega arith, refl)) _ c.in-Some.is c.next.ensures.steps;
      limits =
          stored-turn energies limits _ _ _ c.next.new.self _ (search rules) (search rules) (search rules) here.yielded_by here.invariant.limits
          0 0 0 (λ wh most. most) (λ i l m. (m, omega arith, refl)) _ c.in-Some.is c.next.ensures.steps;
    }

pub returns-clause-energies : goal.returns-clause-energies
returns-clause-energies c =
    stored-end c.args.energies.now c.args.limits.now _ _ _ c.next.new.self _ (search rules) (search rules) (search rules) c.loop-p.yielded_by
    c.loop-p.invariant.energies (omega arith) c.in-None.is c.next.ensures.steps
    ∙ over_zeros _ _

pub returns-clause-limits : goal.returns-clause-limits
returns-clause-limits c =
    stored-end c.args.energies.now c.args.limits.now _ _ _ c.next.new.self _ (search rules) (search rules) (search rules) c.loop-p.yielded_by
    c.loop-p.invariant.limits (omega arith) c.in-None.is c.next.ensures.steps
    ∙ over_zeros _ _
