-- By the verdict of the refusals.
use Rattle.std.proofs.Common.{sym, ◌∙◌}
use Rattle.std.proofs.lemmas.Result.{err_from_is_err_and}
use Rattle.planning.specs.ByValue.{by_value}
use Rattle.planning.proofs.Laws.ByValue.{by-value-usable}
use Rattle.checks.specs.Checked.{call_lent}
use Rattle.checks.specs.Laws.Checked.{accepted, by-refusal, by_acceptance}
use Rattle.checks.proofs.check.Goals as goal

pub returns-in_err-refusal : goal.returns-in_err-refusal
returns-in_err-refusal c =
    let p = err_from_is_err_and c.from_residual.result c.from_residual.ensures.1 in
    rw (p.1, p.2) (by-refusal _ (sym c.in_err-refusal.was ∙ c.refusal.ensures))

pub plan_of-requires : goal.plan_of-requires
unfolding by_value
plan_of-requires c =
    let call = call_lent c.args.lists c.args.table c.args.spare in
    let ok = accepted call (sym c.in_ok-refusal.was ∙ c.refusal.ensures) in
    record { engines = ok.engine_lists; deliveries = ok.delivery_lists; threes = ok.quiet_threes; usable = by-value-usable call ok }

pub returns : goal.returns
unfolding by_value
returns c =
    by_acceptance (call_lent c.args.lists c.args.table c.args.spare) (sym c.in_ok-refusal.was ∙ c.refusal.ensures) c.plan_of.ensures
