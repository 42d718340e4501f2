-- `read` meets its contract: record after record.
use Rattle.std.proofs.Common.{arith, rules, sym, ◌∙◌}
use Rattle.std.proofs.lemmas.Result.{err_from_is_err_and}
use Rattle.planreader.specs.Laws.Exits.{placed, placed-fault, placed-value}
use Rattle.planreader.specs.Laws.Pending.{pending_start, next-stands, pending_fault, pending_next, pending_added, pending_missing, pending_read}
use Rattle.planreader.proofs.records.read.Goals as goal

pub loop-from-init : goal.loop-from-init
loop-from-init c = pending_start _ _ _ c.requires.1

-- the record has a fault
pub returns-in_err-from : goal.returns-in_err-from
returns-in_err-from c =
    let told = placed c.loop-from.place c.add_next.result c.map_err.ensures.cases (λ e z k. search rules) in
    let (what, fails, made) = placed-fault _ c.add_next.result (sym told ∙ c.in_err-from.was) in
    let (refusal, is, same) = err_from_is_err_and c.from_residual.result c.from_residual.ensures.1 in
    rw (is, same, made) (pending_fault c.loop-from.invariant c.loop-from-test.true _ c.add_next.ensures fails)

pub loop-from-smaller : goal.loop-from-smaller
loop-from-smaller c =
    let told = placed c.loop-from.place c.add_next.result c.map_err.ensures.cases (λ e z k. search rules) in
    let added = placed-value _ c.add_next.result (sym told ∙ c.in_ok-from.was) in
    let behind = pending_next c.loop-from.invariant c.loop-from-test.true _ c.add_next.ensures added in
    let span = next-stands c.loop-from.invariant c.loop-from-test.true in
    omega (arith, behind, span.onward c.loop-from-test.true, span.inside)

pub loop-from-preserved : goal.loop-from-preserved
loop-from-preserved c =
    let told = placed c.loop-from.place c.add_next.result c.map_err.ensures.cases (λ e z k. search rules) in
    pending_added c.loop-from.invariant c.loop-from-test.true _ c.add_next.ensures (placed-value _ c.add_next.result (sym told ∙ c.in_ok-from.was))

-- there is no engine
pub returns-then-plan-eq0 : goal.returns-then-plan-eq0
returns-then-plan-eq0 c = rw c.at.ensures (pending_missing c.loop-from.invariant c.loop-from-test.false c.if-plan-eq0.true)

pub returns : goal.returns
returns c = pending_read c.loop-from.invariant c.loop-from-test.false (omega (arith, c.if-plan-eq0.false))
