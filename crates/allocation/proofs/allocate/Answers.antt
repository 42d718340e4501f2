-- By the checks, and where the call is accepted by the answer. That what is returned and left then keeps every promise is planning's
-- Laws/Promised.
use Rattle.std.proofs.Common.{◌≡◌, ◌≢◌, sym, ◌∙◌, rules, arith}
use Rattle.std.proofs.lemmas.Result.{err_from_is_err_and}
use Rattle.planning.specs.declared.Outcome.TheVariants.{Found}
use Rattle.planning.proofs.Laws.Lent.{refused-keeps}
use Rattle.planning.proofs.Laws.Promised.{promised}
use Rattle.checks.specs.Laws.Checked.{refused-call, accepted-usable, accepted-call, accepted-plan}
use Rattle.allocation.specs.Laws.Calls.{cells-lent, spares-lent, answered-most, answered-serves, promised-found, promised-other}
use Rattle.allocation.proofs.allocate.Goals as goal

pub returns-in_err-plan : goal.returns-in_err-plan
returns-in_err-plan c =
    let came = refused-call c.args.lists c.args.table.now c.args.spare.now (sym c.in_err-plan.was ∙ c.check.ensures) in
    let kept = refused-keeps _ _ came in
    let p = err_from_is_err_and c.from_residual.result c.from_residual.ensures.1 in
    rw (p.1, p.2) (promised _ (sym kept.0) (sym kept.1) (sym kept.2))

pub invariant_of-accepted : goal.invariant_of-accepted
invariant_of-accepted c =
    let a = c.args in
    let came = sym c.in_ok-plan.was ∙ c.check.ensures in
    let ok = accepted-call a.lists a.table.now a.spare.now came in
    let is = accepted-plan a.lists a.table.now a.spare.now came in
    record {
      usable = accepted-usable a.lists a.table.now a.spare.now came;
      cells = cells-lent _ ok _ is;
    }

pub overflow_cast-answer : goal.overflow_cast-answer
overflow_cast-answer c =
    let a = c.args in
    let came = sym c.in_ok-plan.was ∙ c.check.ensures in
    let ok = accepted-call a.lists a.table.now a.spare.now came in
    let is = accepted-plan a.lists a.table.now a.spare.now came in
    omega (arith, answered-most _ ok _ is c.answer-answer.ensures.answers)

pub write_spares-requires : goal.write_spares-requires
write_spares-requires c =
    let a = c.args in
    let came = sym c.in_ok-plan.was ∙ c.check.ensures in
    let ok = accepted-call a.lists a.table.now a.spare.now came in
    let is = accepted-plan a.lists a.table.now a.spare.now came in
    let found : c.answer-answer.result.outcome ≡ Found = search rules in
    rw c.answer-answer.ensures.kept.0
    (record {
      serves = answered-serves _ ok _ is c.answer-answer.ensures.answers found;
      spare = spares-lent _ ok _ is;
    })

-- what the list lent for the table holds is what the plan's table does, which is the same list
pub returns-then-eq : goal.returns-then-eq
returns-then-eq c =
    let a = c.args in
    let came = sym c.in_ok-plan.was ∙ c.check.ensures in
    let ok = accepted-call a.lists a.table.now a.spare.now came in
    let is = accepted-plan a.lists a.table.now a.spare.now came in
    let found : c.answer-answer.result.outcome ≡ Found = search rules in
    let same = sym c.answer-answer.ensures.kept.1 in
    let spares = rw c.answer-answer.ensures.kept.0 at c.write_spares.ensures in
    promised-found _ ok _ is c.answer-answer.ensures.answers found (search rules) spares

pub returns-else-eq : goal.returns-else-eq
returns-else-eq c =
    let a = c.args in
    let came = sym c.in_ok-plan.was ∙ c.check.ensures in
    let ok = accepted-call a.lists a.table.now a.spare.now came in
    let is = accepted-plan a.lists a.table.now a.spare.now came in
    let other : c.answer-answer.result.outcome ≢ Found = search rules in
    let same = sym c.answer-answer.ensures.kept.1 in
    promised-other _ ok _ is c.answer-answer.ensures.answers (search rules) other
