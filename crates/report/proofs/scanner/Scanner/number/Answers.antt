-- Each digit makes the value one longer. Assumes nothing.
use Rattle.std.proofs.Common.{◌≡◌, ◌∙◌, sym, arith, min, get_or, ◌+◌, ◌*◌, ◌-◌, refl}
use Rattle.report.specs.Input.{first_number}
use Rattle.report.proofs.Laws.Input.{least_digit, behind_less, value_end, value_digit}
use Rattle.report.proofs.scanner.Scanner.number.Goals as goal

pub loop-b-init : goal.loop-b-init
unfolding first_number
loop-b-init c = (omega arith, rw c.digits-b-items.ensures.digits refl)

pub overflow_sub-b : goal.overflow_sub-b
overflow_sub-b c =
    let least = least_digit c.args.self.now.rest.now c.loop-b.b-index in
    rw (← c.digits-b-items.ensures.digits) at least c.loop-b-test.true

pub loop-b-preserved : goal.loop-b-preserved
loop-b-preserved c =
    let digits = c.digits-b-items.result.now in
    let l = c.loop-b in
    let next : c.min-value.result ≡ min (l.value * 10 + (get_or digits l.b-index 0 - 48)) c.args.most = omega arith in
    (omega arith, rw next (sym (value_digit l.value c.args.most digits l.b-index c.loop-b-test.true) ∙ l.invariant.1))

pub returns-clause-value : goal.returns-clause-value
returns-clause-value c =
    sym (value_end c.loop-b.value c.args.most c.digits-b-items.result.now c.loop-b.b-index c.loop-b.invariant.0 c.loop-b-test.false) ∙ c.loop-b.invariant.1

pub returns-clause-onward : goal.returns-clause-onward
returns-clause-onward c = rw c.digits-b-items.ensures.behind (behind_less c.args.self.now.rest.now)
