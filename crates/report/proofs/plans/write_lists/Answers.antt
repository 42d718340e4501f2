-- List by list: those that were put, and the first that was not. Assumes nothing.
use Rattle.lines.specs.Laws.Putting.{then, then-error}
use Rattle.report.specs.Plans.{plan_texts}
use Rattle.report.proofs.plans.write_lists.Goals as goal

pub returns-in_err-write_list : goal.returns-in_err-write_list
unfolding plan_texts
returns-in_err-write_list c = then-error _ c.in_err-write_list.was c.write_list.ensures c.from_residual.ensures.1

pub returns-in_err-write_marked : goal.returns-in_err-write_marked
unfolding plan_texts
returns-in_err-write_marked c =
    then c.in_ok-write_list.was c.write_list.ensures
    (then-error _ c.in_err-write_marked.was c.write_marked.ensures c.from_residual-in_err-write_marked.ensures.1)

pub returns-in_err-write_marked-2 : goal.returns-in_err-write_marked-2
unfolding plan_texts
returns-in_err-write_marked-2 c =
    then c.in_ok-write_list.was c.write_list.ensures
    (then c.in_ok-write_marked.was c.write_marked.ensures
    (then-error _ c.in_err-write_marked-2.was c.write_marked-2.ensures c.from_residual-in_err-write_marked-2.ensures.1))

pub returns-in_err-write_marked-3 : goal.returns-in_err-write_marked-3
unfolding plan_texts
returns-in_err-write_marked-3 c =
    then c.in_ok-write_list.was c.write_list.ensures
    (then c.in_ok-write_marked.was c.write_marked.ensures
    (then c.in_ok-write_marked-2.was c.write_marked-2.ensures
    (then-error _ c.in_err-write_marked-3.was c.write_marked-3.ensures c.from_residual-in_err-write_marked-3.ensures.1)))

pub returns : goal.returns
unfolding plan_texts
returns c =
    then c.in_ok-write_list.was c.write_list.ensures
    (then c.in_ok-write_marked.was c.write_marked.ensures
    (then c.in_ok-write_marked-2.was c.write_marked-2.ensures
    (then c.in_ok-write_marked-3.was c.write_marked-3.ensures c.write_marked-4.ensures)))
