use Rattle.rfc4180.specs.Text.{ascii}
use Rattle.lines.specs.Laws.Loops.{next-put, last-put, put-error}
use Rattle.lines.specs.Laws.Putting.{then, then-error}
use Rattle.report.specs.Shown.{shown_texts}
use Rattle.report.proofs.Laws.Shown.{texts-from, texts-end}
use Rattle.report.proofs.shown.write_shown.Goals as goal

pub returns-in_err-write_bytes : goal.returns-in_err-write_bytes
unfolding shown_texts ascii
returns-in_err-write_bytes c = then-error _ c.in_err-write_bytes.was c.write_bytes.ensures.puts c.from_residual.ensures.1

pub returns-in_err-write_escaped : goal.returns-in_err-write_escaped
unfolding shown_texts ascii
returns-in_err-write_escaped c =
    let next = texts-from _ _ c.loop-b-test.true in
    then c.in_ok-write_bytes.was c.write_bytes.ensures.puts
    (put-error _ c.loop-b.invariant next c.in_err-write_escaped.was c.write_escaped.ensures c.from_residual-in_err-write_escaped.ensures.1)

pub loop-b-preserved : goal.loop-b-preserved
loop-b-preserved c = next-put c.loop-b.invariant (texts-from _ _ c.loop-b-test.true) c.in_ok-write_escaped.was c.write_escaped.ensures

pub returns : goal.returns
unfolding shown_texts ascii
returns c =
    let left = rw (texts-end _ _ c.loop-b-test.false) at c.loop-b.invariant in
    then c.in_ok-write_bytes.was c.write_bytes.ensures.puts (last-put left c.write_bytes-2.ensures.puts)
