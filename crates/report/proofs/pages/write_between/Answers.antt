use Rattle.lines.specs.Laws.Putting.{then, then-error}
use Rattle.report.proofs.pages.write_between.Goals as goal

pub returns-in_err-write_bytes : goal.returns-in_err-write_bytes
returns-in_err-write_bytes c = then-error _ c.in_err-write_bytes.was c.write_bytes.ensures.puts c.from_residual.ensures.1

pub returns-in_err-write_shown : goal.returns-in_err-write_shown
returns-in_err-write_shown c =
    then c.in_ok-write_bytes.was c.write_bytes.ensures.puts
    (then-error _ c.in_err-write_shown.was c.write_shown.ensures c.from_residual-in_err-write_shown.ensures.1)

pub returns : goal.returns
returns c =
    then c.in_ok-write_bytes.was c.write_bytes.ensures.puts
    (then c.in_ok-write_shown.was c.write_shown.ensures c.write_bytes-2.ensures.puts)
