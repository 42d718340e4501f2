use Rattle.lines.specs.Laws.Putting.{then, then-error}
use Rattle.report.proofs.words.write_list.Goals as goal

pub returns-in_err-write_bytes : goal.returns-in_err-write_bytes
returns-in_err-write_bytes c = then-error _ c.in_err-write_bytes.was c.write_bytes.ensures.puts c.from_residual.ensures.1

pub returns : goal.returns
returns c = then c.in_ok-write_bytes.was c.write_bytes.ensures.puts c.write_numbers.ensures
