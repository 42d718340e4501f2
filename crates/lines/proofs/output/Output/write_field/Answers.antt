-- The value, and its end behind it.
use Rattle.lines.specs.Laws.Putting.{then, then-error}
use Rattle.lines.specs.Laws.Reads.{field-written}
use Rattle.lines.proofs.output.Output.write_field.Goals as goal

pub returns-in_err-write_value : goal.returns-in_err-write_value
returns-in_err-write_value c = field-written (then-error _ c.in_err-write_value.was c.write_value.ensures c.from_residual.ensures.1)

pub returns : goal.returns
returns c = field-written (then c.in_ok-write_value.was c.write_value.ensures c.write_bytes.ensures.puts)
