-- The digits, and the end behind them.
use Rattle.lines.specs.Laws.Putting.{then, then-error}
use Rattle.lines.specs.Laws.Reads.{number-written}
use Rattle.lines.proofs.output.Output.write_number.Goals as goal

pub returns-in_err-write_bytes : goal.returns-in_err-write_bytes
returns-in_err-write_bytes c =
    let put = rw c.digits_of.ensures at c.write_bytes.ensures.puts in
    number-written (then-error _ c.in_err-write_bytes.was put c.from_residual.ensures.1)

pub returns : goal.returns
returns c =
    let put = rw c.digits_of.ensures at c.write_bytes.ensures.puts in
    number-written (then c.in_ok-write_bytes.was put c.write_bytes-2.ensures.puts)
