use Rattle.rfc4180.specs.Text.{ascii}
use Rattle.report.specs.Shown.{hex_escape}
use Rattle.report.proofs.shown.write_hex.Goals as goal

pub returns : goal.returns
unfolding hex_escape ascii
returns c = rw (← c.hex_digit.ensures, ← c.hex_digit-2.ensures) c.write_bytes.ensures.puts
