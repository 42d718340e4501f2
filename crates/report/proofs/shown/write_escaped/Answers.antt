-- What is shown of a byte is told by its own letter, and where it has none by whether it can be printed.
use Rattle.std.proofs.Common.{◌⊎◌, ◌<◌, arith}
use Rattle.std.proofs.lemmas.Bool.Decides.{nat_tests}
use Rattle.report.proofs.Laws.Shown.{shown_own, shown_hex, shown_itself}
use Rattle.report.proofs.shown.write_escaped.Goals as goal

pub returns-in-Some : goal.returns-in-Some
returns-in-Some c = rw (shown_own _ c.in-Some.ensures) c.write_bytes.ensures.puts

pub returns-in-None : goal.returns-in-None
returns-in-None c =
    rw (shown_itself c.args.b c.in-None.ensures (grind (arith, nat_tests)) (grind (arith, nat_tests))) c.write_bytes-in-None.ensures.puts

pub returns-in-None-2 : goal.returns-in-None-2
returns-in-None-2 c =
    let unprinted : (c.args.b < 0x20) ⊎ (0x7E < c.args.b) = grind (arith, nat_tests) in
    rw (shown_hex c.args.b c.in-None-2.ensures unprinted) c.write_hex.ensures
