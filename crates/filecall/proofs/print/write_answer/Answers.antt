-- The word and the three numbers are put one behind the other. Assumes nothing.
use Rattle.lines.specs.Laws.Lines.{line_put, number-text}
use Rattle.lines.specs.Laws.Putting.{then, then-error}
use Rattle.lines.specs.Lines.{line_texts}
use Rattle.filecall.proofs.print.write_answer.Goals as goal

pub returns-in_err-write_field : goal.returns-in_err-write_field
unfolding line_texts
returns-in_err-write_field c = line_put _ (then-error _ c.in_err-write_field.was c.write_field.ensures.puts c.from_residual.ensures.1)

pub returns-in_err-write_number : goal.returns-in_err-write_number
unfolding line_texts
returns-in_err-write_number c =
    let end = then-error _ c.in_err-write_number.was c.write_number.ensures.puts c.from_residual-in_err-write_number.ensures.1 in
    line_put _ (simp number-text (then c.in_ok-write_field.was c.write_field.ensures.puts end))

pub returns-in_err-write_number-2 : goal.returns-in_err-write_number-2
unfolding line_texts
returns-in_err-write_number-2 c =
    let front = then c.in_ok-write_field.was c.write_field.ensures.puts c.write_number.ensures.puts in
    let end = then-error _ c.in_err-write_number-2.was c.write_number-2.ensures.puts c.from_residual-in_err-write_number-2.ensures.1 in
    line_put _ (simp number-text (then c.in_ok-write_number.was front end))

pub returns : goal.returns
unfolding line_texts
returns c =
    let front = then c.in_ok-write_field.was c.write_field.ensures.puts c.write_number.ensures.puts in
    let numbers = then c.in_ok-write_number.was front c.write_number-2.ensures.puts in
    line_put _ (simp number-text (then c.in_ok-write_number-2.was numbers c.write_number-3.ensures.puts))
