-- The word, the two names and the number are put one behind the other. Assumes nothing.
use Rattle.std.proofs.Common.{◌≡◌, refl, ap, ◌∙◌}
use Rattle.std.proofs.Math.Option.{some}
use Rattle.rfc4180.specs.Bytes.{class_of}
use Rattle.rfc4180.specs.Text.{ascii}
use Rattle.rfc4180.specs.Writer.{asks_for_quotes, needs_quotes, is_allowed, writable}
use Rattle.lines.specs.Laws.Lines.{field-text, line_put, number-text}
use Rattle.lines.specs.Laws.Putting.{then, then-error}
use Rattle.lines.specs.Laws.Values.{written-plain}
use Rattle.lines.specs.Lines.{line_texts}
use Rattle.lines.specs.Putting.{plain, field}
use Rattle.filecall.proofs.print.write_piece.Goals as goal

-- the word as a field is the word
word-text : field (ascii "piece") ≡ plain (ascii "piece")
unfolding ascii writable needs_quotes is_allowed asks_for_quotes class_of
word-text = field-text (ascii "piece") refl ∙ ap some (written-plain (ascii "piece") refl)

pub returns-in_err-write_bytes : goal.returns-in_err-write_bytes
unfolding line_texts ascii
returns-in_err-write_bytes c =
    line_put _ (rw word-text (then-error _ c.in_err-write_bytes.was c.write_bytes.ensures.puts c.from_residual.ensures.1))

pub returns-in_err-write_bytes-2 : goal.returns-in_err-write_bytes-2
unfolding line_texts ascii
returns-in_err-write_bytes-2 c =
    let end = then-error _ c.in_err-write_bytes-2.was c.write_bytes-2.ensures.puts c.from_residual-in_err-write_bytes-2.ensures.1 in
    line_put _ (rw word-text (then c.in_ok-write_bytes.was c.write_bytes.ensures.puts end))

pub returns-in_err-write_field : goal.returns-in_err-write_field
unfolding line_texts ascii
returns-in_err-write_field c =
    let front = then c.in_ok-write_bytes.was c.write_bytes.ensures.puts c.write_bytes-2.ensures.puts in
    let end = then-error _ c.in_err-write_field.was c.write_field.ensures.puts c.from_residual-in_err-write_field.ensures.1 in
    line_put _ (rw word-text (then c.in_ok-write_bytes-2.was front end))

pub returns-in_err-write_field-2 : goal.returns-in_err-write_field-2
unfolding line_texts ascii
returns-in_err-write_field-2 c =
    let front = then c.in_ok-write_bytes.was c.write_bytes.ensures.puts c.write_bytes-2.ensures.puts in
    let names = then c.in_ok-write_bytes-2.was front c.write_field.ensures.puts in
    let end = then-error _ c.in_err-write_field-2.was c.write_field-2.ensures.puts c.from_residual-in_err-write_field-2.ensures.1 in
    line_put _ (rw word-text (then c.in_ok-write_field.was names end))

pub returns : goal.returns
unfolding line_texts ascii
returns c =
    let front = then c.in_ok-write_bytes.was c.write_bytes.ensures.puts c.write_bytes-2.ensures.puts in
    let names = then c.in_ok-write_bytes-2.was front (then c.in_ok-write_field.was c.write_field.ensures.puts c.write_field-2.ensures.puts) in
    line_put _ (rw (word-text, number-text) (then c.in_ok-write_field-2.was names c.write_number.ensures.puts))
