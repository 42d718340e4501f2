-- Assumes nothing.
use Rattle.std.proofs.Common.{sym, ◌∙◌, arith}
use Rattle.rfc4180.specs.Bytes.{quote}
use Rattle.csv_fields.specs.Laws.Promises.{reads-field}
use Rattle.csv_fields.specs.Laws.Reader.{field-quoted, field_unquoted}
use Rattle.csv_fields.specs.Laws.ReaderSteps.{begins-within}
use Rattle.csv_fields.proofs.reader.field_read.Goals as goal

pub overflow_add-from : goal.overflow_add-from
overflow_add-from c = omega (arith, (begins-within c.args.file.now c.args.from quote (sym c.holds.ensures ∙ c.if-holds.true)).0)

pub returns-then-holds : goal.returns-then-holds
returns-then-holds c =
    reads-field _ _ (c.read_quoted.ensures ∙ sym (field-quoted _ _ (sym c.holds.ensures ∙ c.if-holds.true)))

pub returns-else-holds : goal.returns-else-holds
returns-else-holds c = reads-field _ _ (c.read_plain.ensures ∙ sym (field_unquoted _ _ (sym c.holds.ensures ∙ c.if-holds.false)))
