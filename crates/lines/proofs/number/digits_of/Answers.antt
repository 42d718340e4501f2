-- The digits that std writes.
use Rattle.std.proofs.Common.{◌∙◌, arith}
use Rattle.lines.specs.Laws.Digits.{decimal-std}
use Rattle.lines.proofs.number.digits_of.Goals as goal

pub returns : goal.returns
returns c = c.as_bytes.ensures.value ∙ c.format.ensures.text ∙ decimal-std _ (omega arith)
