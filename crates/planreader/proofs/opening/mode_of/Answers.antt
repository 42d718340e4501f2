-- `mode_of` meets its contract: the check finds all but the second word.
use Rattle.std.proofs.Common.{refl, rules, arith}
use Rattle.std.proofs.lemmas.Slice.Eq.{text_from_reads}
use Rattle.rfc4180.specs.Text.{ascii}
use Rattle.planreader.specs.Opening.{mode_by, mode_named}
use Rattle.planreader.proofs.opening.mode_of.Goals as goal

pub returns-in-shortest : goal.returns-in-shortest
unfolding mode_by mode_named ascii
returns-in-shortest c = rw (text_from_reads c.args.text.now (ascii "shortest") (omega arith) (search rules)) refl
