-- `kind_of` meets its contract: the check finds all but the longer words.
use Rattle.std.proofs.Common.{refl, rules, arith}
use Rattle.std.proofs.lemmas.Slice.Eq.{text_from_reads}
use Rattle.rfc4180.specs.Text.{ascii}
use Rattle.planreader.specs.Records.{kind_by, kind_named}
use Rattle.planreader.proofs.records.kind_of.Goals as goal

pub returns-in-engine : goal.returns-in-engine
unfolding kind_by kind_named ascii
returns-in-engine c = rw (text_from_reads c.args.text.now (ascii "engine") (omega arith) (search rules)) refl

pub returns-in-delivery : goal.returns-in-delivery
unfolding kind_by kind_named ascii
returns-in-delivery c = rw (text_from_reads c.args.text.now (ascii "delivery") (omega arith) (search rules)) refl
