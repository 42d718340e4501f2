-- What is read of the raw field as a file of its own says which form it is. Assumes nothing.
use Rattle.csv_fields.specs.Laws.Promises.{none_read, shorter_read, whole_read}
use Rattle.csv_fields.proofs.fields.form_of.Goals as goal

pub returns-in_default : goal.returns-in_default
returns-in_default c = none_read _ c.in_default.ensures

pub returns-then-read-raw : goal.returns-then-read-raw
returns-then-read-raw c = shorter_read _ _ c.in-Some.ensures c.if-read-raw.true

pub returns-else-read-raw : goal.returns-else-read-raw
returns-else-read-raw c = whole_read _ _ c.in-Some.ensures c.if-read-raw.false
