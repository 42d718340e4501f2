-- The scan finds where the field ends. Assumes nothing.
use Rattle.rfc4180.specs.Bytes.{comma}
use Rattle.csv_fields.specs.Outside.{FoundOutside}
use Rattle.csv_fields.specs.Laws.Outside.{field_found}
use Rattle.csv_fields.specs.Laws.Promises.{ends-field}
use Rattle.csv_fields.proofs.fields.field_at.Goals as goal

pub returns : goal.returns
returns c =
    let found : FoundOutside c.args.text.now c.args.from comma c.find_outside-end.result = c.find_outside-end.ensures in
    ends-field _ _ (field_found _ _ _ found)
