-- Nothing is left behind the last byte. Assumes nothing.
use Rattle.std.proofs.Common.{◌∙◌, arith, length}
use Rattle.std.proofs.Math.Nat.{zero-add}
use Rattle.rfc4180.proofs.Laws.Stores.{laid}
use Rattle.csv_fields.specs.Undoubling.{undoubled}
use Rattle.csv_fields.proofs.fields.copy_undoubled.Goals as goal

pub returns : goal.returns
returns c =
    let value = undoubled c.args.inside.now in
    let stored = rw c.in-None.ensures.steps.0.0 at c.loop-k.invariant in
    stored.makes ∙ laid value c.args.out.now 0 (omega arith) ∙ rw (zero-add (length value))
