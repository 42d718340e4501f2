-- `name` meets its contract: the part, or the value undone.
use Rattle.std.proofs.Common.{sym, ap, ◌∙◌, arith}
use Rattle.rfc4180.specs.Fields.{field_value}
use Rattle.planreader.specs.Laws.Names.{name-part, name-undone, name_too_long}
use Rattle.planreader.proofs.entry.Entry.name.Goals as goal

pub returns-in-Part : goal.returns-in-Part
returns-in-Part c value e =
    name-part _ value _ (ap field_value c.raw-field.ensures ∙ e) c.part_of-inside.ensures
    (sym ((c.args.self.now.cut.stand 1 (omega arith) (omega arith)).formed e) ∙ c.in-Part.is)

pub returns-in-Ok : goal.returns-in-Ok
returns-in-Ok c value e =
    name-undone _ value _ (ap field_value c.raw-field.ensures ∙ e) c.part_of-inside.ensures _ c.told-buffer c.undo.ensures _ c.in-Ok.is

-- too long
pub returns-in-Err : goal.returns-in-Err
returns-in-Err c value e =
    name_too_long _ value _ (ap field_value c.raw-field.ensures ∙ e) c.part_of-inside.ensures _ c.told-buffer c.undo.ensures c.in-Err.is
