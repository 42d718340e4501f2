-- `add_record` meets its contract: by the kind that its first field names.
use Rattle.std.specs.Prelude.{Some}
use Rattle.std.proofs.Common.{sym, ap, ◌∙◌, rules}
use Rattle.planfile.specs.Numerals.{number_of}
use Rattle.planreader.specs.Laws.Columns.{filled-short}
use Rattle.planreader.specs.Laws.Exits.{exit}
use Rattle.planreader.specs.Laws.FieldNumbers.{number-inside}
use Rattle.planreader.specs.Laws.FourFields.{cut_four}
use Rattle.planreader.specs.Laws.Items.{adds-value}
use Rattle.planreader.specs.Laws.Quiet.{adds-quiet-value}
use Rattle.planreader.specs.Laws.Records.{plan-held, record_unknown, record_engine, record_quiet, record_delivery}
use Rattle.planreader.specs.Records.{kind_named}
use Rattle.planreader.proofs.records.add_record.Goals as goal

pub add_quiet-requires : goal.add_quiet-requires
add_quiet-requires c = let (so_far, held) = c.requires in plan-held held

pub returns-in_err-kind : goal.returns-in_err-kind
returns-in_err-kind c =
    let (none, is) = exit c.from_residual.result c.from_residual.ensures.1 c.in_err-kind.ensures.value in
    rw is (record_unknown (cut_four c.args.entry.now.cut).1 _ (sym none ∙ c.kind_of.ensures ∙ ap kind_named c.part.ensures))

pub returns-in-Engine : goal.returns-in-Engine
returns-in-Engine c =
    let (x, v) = cut_four c.args.entry.now.cut in
    let kind = ap Some (sym c.in-Engine.is) ∙ sym c.in_ok-kind.ensures.ok_part ∙ c.kind_of.ensures ∙ ap kind_named c.part.ensures in
    record_engine v _ kind (search rules) _ _
    (adds-value _ x _ _ _ (c.name.ensures _ v.second) (ap number_of c.part-2.ensures ∙ number-inside _ _ v.third)
    (ap number_of c.part-3.ensures ∙ number-inside _ _ v.fourth) _ _ _ c.add.ensures)

pub returns-in-Quiet : goal.returns-in-Quiet
returns-in-Quiet c =
    let (x, v) = cut_four c.args.entry.now.cut in
    let (so_far, held) = c.requires in
    let kind = ap Some (sym c.in-Quiet.is) ∙ sym c.in_ok-kind.ensures.ok_part ∙ c.kind_of.ensures ∙ ap kind_named c.part.ensures in
    record_quiet v _ kind _ _
    (adds-quiet-value x _ _ _ _ _ (filled-short held.engines) (c.name.ensures _ v.second) (ap number_of c.part-2.ensures ∙ number-inside _ _ v.third)
    (ap number_of c.part-3.ensures ∙ number-inside _ _ v.fourth) _ c.add_quiet.ensures)

pub returns-in-Delivery : goal.returns-in-Delivery
returns-in-Delivery c =
    let (x, v) = cut_four c.args.entry.now.cut in
    let kind = ap Some (sym c.in-Delivery.is) ∙ sym c.in_ok-kind.ensures.ok_part ∙ c.kind_of.ensures ∙ ap kind_named c.part.ensures in
    record_delivery v _ kind (search rules) _ _
    (adds-value _ x _ _ _ (c.name.ensures _ v.second) (ap number_of c.part-2.ensures ∙ number-inside _ _ v.third)
    (ap number_of c.part-3.ensures ∙ number-inside _ _ v.fourth) _ _ _ c.add-in-Delivery.ensures)
