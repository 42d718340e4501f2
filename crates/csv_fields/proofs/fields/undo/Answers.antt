-- The form says whether there is a value, its length whether it fits, and it is copied. Assumes nothing.
use Rattle.std.proofs.Common.{◌≡◌, sym, ap, ◌∙◌, None, Ok, Err, List, ℕ, length, arith}
use Rattle.std.proofs.lemmas.Grind.{common_steps}
use Rattle.csv_fields.specs.declared.UndoError.TheVariants.{Broken}
use Rattle.rfc4180.specs.Grammar.{Field}
use Rattle.csv_fields.specs.Promises.{HandsPart}
use Rattle.csv_fields.specs.Undoubling.{undoubled}
use Rattle.csv_fields.specs.Laws.Parts.{field-undoubled}
use Rattle.csv_fields.specs.Laws.Promises.{formed, undoes_defined, undoes}
use Rattle.csv_fields.proofs.fields.undo.Goals as goal

-- what stands inside a field with each doubled quote once is its value
inside : {raw value : List ℕ} (part : List ℕ) → Field raw value → HandsPart raw part → undoubled part ≡ value
inside part r hands = ap undoubled hands.equals ∙ field-undoubled r

pub returns-in_err-ok_or : goal.returns-in_err-ok_or
returns-in_err-ok_or c =
    let none : c.form_of.result ≡ None = grind (arith, common_steps) in
    let told : c.from_residual.result ≡ Err Broken = grind (arith, common_steps) in
    let kept = (undoes_defined c.args.raw.now c.args.out.now).broken (c.form_of.ensures.broken.0 none) in
    undoes _ _ (told ∙ sym kept.0) (sym kept.1)

pub returns-then-out-n : goal.returns-then-out-n
returns-then-out-n c =
    -- behind the first test there is a value
    let some : c.form_of.result ≡ None → ⊥ = λ none. grind (arith, common_steps) in
    let field = formed _ c.form_of.ensures some in
    let counted : c.undoubled_length-n.result ≡ length field.0 =
    c.undoubled_length-n.ensures ∙ ap length (inside c.part_of-inside.result.now field.1 c.part_of-inside.ensures) in
    let kept = (undoes_defined c.args.raw.now c.args.out.now).too_long field.1 (omega arith) in
    undoes _ _ (sym kept.0) (sym kept.1)

pub returns : goal.returns
returns c =
    let some : c.form_of.result ≡ None → ⊥ = λ none. grind (arith, common_steps) in
    let field = formed _ c.form_of.ensures some in
    let value = inside c.part_of-inside.result.now field.1 c.part_of-inside.ensures in
    let counted : c.undoubled_length-n.result ≡ length field.0 = c.undoubled_length-n.ensures ∙ ap length value in
    let fitted = (undoes_defined c.args.raw.now c.args.out.now).fits field.1 (omega arith) in
    undoes _ _ (ap Ok counted ∙ sym fitted.0) (c.copy_undoubled.ensures ∙ rw value (sym fitted.1))
