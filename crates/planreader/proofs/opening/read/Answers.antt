-- `read` meets its contract: check after check, by what stands inside the fields.
use Rattle.std.proofs.Common.{List, ℕ, true, false, refl, sym, ap, ◌∙◌}
use Rattle.rfc4180.specs.Text.{ascii}
use Rattle.planning.specs.Bounds.{most_minutes, most_tries}
use Rattle.planfile.specs.Reading.{same}
use Rattle.planreader.specs.Laws.Exits.{exit}
use Rattle.planreader.specs.Laws.FourFields.{cut_four}
use Rattle.planreader.specs.Laws.Names.{contrasted}
use Rattle.planreader.specs.Laws.Opening.{checked_by, opening-checked}
use Rattle.planreader.specs.Laws.Parts.{by-ends}
use Rattle.planreader.specs.Opening.{mode_named, opening_read}
use Rattle.planreader.specs.Parts.{ranged_of}
use Rattle.planreader.proofs.opening.read.Goals as goal

pub returns-then-ne : goal.returns-then-ne
unfolding opening_read checked_by ascii
returns-then-ne c =
    let kind = contrasted true _ _ c.if-ne.ensures c.as_slice.ensures ∙ ap (λ (word : List ℕ). same word (ascii "plan")) c.part.ensures in
    opening-checked (cut_four c.args.entry.now.cut).1 kind refl refl refl

pub returns-in_err-mode : goal.returns-in_err-mode
unfolding opening_read checked_by ascii
returns-in_err-mode c =
    let (none, is) = exit c.from_residual.result c.from_residual.ensures.1 c.in_err-mode.ensures.value in
    let kind = contrasted false _ _ c.if-ne.ensures c.as_slice.ensures ∙ ap (λ (word : List ℕ). same word (ascii "plan")) c.part.ensures in
    let mode = sym none ∙ c.mode_of.ensures ∙ ap mode_named c.part-2.ensures in
    rw is (opening-checked (cut_four c.args.entry.now.cut).1 kind mode refl refl)

pub returns-in_err-minutes : goal.returns-in_err-minutes
unfolding opening_read checked_by ascii
returns-in_err-minutes c =
    let (none, is) = exit c.from_residual-in_err-minutes.result c.from_residual-in_err-minutes.ensures.1 c.in_err-minutes.ensures.value in
    let kind = contrasted false _ _ c.if-ne.ensures c.as_slice.ensures ∙ ap (λ (word : List ℕ). same word (ascii "plan")) c.part.ensures in
    let mode = sym c.in_ok-mode.ensures.ok_part ∙ c.mode_of.ensures ∙ ap mode_named c.part-2.ensures in
    let first = by-ends c.new.result _ c.new.ensures.start c.new.ensures.end c.in_range.ensures ∙ ap (ranged_of 1 most_minutes) c.part-3.ensures in
    rw is (opening-checked (cut_four c.args.entry.now.cut).1 kind mode (sym none ∙ first) refl)

pub returns-in_err-allowance : goal.returns-in_err-allowance
unfolding opening_read checked_by ascii
returns-in_err-allowance c =
    let (none, is) = exit c.from_residual-in_err-allowance.result c.from_residual-in_err-allowance.ensures.1 c.in_err-allowance.ensures.value in
    let kind = contrasted false _ _ c.if-ne.ensures c.as_slice.ensures ∙ ap (λ (word : List ℕ). same word (ascii "plan")) c.part.ensures in
    let mode = sym c.in_ok-mode.ensures.ok_part ∙ c.mode_of.ensures ∙ ap mode_named c.part-2.ensures in
    let first = by-ends c.new.result _ c.new.ensures.start c.new.ensures.end c.in_range.ensures ∙ ap (ranged_of 1 most_minutes) c.part-3.ensures in
    let second = by-ends c.new-2.result _ c.new-2.ensures.start c.new-2.ensures.end c.in_range-2.ensures ∙ ap (ranged_of 0 most_tries) c.part-4.ensures in
    rw is (opening-checked (cut_four c.args.entry.now.cut).1 kind mode (sym c.in_ok-minutes.ensures.ok_part ∙ first) (sym none ∙ second))

pub returns : goal.returns
unfolding opening_read checked_by ascii
returns c =
    let kind = contrasted false _ _ c.if-ne.ensures c.as_slice.ensures ∙ ap (λ (word : List ℕ). same word (ascii "plan")) c.part.ensures in
    let mode = sym c.in_ok-mode.ensures.ok_part ∙ c.mode_of.ensures ∙ ap mode_named c.part-2.ensures in
    let first = by-ends c.new.result _ c.new.ensures.start c.new.ensures.end c.in_range.ensures ∙ ap (ranged_of 1 most_minutes) c.part-3.ensures in
    let second = by-ends c.new-2.result _ c.new-2.ensures.start c.new-2.ensures.end c.in_range-2.ensures ∙ ap (ranged_of 0 most_tries) c.part-4.ensures in
    opening-checked (cut_four c.args.entry.now.cut).1 kind mode (sym c.in_ok-minutes.ensures.ok_part ∙ first) (sym c.in_ok-allowance.ensures.ok_part ∙ second)
