-- `in_range` meets its contract: no text, a leading zero, or by the value of the digits.
use Rattle.std.specs.Prelude.{Option, None, Some}
use Rattle.std.proofs.Common.{◌≡◌, ◌∙◌, ◌&&◌, ◌≤◌, List, ℕ, Bool, leb, sym, rules, arith, get_or, length}
use Rattle.std.specs.Bool.{then_some}
use Rattle.std.specs.Option.{MatchOption}
use Rattle.std.specs.Range.{range_inclusive_start, range_inclusive_end}
use Rattle.std.specs.declared.ops.RangeInclusive.{RangeInclusive}
use Rattle.planfile.specs.Numerals.{digit_zero}
use Rattle.planreader.specs.Parts.{value_read, Whole, ranged_in}
use Rattle.planreader.specs.Laws.Parts.{ranged-empty, ranged_leading_zero, ranged-other, ranged-number}
use Rattle.planreader.proofs.numeral.in_range.Goals as goal
use Rattle.planreader.proofs.numeral.in_range.Goals.{in_default-via-then-text-lt2, in_default-via-else-text-lt2+in_default-1}

pub returns-in-empty : goal.returns-in-empty
returns-in-empty c = sym (ranged-empty _ _ _ (omega arith))

pub returns-in-empty-2 : goal.returns-in-empty-2
returns-in-empty-2 c = sym (ranged_leading_zero _ _ _ (search rules) (omega arith))

-- the number that `filter` keeps
module _ (range : RangeInclusive ℕ) (text : List ℕ) (whole : Whole range) (some_byte : 1 ≤ length text)
    (lead : get_or text 0 0 ≡ digit_zero → length text ≤ 1) where
  kept : {r : Option ℕ} (o : Option ℕ) (keeps : ℕ → Bool → Type 0) → value_read text o
      → ((n : ℕ) (t : Bool) → keeps n t → t ≡ (leb (range_inclusive_start range) n && leb n (range_inclusive_end range)))
      → MatchOption o (r ≡ None) (λ n. (t : Bool) × keeps n t × (r ≡ then_some t n)) → r ≡ ranged_in range text
  kept None keeps read tests is = is ∙ sym (ranged-other _ _ text some_byte lead whole.fits read)
  kept (Some n) keeps read tests (t, told, is) = is ∙ rw (tests n t told) (sym (ranged-number _ _ text some_byte lead n read))

pub returns-in_default : goal.returns-in_default
returns-in_default c =
    let lead : get_or c.args.text.now 0 0 ≡ digit_zero → length c.args.text.now ≤ 1 = elim c.in_default.branch [
      | in_default-via-then-text-lt2 w ↦ λ e. search rules
      | in_default-via-else-text-lt2+in_default-1 w ↦ λ e. absurd (search rules)
    ] in
    kept c.args.range.now c.args.text.now c.requires (search rules) lead c.value.result _ c.value.ensures (λ n t k. search rules) c.filter.ensures
