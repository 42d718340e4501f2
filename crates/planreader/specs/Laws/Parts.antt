-- What the inner functions of the reading come to: how digits are read one by one up to the most, and what a number in its range is then read as.
-- Assumes nothing.
use Rattle.std.specs.Prelude.{None, Some, ◌≡◌, refl, ◌⊎◌, ℕ, ◌+◌, ◌*◌, ◌-◌, ◌^◌, ◌≤◌, ◌<◌, Bool, true, false, cond, ◌&&◌, List, [], ◌∷◌, length, get_or, leb}
use Rattle.std.specs.Bool.{then_some}
use Rattle.std.specs.Range.{range_inclusive_start, range_inclusive_end}
use Rattle.std.specs.declared.ops.RangeInclusive.{RangeInclusive}
use Rattle.std.proofs.Common.{sym, ◌∙◌, inl, inr, zero-add, arith, le-leb, true≢false}
use Rattle.std.proofs.Math.Path.{ap}
use Rattle.std.proofs.Math.Bool.{and-true, and-false}
use Rattle.std.proofs.lemmas.Bool.{lt-leb}
use Rattle.std.proofs.Math.Option.{Option, none, some}
use Rattle.planning.proofs.Laws.Finite.Decisions.{le-or-lt}
use Rattle.planning.specs.Numbers.{within}
use Rattle.planfile.specs.Numerals.{digit_zero, digit_nine, value_behind, all_digits, number_of}
use Rattle.planreader.specs.Results.{Ranged}
use Rattle.planreader.specs.Parts.{ranged_by, ranged_of, ranged_in, value_read}
use Rattle.planfile.specs.Reading.{Read, accepted, ◌>>=◌, fault, require, number_by, read_number}
use Rattle.planning.specs.declared.Fault.TheVariants.{Value as ValueFault}

-- ---- tests

-- a number is below its range, above it or within it
pub within-below : (low high n : ℕ) → n < low → within low high n ≡ false
unfolding within
within-below low high n l = rw (lt-leb low n l)

pub within-above : (low high n : ℕ) → high < n → within low high n ≡ false
unfolding within
within-above low high n l = rw (lt-leb n high l, and-false)

pub within_both : (low high n : ℕ) → low ≤ n → n ≤ high → within low high n ≡ true
unfolding within
within_both low high n l m = rw (le-leb low n l, le-leb n high m)

-- ---- digits one by one

-- the value of digits is no less than what stands before them
value-least : (n : ℕ) (ds : List ℕ) → n ≤ value_behind n ds
unfolding value_behind
value-least n [] = omega arith
value-least n (d ∷ ds) = omega (arith, value-least (n * 10 + (d - digit_zero)) ds)

-- n is the value of the digits before the rest
pub record Behind (text rest : List ℕ) (n : ℕ) : Type 0 where
  pub digits : all_digits text ≡ all_digits rest
  pub value : value_behind n rest ≡ value_behind 0 text

module _ {text rest : List ℕ} {n b : ℕ} (c : Behind text (b ∷ rest) n) where
  -- a digit more, whose value fits or does not
  pub digit-behind : digit_zero ≤ b → b ≤ digit_nine → Behind text rest (n * 10 + (b - digit_zero))
  unfolding all_digits value_behind
  digit-behind low high = record { digits = c.digits ∙ rw (within_both digit_zero digit_nine b low high); value = c.value }

  pub value-over : 2 ^ 64 ≤ n * 10 + (b - digit_zero) → value_read text None
  unfolding value_read value_behind
  value-over over = inr (omega (arith, value-least (n * 10 + (b - digit_zero)) rest, c.value))

  -- or a byte that is no digit
  pub no_digit : (b < digit_zero) ⊎ (digit_nine < b) → value_read text None
  unfolding value_read all_digits
  no_digit (inl l) = inl (rw (c.digits, within-below digit_zero digit_nine b l) refl)
  no_digit (inr l) = inl (rw (c.digits, within-above digit_zero digit_nine b l) refl)

-- the last digit is read
pub value-end : {text : List ℕ} {n : ℕ} → Behind text [] n → value_read text (Some n)
unfolding value_read all_digits value_behind
value-end c = (c.digits, c.value)

-- ---- numbers in their range

-- a text without a leading zero is a number where its bytes are digits
first_digit : (d : ℕ) → (d ≡ digit_zero → ⊥) → within (digit_zero + 1) digit_nine d ≡ within digit_zero digit_nine d
unfolding within
first_digit d other = ap (λ (b : Bool). b && leb d digit_nine) (go (le-or-lt (digit_zero + 1) d))
  where
    go : (digit_zero + 1 ≤ d) ⊎ (d < digit_zero + 1) → leb (digit_zero + 1) d ≡ leb digit_zero d
    go (inl l) = le-leb (digit_zero + 1) d l ∙ sym (le-leb digit_zero d (omega arith))
    go (inr l) = lt-leb (digit_zero + 1) d l ∙ sym (lt-leb digit_zero d (omega arith))

number_digits : (text : List ℕ) → 1 ≤ length text → (get_or text 0 0 ≡ digit_zero → length text ≤ 1)
    → number_of text ≡ cond (all_digits text) (some (value_behind 0 text)) none
unfolding number_of all_digits value_behind
number_digits [] l lead = absurd (omega arith)
number_digits (d ∷ []) l lead = rw (and-true, zero-add)
number_digits (d ∷ e ∷ ds) l lead = rw (first_digit d (λ z. omega (arith, lead z)))

-- no text, or a zero before other bytes: no number
pub ranged-empty : (low high : ℕ) (text : List ℕ) → length text ≡ 0 → ranged_of low high text ≡ None
unfolding ranged_of ranged_by number_of
ranged-empty low high [] e = refl
ranged-empty low high (d ∷ ds) e = absurd (omega arith)

pub ranged_leading_zero : (low high : ℕ) (text : List ℕ) → get_or text 0 0 ≡ digit_zero → 1 < length text → ranged_of low high text ≡ None
unfolding ranged_of ranged_by number_of
ranged_leading_zero low high [] e l = refl
ranged_leading_zero low high (d ∷ []) e l = absurd (omega arith)
ranged_leading_zero low high (d ∷ c ∷ ds) e l = rw (within-below (digit_zero + 1) digit_nine d (omega arith))

-- any other text by its value
module _ (low high : ℕ) (text : List ℕ) (some_byte : 1 ≤ length text) (lead : get_or text 0 0 ≡ digit_zero → length text ≤ 1) where
  pub ranged-number : (n : ℕ) → value_read text (Some n) → ranged_of low high text ≡ then_some (leb low n && leb n high) n
  unfolding ranged_of ranged_by value_read within
  ranged-number n (digits, value) = ap (ranged_by low high) (number_digits text some_byte lead) ∙ rw (digits, ← value) (chosen (leb low n && leb n high))
    where
      chosen : (t : Bool) → cond t (Some n) None ≡ then_some t n
      chosen true = refl
      chosen false = refl

  pub ranged-other : high < 2 ^ 64 → value_read text None → ranged_of low high text ≡ None
  unfolding ranged_of ranged_by value_read
  ranged-other fits read = ap (ranged_by low high) (number_digits text some_byte lead) ∙ go (all_digits text) refl read
    where
      go : (digits : Bool) → all_digits text ≡ digits → (all_digits text ≡ false) ⊎ (2 ^ 64 ≤ value_behind 0 text)
          → ranged_by low high (cond digits (some (value_behind 0 text)) none) ≡ None
      go false is h = refl
      go true is (inl e) = absurd (true≢false (sym is ∙ e))
      go true is (inr over) = rw (within-above low high (value_behind 0 text) (omega arith))

-- ---- the reading

-- a number in its range is read, and a fault is one of record r
unfoldable pub by_ranged : (r : ℕ) → Ranged → Read ℕ
by_ranged r (Some n) = accepted n
by_ranged r None = fault ValueFault r

required : (t : Bool) (r n : ℕ) → ◌>>=◌ (require t ValueFault r) (λ u. accepted n) ≡ by_ranged r (cond t (Some n) None)
unfolding ◌>>=◌ require fault by_ranged
required true r n = refl
required false r n = refl

number-by-ranged : (low high r : ℕ) (o : Option ℕ) → number_by low high r o ≡ by_ranged r (ranged_by low high o)
unfolding number_by ranged_by by_ranged
number-by-ranged low high r none = refl
number-by-ranged low high r (some n) = required (within low high n) r n

-- what is read of a text goes by what it is in its range
pub read-by-ranged : (low high r : ℕ) (text : List ℕ) → read_number low high r text ≡ by_ranged r (ranged_of low high text)
unfolding read_number ranged_of
read-by-ranged low high r text = number-by-ranged low high r (number_of text)

-- in a range by its two ends
pub by-ends : (range : RangeInclusive ℕ) (text : List ℕ) {low high : ℕ} → range_inclusive_start range ≡ low → range_inclusive_end range ≡ high → {o : Ranged}
    → o ≡ ranged_in range text → o ≡ ranged_of low high text
by-ends range text low high e = e ∙ rw (low, high)

pub read-in-range : (range : RangeInclusive ℕ) (r : ℕ) (text : List ℕ)
    → read_number (range_inclusive_start range) (range_inclusive_end range) r text ≡ by_ranged r (ranged_in range text)
read-in-range range r text = read-by-ranged (range_inclusive_start range) (range_inclusive_end range) r text
