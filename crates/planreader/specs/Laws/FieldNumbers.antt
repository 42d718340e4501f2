-- The number in a raw field can be read off what stands inside it: where a quote is doubled there, neither that nor the field's value is a number.
-- Assumes nothing.
use Rattle.std.specs.Prelude.{◌≡◌, refl, Bool, true, false, ◌&&◌, List, ◌∷◌, ℕ}
use Rattle.std.proofs.Common.{sym, ap, ◌∙◌, arith}
use Rattle.std.proofs.lemmas.Bool.{false≢true}
use Rattle.std.proofs.Math.Option.{Option, none, some}
use Rattle.rfc4180.specs.Bytes.{quote, comma, carriage_return, line_feed}
use Rattle.rfc4180.specs.Fields.{field_value}
use Rattle.rfc4180.specs.Grammar.{Escaped, escaped-end, escaped-text, escaped-comma, escaped_cr, escaped_lf, escaped-quote, Field, field-escaped}
use Rattle.rfc4180.specs.Grammar.{field_non_escaped}
use Rattle.rfc4180.proofs.Laws.Fields.{field-sound}
use Rattle.csv_fields.specs.Laws.Parts.{inside-escaped, inside-text}
use Rattle.csv_fields.specs.Spans.{inside_of}
use Rattle.planning.specs.Numbers.{within}
use Rattle.planfile.proofs.Laws.Tests.{digits-iff, number-iff}
use Rattle.planfile.specs.Numerals.{digit_zero, digit_nine, Numeral, numeral_zero, numeral_digits, all_digits, number_of}

-- two texts that are the same where one of them is digits alone
record SameDigits (text other : List ℕ) : Type 0 where
  digits : all_digits text ≡ all_digits other
  same : all_digits text ≡ true → text ≡ other

-- a byte that stands for itself
byte_digits : (b : ℕ) {inside value : List ℕ} → SameDigits inside value → SameDigits (b ∷ inside) (b ∷ value)
unfolding all_digits
byte_digits b {inside} s =
    record {
      digits = ap (λ (t : Bool). within digit_zero digit_nine b && t) s.digits;
      same = λ e. ap (λ (text : List ℕ). b ∷ text) (s.same (both (within digit_zero digit_nine b) (all_digits inside) e));
    }
  where
    both : (t u : Bool) → (t && u) ≡ true → u ≡ true
    both true u e = e
    both false u e = absurd (false≢true e)

-- a quote is no digit
quote-digits : (text other : List ℕ) → SameDigits (quote ∷ text) (quote ∷ other)
unfolding all_digits within
quote-digits text other = record { digits = refl; same = λ e. absurd (false≢true e) }

escaped-digits : {inside value : List ℕ} → Escaped inside value → SameDigits inside value
escaped-digits escaped-end = record { digits = refl; same = λ e. refl }
escaped-digits (escaped-text {b = b} t r) = byte_digits b (escaped-digits r)
escaped-digits (escaped-comma r) = byte_digits comma (escaped-digits r)
escaped-digits (escaped_cr r) = byte_digits carriage_return (escaped-digits r)
escaped-digits (escaped_lf r) = byte_digits line_feed (escaped-digits r)
escaped-digits (escaped-quote r) = quote-digits _ _

-- a numeral is digits alone
numeral_digits-alone : {text : List ℕ} {n : ℕ} → Numeral text n → all_digits text ≡ true
unfolding all_digits within
numeral_digits-alone numeral_zero = refl
numeral_digits-alone (numeral_digits {d = d} {ds = ds} w ws) =
    (digits-iff (d ∷ ds)).1 (record { least = omega (arith, w.least); most = w.most }, ws)

no_number : (text : List ℕ) → all_digits text ≡ false → number_of text ≡ none
no_number text e = go (number_of text) refl
  where
    go : (o : Option ℕ) → number_of text ≡ o → o ≡ none
    go none p = refl
    go (some n) p = absurd (false≢true (sym e ∙ numeral_digits-alone ((number-iff text n).0 p)))

number_same : {text other : List ℕ} → SameDigits text other → number_of text ≡ number_of other
number_same {text} {other} s = go (all_digits text) refl
  where
    go : (t : Bool) → all_digits text ≡ t → number_of text ≡ number_of other
    go true e = ap number_of (s.same e)
    go false e = no_number text e ∙ sym (no_number other (sym s.digits ∙ e))

field-number : {raw value : List ℕ} → Field raw value → number_of (inside_of raw) ≡ number_of value
field-number (field-escaped {inside = inside} r) = rw (inside-escaped inside) (number_same (escaped-digits r))
field-number (field_non_escaped r) = rw (inside-text r)

-- what stands inside a field is the number that its value is
pub number-inside : (raw value : List ℕ) → field_value raw ≡ some value → number_of (inside_of raw) ≡ number_of value
number-inside raw value e = field-number (field-sound raw value e)
