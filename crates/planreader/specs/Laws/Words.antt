-- A word without a quote in it can be compared with what stands inside a raw field as with the field's value: they are the same, or both hold a
-- quote where they begin to differ. Assumes nothing.
use Rattle.std.specs.Prelude.{◌≡◌, ℕ, Bool, true, false, ◌&&◌, ◌||◌}
use Rattle.std.proofs.Math.Path.{refl, ap}
use Rattle.std.proofs.Common.{sym, ◌∙◌, true≢false, ne_eqb}
use mathlib.Core.List.{List, [], ◌∷◌}
use Rattle.std.proofs.Math.Option.{some}
use Rattle.std.proofs.Math.Dec.{eqb}
use Rattle.std.proofs.lemmas.Bool.{eqb-false}
use Rattle.rfc4180.specs.Bytes.{quote, comma, carriage_return, line_feed}
use Rattle.rfc4180.specs.Grammar.{Escaped, escaped-end, escaped-text, escaped-comma, escaped_cr, escaped_lf, escaped-quote, Field, field-escaped}
use Rattle.rfc4180.specs.Grammar.{field_non_escaped}
use Rattle.rfc4180.specs.Fields.{field_value}
use Rattle.csv_fields.specs.Spans.{inside_of, holds_quote}
use Rattle.rfc4180.proofs.Laws.Fields.{field-sound}
use Rattle.csv_fields.specs.Laws.Parts.{inside-escaped, inside-text}
use Rattle.planfile.specs.Reading.{same}

neither : (t u : Bool) → (t || u) ≡ false → (t ≡ false) × (u ≡ false)
neither true u e = absurd (true≢false e)
neither false u e = (refl, e)

-- the bytes of a word without a quote
no_quote : (b : ℕ) (bs : List ℕ) → holds_quote (b ∷ bs) ≡ false → (eqb quote b ≡ false) × (holds_quote bs ≡ false)
unfolding holds_quote
no_quote b bs e =
    let both = neither (eqb b quote) (holds_quote bs) e in
    (ne_eqb quote b (λ q. eqb-false b quote both.0 (rw q)), both.1)

-- a byte that stands for itself
module _ (b : ℕ) (inside value : List ℕ) (behind : (word : List ℕ) → holds_quote word ≡ false → same inside word ≡ same value word) where
  byte_same : (word : List ℕ) → holds_quote word ≡ false → same (b ∷ inside) word ≡ same (b ∷ value) word
  unfolding same
  byte_same [] e = refl
  byte_same (w ∷ word) e = ap (λ (t : Bool). eqb b w && t) (behind word (no_quote w word e).1)

-- a quote, which no word begins with
quote-other : (text word : List ℕ) → holds_quote word ≡ false → same (quote ∷ text) word ≡ false
unfolding same
quote-other text [] e = refl
quote-other text (w ∷ word) e = rw (no_quote w word e).0

escaped-same : {inside value : List ℕ} → Escaped inside value → (word : List ℕ) → holds_quote word ≡ false → same inside word ≡ same value word
escaped-same escaped-end = λ word e. refl
escaped-same (escaped-text {b = b} t r) = byte_same b _ _ (escaped-same r)
escaped-same (escaped-comma r) = byte_same comma _ _ (escaped-same r)
escaped-same (escaped_cr r) = byte_same carriage_return _ _ (escaped-same r)
escaped-same (escaped_lf r) = byte_same line_feed _ _ (escaped-same r)
escaped-same (escaped-quote {inside = inside} {value = value} r) = λ word e. quote-other (quote ∷ inside) word e ∙ sym (quote-other value word e)

field-same : {raw value : List ℕ} → Field raw value → (word : List ℕ) → holds_quote word ≡ false → same (inside_of raw) word ≡ same value word
field-same (field-escaped {inside = inside} r) word e = rw (inside-escaped inside) (escaped-same r word e)
field-same (field_non_escaped r) word e = rw (inside-text r)

-- the part of a field is that word exactly where its value is
pub word_same : (raw value word : List ℕ) → field_value raw ≡ some value → holds_quote word ≡ false → same (inside_of raw) word ≡ same value word
word_same raw value word e q = field-same (field-sound raw value e) word q
