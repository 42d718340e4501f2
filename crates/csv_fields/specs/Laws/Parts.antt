-- What stands inside a raw field, and its value where it is a field of the grammar. Assumes nothing.
use Rattle.std.specs.Prelude.{◌≡◌, refl, ℕ, suc, ◌+◌, ◌-◌, ◌↔◌, Bool, true, false, cond, ◌&&◌, List, [], ◌∷◌, ◌++◌, leb, eqb, length, take}
use Rattle.std.proofs.Common.{sym, ap, ◌∙◌, arith, length-append, take_at, le-leb}
use Rattle.std.proofs.Math.Bool.{or-true}
use Rattle.std.proofs.lemmas.Bool.{false≢true}
use Rattle.std.proofs.Math.Option.{some}
use Rattle.rfc4180.specs.Bytes.{quote, comma, carriage_return, line_feed}
use Rattle.rfc4180.specs.Grammar.{NonEscaped, non_escaped-end, non_escaped-text, Field, field-escaped, field_non_escaped}
use Rattle.rfc4180.specs.Grammar.{Escaped, escaped-end, escaped-text, escaped-comma, escaped_cr, escaped_lf, escaped-quote}
use Rattle.rfc4180.proofs.Laws.Classes.{text_no_quote}
use Rattle.rfc4180.proofs.Laws.Fields.{field_complete}
use Rattle.csv_fields.specs.Promises.{DoubledQuote}
use Rattle.csv_fields.specs.Spans.{inside_of, holds_quote, value_form, form_in}
use Rattle.csv_fields.specs.Undoubling.{undoubled}
use Rattle.csv_fields.specs.Laws.Undoubling.{escaped-undoubled, text_no_quotes, plain-undoubled, holds-undoubled}

-- inside a field stand the bytes between its quotes, or all of a text
pub inside-escaped : (inside : List ℕ) → inside_of (quote ∷ inside ++ quote ∷ []) ≡ inside
unfolding inside_of
inside-escaped inside =
    let n : length (inside ++ quote ∷ []) ≡ length inside + 1 = length-append inside (quote ∷ []) in
    let m : suc (length (inside ++ quote ∷ [])) - 2 ≡ length inside = omega arith in
    rw (le-leb 2 (suc (length (inside ++ quote ∷ []))) (omega arith), m) (take_at inside (quote ∷ []) (length inside) refl)

pub inside-text : {text : List ℕ} → NonEscaped text → inside_of text ≡ text
unfolding inside_of
inside-text non_escaped-end = refl
inside-text (non_escaped-text {b = b} {text = rest} t r) = rw (text_no_quote t) (go (leb 2 (suc (length rest))))
  where
    go : (s : Bool) → cond (s && false) (take (suc (length rest) - 2) rest) (b ∷ rest) ≡ b ∷ rest
    go true = refl
    go false = refl

-- with each doubled quote once they are the value
pub field-undoubled : {raw value : List ℕ} → Field raw value → undoubled (inside_of raw) ≡ value
field-undoubled (field-escaped {inside = inside} r) = rw (inside-escaped inside) (escaped-undoubled r)
field-undoubled (field_non_escaped {text = text} r) = rw (inside-text r) (plain-undoubled text (text_no_quotes r))

-- a quote stands inside a field exactly where its value has one
quote-inside : {raw value : List ℕ} → Field raw value → holds_quote (inside_of raw) ≡ holds_quote value
quote-inside {raw} {value} r = sym (holds-undoubled (inside_of raw)) ∙ ap holds_quote (field-undoubled r)

-- ---- a doubled quote stands inside a field exactly where its value has a quote

-- two quotes one behind the other
abbrev Pair : List ℕ → Type 0
Pair inside = (front : List ℕ) × (back : List ℕ) × (inside ≡ front ++ quote ∷ quote ∷ back)

behind : (b : ℕ) {inside : List ℕ} → Pair inside → Pair (b ∷ inside)
behind b (front, back, e) = (b ∷ front, back, ap (λ (l : List ℕ). b ∷ l) e)

escaped-pair : {inside value : List ℕ} → Escaped inside value → holds_quote value ≡ true → Pair inside
unfolding holds_quote
escaped-pair escaped-end e = absurd (false≢true e)
escaped-pair (escaped-text {b = b} t r) e = behind b (escaped-pair r (rw (text_no_quote t) at e))
escaped-pair (escaped-comma r) e = behind comma (escaped-pair r e)
escaped-pair (escaped_cr r) e = behind carriage_return (escaped-pair r e)
escaped-pair (escaped_lf r) e = behind line_feed (escaped-pair r e)
escaped-pair (escaped-quote {inside = inside} r) e = ([], inside, refl)

holds-behind : (front back : List ℕ) → holds_quote (front ++ quote ∷ back) ≡ true
unfolding holds_quote
holds-behind [] back = refl
holds-behind (b ∷ front) back = rw (holds-behind front back) (or-true (eqb b quote))

field-pair : {raw value : List ℕ} → Field raw value → holds_quote value ≡ true → DoubledQuote raw
field-pair (field-escaped {inside = inside} r) e = rw (inside-escaped inside) (escaped-pair r e)
field-pair (field_non_escaped r) e = absurd (false≢true (sym (text_no_quotes r) ∙ e))

pub doubled-quote : {raw value : List ℕ} → Field raw value → (holds_quote value ≡ true) ↔ DoubledQuote raw
doubled-quote r = (field-pair r, λ (front, back, e). sym (quote-inside r) ∙ rw e (holds-behind front (quote ∷ back)))

-- ---- the value of a field without one, and what is told of a field

-- without a doubled quote they are the value as they stand
pub field-part : {raw value : List ℕ} → Field raw value → holds_quote value ≡ false → inside_of raw ≡ value
field-part {raw} {value} r e = sym (plain-undoubled (inside_of raw) (quote-inside r ∙ e)) ∙ field-undoubled r

-- what is told of a field of the grammar
pub form-told : {raw value : List ℕ} → Field raw value → form_in raw ≡ some (value_form value)
unfolding form_in
form-told r = rw (field_complete r)
