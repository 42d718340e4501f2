-- What stands inside a field, with each doubled quote once, is its value. Assumes nothing.
use Rattle.std.specs.Prelude.{◌≡◌, Bool, true, false, cond, ◌||◌, ℕ, suc, ◌-◌, ◌≤◌, ◌<◌, eqb}
use Rattle.std.proofs.Math.Path.{refl, ap}
use Rattle.std.proofs.Common.{◌∙◌, true≢false, arith}
use mathlib.Core.List.{List, [], ◌∷◌}
use Rattle.std.proofs.Math.ListN.{length, take, drop}
use Rattle.std.proofs.Math.Seq.{take-length}
use borrow.Author.Tests.{ne_eqb}
use Rattle.rfc4180.specs.Bytes.{quote, comma, carriage_return, line_feed}
use Rattle.rfc4180.specs.Grammar.{NonEscaped, non_escaped-end, non_escaped-text, Escaped, escaped-end, escaped-text, escaped-comma, escaped_cr}
use Rattle.rfc4180.specs.Grammar.{escaped_lf, escaped-quote}
use Rattle.rfc4180.proofs.Laws.Classes.{text_no_quote}
use Rattle.csv_fields.specs.Spans.{holds_quote}
use Rattle.csv_fields.specs.Undoubling.{undoubled}

-- a byte that is no quote stands for itself
single : (b : ℕ) (rest : List ℕ) → eqb b quote ≡ false → undoubled (b ∷ rest) ≡ b ∷ undoubled rest
unfolding undoubled
single b [] e = refl
single b (c ∷ rest) e = rw e

pub escaped-undoubled : {inside value : List ℕ} → Escaped inside value → undoubled inside ≡ value
unfolding undoubled
escaped-undoubled escaped-end = refl
escaped-undoubled (escaped-text {b = b} {inside = inside} t r) = single b inside (text_no_quote t) ∙ ap (λ (l : List ℕ). b ∷ l) (escaped-undoubled r)
escaped-undoubled (escaped-comma {inside = inside} r) = single comma inside refl ∙ ap (λ (l : List ℕ). comma ∷ l) (escaped-undoubled r)
escaped-undoubled (escaped_cr {inside = inside} r) = single carriage_return inside refl ∙ ap (λ (l : List ℕ). carriage_return ∷ l) (escaped-undoubled r)
escaped-undoubled (escaped_lf {inside = inside} r) = single line_feed inside refl ∙ ap (λ (l : List ℕ). line_feed ∷ l) (escaped-undoubled r)
escaped-undoubled (escaped-quote r) = ap (λ (l : List ℕ). quote ∷ l) (escaped-undoubled r)

-- ---- bytes without a quote

-- text holds no quote
pub text_no_quotes : {text : List ℕ} → NonEscaped text → holds_quote text ≡ false
unfolding holds_quote
text_no_quotes non_escaped-end = refl
text_no_quotes (non_escaped-text t r) = rw (text_no_quote t) (text_no_quotes r)

-- bytes without a quote stand for themselves
pub plain-undoubled : (inside : List ℕ) → holds_quote inside ≡ false → undoubled inside ≡ inside
unfolding holds_quote undoubled
plain-undoubled [] e = refl
plain-undoubled (b ∷ rest) e = go (eqb b quote) refl e (plain-undoubled rest)
  where
    go : (t : Bool) → eqb b quote ≡ t → (t || holds_quote rest) ≡ false → (holds_quote rest ≡ false → undoubled rest ≡ rest)
        → undoubled (b ∷ rest) ≡ b ∷ rest
    go true p e further = absurd (true≢false e)
    go false p e further = single b rest p ∙ ap (λ (l : List ℕ). b ∷ l) (further e)

-- a quote is left exactly where there is one
pub holds-undoubled : (inside : List ℕ) → holds_quote (undoubled inside) ≡ holds_quote inside
unfolding holds_quote undoubled
holds-undoubled [] = refl
holds-undoubled (b ∷ []) = refl
holds-undoubled (b ∷ c ∷ rest) = go (eqb b quote) (holds-undoubled (c ∷ rest))
  where
    go : (t : Bool) → holds_quote (undoubled (c ∷ rest)) ≡ holds_quote (c ∷ rest)
        → (t || holds_quote (cond t (undoubled rest) (undoubled (c ∷ rest)))) ≡ (t || holds_quote (c ∷ rest))
    go true e = refl
    go false e = e

-- ---- byte after byte

pub nothing_left : (left : List ℕ) → length left < 1 → undoubled left ≡ []
unfolding undoubled
nothing_left [] h = refl
nothing_left (b ∷ rest) h = absurd (omega arith)

-- a quote stands with the byte behind it
pub pair : (b : ℕ) (behind : List ℕ) → b ≡ quote → 1 ≤ length behind
    → undoubled (b ∷ behind) ≡ b ∷ undoubled (take (length behind - 1) (drop 1 behind))
unfolding undoubled
pair b [] e h = absurd (omega arith)
pair b (c ∷ rest) e h = let n : suc (length rest) - 1 ≡ length rest = omega arith in rw (e, n, take-length rest)

-- another one stands alone
pub alone : (b : ℕ) (behind : List ℕ) → (b ≡ quote → length behind < 1) → undoubled (b ∷ behind) ≡ b ∷ undoubled behind
unfolding undoubled
alone b [] other = refl
alone b (c ∷ rest) other = single b (c ∷ rest) (ne_eqb b quote (λ e. absurd (omega (arith, other e))))

-- a value is no longer than what stands inside its field
pub no_longer : (inside : List ℕ) → length (undoubled inside) ≤ length inside
unfolding undoubled
no_longer [] = omega arith
no_longer (b ∷ []) = omega arith
no_longer (b ∷ c ∷ rest) = go (eqb b quote) (no_longer rest) (no_longer (c ∷ rest))
  where
    go : (t : Bool) → length (undoubled rest) ≤ length rest → length (undoubled (c ∷ rest)) ≤ suc (length rest)
        → suc (length (cond t (undoubled rest) (undoubled (c ∷ rest)))) ≤ suc (suc (length rest))
    go true short longer = omega arith
    go false short longer = omega arith
