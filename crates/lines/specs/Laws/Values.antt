-- What the writer's definitions ask of each byte of a value, and what a walk along it meets at a place. Assumes nothing.
use Rattle.std.specs.Prelude.{◌≡◌, refl, ℕ, suc, ◌+◌, ◌<◌, Bool, true, false, cond, not, ◌&&◌, ◌||◌}
use Rattle.std.specs.Prelude.{List, [], ◌∷◌, ◌++◌, ◌==◌, eqb, length, drop, get_or, count_by}
use Rattle.std.specs.List.{list_all}
use Rattle.std.proofs.Common.{ap, sym, ◌∙◌, arith}
use Rattle.std.proofs.lemmas.List.Sums.{sum_by-cons}
use Rattle.std.proofs.Math.Bool.{and-false, and-eq-true_iff}
use borrow.Author.Tests.{not-true, not-false, eq-eqb, ne_eqb}
use Rattle.rfc4180.specs.Bytes.{quote, class_of}
use Rattle.rfc4180.specs.Writer.{asks_for_quotes, needs_quotes, doubled, written, is_allowed, writable, quote_count}
use Rattle.rfc4180.proofs.Laws.Places.{bytes-from}

-- what is asked of each byte
pub writable_all : (value : List ℕ) → writable value ≡ list_all (λ b. is_allowed (class_of b)) value
unfolding writable
writable_all [] = refl
writable_all (b ∷ rest) = ap (λ t. is_allowed (class_of b) && t) (writable_all rest)

-- as it is: it can be written, and no byte wants quotes
bare-both : (allowed asks writes quoted : Bool) → ((allowed && not asks) && (writes && not quoted)) ≡ ((allowed && writes) && not (asks || quoted))
bare-both true true writes quoted = sym (and-false writes)
bare-both true false writes quoted = refl
bare-both false asks writes quoted = refl

pub plain_all : (value : List ℕ) → list_all (λ b. is_allowed (class_of b) && not (asks_for_quotes (class_of b))) value
    ≡ (writable value && not (needs_quotes value))
unfolding writable needs_quotes
plain_all [] = refl
plain_all (b ∷ rest) =
    ap (λ t. (is_allowed (class_of b) && not (asks_for_quotes (class_of b))) && t) (plain_all rest)
    ∙ bare-both (is_allowed (class_of b)) (asks_for_quotes (class_of b)) (writable rest) (needs_quotes rest)

-- a value that is written as it is, and one that can be written and is not
pub plain_value : (value : List ℕ) {found : Bool} → found ≡ list_all (λ b. is_allowed (class_of b) && not (asks_for_quotes (class_of b))) value
    → found ≡ true → (writable value ≡ true) × (needs_quotes value ≡ false)
plain_value value is e =
    let both = (and-eq-true_iff (writable value) (not (needs_quotes value))).0 (sym (plain_all value) ∙ sym is ∙ e) in
    (both.0, not-true (needs_quotes value) both.1)

pub quoted_value : (value : List ℕ) {found : Bool} → found ≡ list_all (λ b. is_allowed (class_of b) && not (asks_for_quotes (class_of b))) value
    → found ≡ false → writable value ≡ true → needs_quotes value ≡ true
quoted_value value is e writes =
    let bare = rw writes at (sym (plain_all value) ∙ sym is ∙ e) in
    not-false (needs_quotes value) bare

counted : (t : Bool) (n : ℕ) → cond t (suc n) n ≡ cond t 1 0 + n
counted true n = omega arith
counted false n = omega arith

pub quote_count_by : (value : List ℕ) → quote_count value ≡ count_by (λ b. b == quote) value
unfolding quote_count
quote_count_by [] = refl
quote_count_by (b ∷ rest) =
    counted (eqb b quote) (quote_count rest) ∙ ap (λ n. cond (eqb b quote) 1 0 + n) (quote_count_by rest)
    ∙ sym (sum_by-cons (λ b. cond (b == quote) 1 0) b rest)

module _ (value : List ℕ) (i : ℕ) (within : i < length value) where
  -- a quote is written twice
  pub doubled-quote : get_or value i 0 ≡ quote → doubled (drop i value) ≡ quote ∷ get_or value i 0 ∷ doubled (drop (i + 1) value)
  unfolding doubled
  doubled-quote e = rw (bytes-from value i within, eq-eqb (get_or value i 0) quote e)

  -- and any other byte once
  pub doubled-other : (get_or value i 0 ≡ quote → ⊥) → doubled (drop i value) ≡ get_or value i 0 ∷ doubled (drop (i + 1) value)
  unfolding doubled
  doubled-other n = rw (bytes-from value i within, ne_eqb (get_or value i 0) quote n)

-- a value that needs quotes, written
pub written-quoted : (value : List ℕ) → needs_quotes value ≡ true → written value ≡ quote ∷ (doubled value ++ quote ∷ [])
unfolding written
written-quoted value e = rw e

-- and one that does not
pub written-plain : (value : List ℕ) → needs_quotes value ≡ false → written value ≡ value
unfolding written
written-plain value e = rw e
