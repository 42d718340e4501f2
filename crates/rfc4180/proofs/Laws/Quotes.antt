-- A field of the grammar holds an even number of quotes, and no comma and no CR outside quotes. So neither the search for
-- the record's end nor the cut at commas stops inside a field. Assumes nothing.
use Rattle.std.specs.Prelude.{◌≡◌, refl, ℕ, Bool, true, false, ◌&&◌, List, [], ◌∷◌, ◌++◌, eqb}
use Rattle.std.proofs.Common.{ap, ◌∙◌}
use Rattle.rfc4180.specs.Bytes.{comma, carriage_return}
use Rattle.rfc4180.specs.Grammar.{TextData, NonEscaped, non_escaped-end, non_escaped-text, Escaped, escaped-end, escaped-text, escaped-comma}
use Rattle.rfc4180.specs.Grammar.{escaped_cr, escaped_lf, escaped-quote, Field, field-escaped, field_non_escaped}
use Rattle.rfc4180.specs.Records.{FirstRecord, outside_after, behind_end, first_from}
use Rattle.rfc4180.specs.Fields.{cut_or, raw_fields_from}
use Rattle.rfc4180.proofs.Laws.Classes.{text_no_quote, text_no_comma, text_no_cr}

-- bytes without a comma or a CR outside quotes: the first Bool says whether their front is outside quotes, the second
-- whether their end is
pub data Unbroken : Bool → List ℕ → Bool → Type 0 where
  unbroken_end : {outside : Bool} → Unbroken outside [] outside
  unbroken_byte : {outside to : Bool} {b : ℕ} {rest : List ℕ} → (outside && eqb b comma) ≡ false → (outside && eqb b carriage_return) ≡ false
      → Unbroken (outside_after outside b) rest to → Unbroken outside (b ∷ rest) to

unbroken_append : {from mid to : Bool} {front back : List ℕ} → Unbroken from front mid → Unbroken mid back to → Unbroken from (front ++ back) to
unbroken_append unbroken_end u = u
unbroken_append (unbroken_byte p q r) u = unbroken_byte p q (unbroken_append r u)

text_unbroken : {b : ℕ} {rest : List ℕ} {from to : Bool} → TextData b → Unbroken from rest to → Unbroken from (b ∷ rest) to
unfolding outside_after
text_unbroken {b} {rest} {from = true} {to} t r =
    let further : Unbroken (outside_after true b) rest to = rw (text_no_quote t) r in
    unbroken_byte (text_no_comma t) (text_no_cr t) further
text_unbroken {b} {rest} {from = false} {to} t r =
    let further : Unbroken (outside_after false b) rest to = rw (text_no_quote t) r in
    unbroken_byte refl refl further

non_escaped_unbroken : {text : List ℕ} → NonEscaped text → Unbroken true text true
non_escaped_unbroken non_escaped-end = unbroken_end
non_escaped_unbroken (non_escaped-text t r) = text_unbroken t (non_escaped_unbroken r)

escaped_unbroken : {inside value : List ℕ} → Escaped inside value → Unbroken false inside false
unfolding outside_after
escaped_unbroken escaped-end = unbroken_end
escaped_unbroken (escaped-text t r) = text_unbroken t (escaped_unbroken r)
escaped_unbroken (escaped-comma r) = unbroken_byte refl refl (escaped_unbroken r)
escaped_unbroken (escaped_cr r) = unbroken_byte refl refl (escaped_unbroken r)
escaped_unbroken (escaped_lf r) = unbroken_byte refl refl (escaped_unbroken r)
escaped_unbroken (escaped-quote r) = unbroken_byte refl refl (unbroken_byte refl refl (escaped_unbroken r))

-- a field begins and ends outside quotes
pub field_unbroken : {raw value : List ℕ} → Field raw value → Unbroken true raw true
unfolding outside_after
field_unbroken (field-escaped r) = unbroken_byte refl refl (unbroken_append (escaped_unbroken r) (unbroken_byte refl refl unbroken_end))
field_unbroken (field_non_escaped r) = non_escaped_unbroken r

-- ---- the search for the record's end

-- bytes before a record's text
abbrev pub prefixed : List ℕ → FirstRecord → FirstRecord
prefixed front found = record { text = front ++ found.text; behind = found.behind }

-- no record ends at a byte that is no CR outside quotes
pub byte_passed : (outside : Bool) (b : ℕ) (more : List ℕ) → (outside && eqb b carriage_return) ≡ false
    → first_from outside (b ∷ more) ≡ prefixed (b ∷ []) (first_from (outside_after outside b) more)
unfolding first_from
byte_passed outside b [] e = refl
byte_passed outside b (c ∷ more) e = rw (behind_end, e)

-- no record ends in unbroken bytes
pub unbroken_passed : {from to : Bool} {front : List ℕ} → Unbroken from front to → (more : List ℕ)
    → first_from from (front ++ more) ≡ prefixed front (first_from to more)
unbroken_passed unbroken_end more = refl
unbroken_passed (unbroken_byte {outside = outside} {b = b} {rest = rest} p q r) more =
    byte_passed outside b (rest ++ more) q ∙ ap (prefixed (b ∷ [])) (unbroken_passed r more)

-- ---- the cut at commas

-- bytes before the first raw field
abbrev pub on_first : List ℕ → List (List ℕ) → List (List ℕ)
on_first front [] = front ∷ []
on_first front (field ∷ fields) = (front ++ field) ∷ fields

kept : (t : Bool) (b : ℕ) (fields : List (List ℕ)) → t ≡ false → cut_or t b fields ≡ on_first (b ∷ []) fields
unfolding cut_or
kept t b [] e = rw e
kept t b (field ∷ fields) e = rw e

on_first_byte : (b : ℕ) (front : List ℕ) (fields : List (List ℕ)) → on_first (b ∷ []) (on_first front fields) ≡ on_first (b ∷ front) fields
on_first_byte b front [] = refl
on_first_byte b front (field ∷ fields) = refl

-- a list with an item
abbrev pub NonEmpty : {A : Type 0} → List A → Type 0
NonEmpty [] = ⊥
NonEmpty (item ∷ items) = Unit {0}

cut_non_empty : (t : Bool) (b : ℕ) (fields : List (List ℕ)) → NonEmpty (cut_or t b fields)
unfolding cut_or
cut_non_empty true b fields = tt
cut_non_empty false b [] = tt
cut_non_empty false b (field ∷ fields) = tt

-- a record's text has a raw field
pub raw_non_empty : (outside : Bool) (text : List ℕ) → NonEmpty (raw_fields_from outside text)
unfolding raw_fields_from
raw_non_empty outside [] = tt
raw_non_empty outside (b ∷ rest) = cut_non_empty (outside && eqb b comma) b (raw_fields_from (outside_after outside b) rest)

on_first-nothing : (fields : List (List ℕ)) → NonEmpty fields → fields ≡ on_first [] fields
on_first-nothing [] n = absurd n
on_first-nothing (field ∷ fields) n = refl

-- no field ends in unbroken bytes
pub unbroken_uncut : {from to : Bool} {front : List ℕ} → Unbroken from front to → (more : List ℕ)
    → raw_fields_from from (front ++ more) ≡ on_first front (raw_fields_from to more)
unfolding raw_fields_from
unbroken_uncut {to = to} unbroken_end more = on_first-nothing (raw_fields_from to more) (raw_non_empty to more)
unbroken_uncut {to = to} (unbroken_byte {outside = outside} {b = b} {rest = rest} p q r) more =
    kept (outside && eqb b comma) b _ p ∙ ap (on_first (b ∷ [])) (unbroken_uncut r more) ∙ on_first_byte b rest (raw_fields_from to more)
