-- How texts are compared and names are tested and found, and the text that a field's name is taken from.
-- Assumes nothing.
use Rattle.std.specs.Prelude.{◌≡◌, refl, ◌⊎◌, ℕ, suc, ◌+◌, ◌≤◌, ◌<◌, Bool, true, false, cond, not, ◌&&◌, Option, None, Some, Ok, Err, length, take}
use Rattle.std.specs.Prelude.{drop, leb, nat_eq}
use Rattle.std.specs.Cmp.Lexicographic.{pointwise}
use Rattle.std.specs.List.{position_or_len, list_all}
use Rattle.std.proofs.Common.{ap, ◌∙◌, inl, inr, arith}
use Rattle.std.specs.Option.{is_some}
use Rattle.std.proofs.lemmas.Bool.{lt-ltb, le-ltb}
use Rattle.std.proofs.lemmas.List.Recursion.{is_position_or_len}
use Rattle.std.proofs.Math.Option.{some}
use Rattle.std.proofs.Math.Bool.{and-false}
use mathlib.Core.List.{List, [], ◌∷◌}
use Rattle.std.proofs.Math.Seq.{take-append_seam}
use Rattle.csv_fields.specs.declared.FieldForm.TheVariants.{Part}
use Rattle.csv_fields.specs.declared.UndoError.{UndoError}
use Rattle.csv_fields.specs.Results.{Undone}
use Rattle.csv_fields.specs.Laws.Parts.{inside-escaped, inside-text}
use Rattle.csv_fields.specs.Promises.{HandsPart, Undoes}
use Rattle.csv_fields.specs.Spans.{inside_of, holds_quote, form_by, value_form}
use Rattle.rfc4180.specs.Fields.{field_value}
use Rattle.rfc4180.specs.Grammar.{Escaped, escaped-end, escaped-text, escaped-comma, escaped_cr, escaped_lf, escaped-quote, Field, field-escaped}
use Rattle.rfc4180.specs.Grammar.{field_non_escaped}
use Rattle.rfc4180.proofs.Laws.Fields.{field-sound}
use Rattle.planning.proofs.Laws.Finite.Decisions.{le-or-lt}
use Rattle.planning.specs.Numbers.{within}
use Rattle.planfile.specs.Bounds.{most_name_bytes, least_name_byte, most_name_byte}
use Rattle.planfile.proofs.Laws.Tests.{used-place, unused-place}
use Rattle.planfile.specs.Reading.{same, name_bytes, sound_name, unused, place_of}
use Rattle.planreader.specs.Items.{place_among}
use Rattle.planreader.specs.Laws.Parts.{within-below, within-above}
use Rattle.planreader.specs.Fields.{NameFor}

-- ---- two texts

-- the library's comparison of texts is that of the reading
pub pointwise-same : (text other : List ℕ) → pointwise nat_eq text other ≡ same text other
unfolding same
pointwise-same [] [] = refl
pointwise-same [] (b ∷ bs) = refl
pointwise-same (a ∷ rest) [] = refl
pointwise-same (a ∷ rest) (b ∷ bs) = ap (λ (t : Bool). nat_eq a b && t) (pointwise-same rest bs)

-- texts of different lengths are not the same
pub same-lengths : (text other : List ℕ) → (length text ≡ length other → ⊥) → same text other ≡ false
unfolding same
same-lengths [] [] ne = absurd (ne refl)
same-lengths [] (b ∷ bs) ne = refl
same-lengths (a ∷ rest) [] ne = refl
same-lengths (a ∷ rest) (b ∷ bs) ne = rw (same-lengths rest bs (λ e. ne (ap suc e)), and-false)

-- as a function that finds two texts unlike says it, of a word in the file
pub contrasted : (t : Bool) {word : List ℕ} (text other : List ℕ) → t ≡ not (pointwise nat_eq text other) → other ≡ word → not t ≡ same text word
contrasted t text other e is = ap not e ∙ twice (pointwise nat_eq text other) ∙ pointwise-same text other ∙ ap (same text) is
  where
    twice : (t : Bool) → not (not t) ≡ t
    twice true = refl
    twice false = refl

-- ---- the bytes of a name

-- the bytes of a name, as tests of each
name-bytes-tests : (name : List ℕ) → name_bytes name ≡ list_all (λ (b : ℕ). leb least_name_byte b && leb b most_name_byte) name
unfolding name_bytes within
name-bytes-tests [] = refl
name-bytes-tests (b ∷ bs) = rw (name-bytes-tests bs)

pub sound-tests : (name : List ℕ) → sound_name name
    ≡ ((leb 1 (length name) && leb (length name) most_name_bytes) && list_all (λ (b : ℕ). leb least_name_byte b && leb b most_name_byte) name)
unfolding sound_name within
sound-tests name = rw (name-bytes-tests name)

-- a name has no more and no fewer bytes than a name may have
pub unsound_length : (name : List ℕ) → (length name < 1) ⊎ (most_name_bytes < length name) → sound_name name ≡ false
unfolding sound_name
unsound_length name (inl l) = rw (within-below 1 most_name_bytes (length name) l)
unsound_length name (inr l) = rw (within-above 1 most_name_bytes (length name) l)

-- ---- a name among others

place-next : (name other : List ℕ) (names : List (List ℕ)) → place_of name (other ∷ names) ≡ cond (pointwise nat_eq name other) 0 (1 + place_of name names)
unfolding place_of
place-next name other names = rw (pointwise-same name other) (ap (cond (same name other) 0) (omega arith))

module _ (name : List ℕ) (names : List (List ℕ)) where
  -- its place, which is behind them all where it is none of them
  place-first : place_of name names ≡ position_or_len (λ (other : List ℕ). pointwise nat_eq name other) names
  unfolding place_of
  place-first =
      is_position_or_len (place_of name) (λ (other : List ℕ). pointwise nat_eq name other) refl (place-next name) names

  pub placed-none : place_among name names ≡ None → length names ≤ place_of name names
  placed-none e = go (le-or-lt (length names) (place_of name names))
    where
      go : (length names ≤ place_of name names) ⊎ (place_of name names < length names) → length names ≤ place_of name names
      go (inl l) = l
      go (inr l) =
          let test = lt-ltb (place_of name names) (length names) l in
          absurd (cc (rw (← place-first, test) at e))

  pub placed-some : {k : ℕ} → place_among name names ≡ Some k → (place_of name names ≡ k) × (k < length names)
  placed-some {k} e = go (le-or-lt (length names) (place_of name names))
    where
      go : (length names ≤ place_of name names) ⊎ (place_of name names < length names) → (place_of name names ≡ k) × (k < length names)
      go (inl l) =
          let test = le-ltb (place_of name names) (length names) l in
          absurd (cc (rw (← place-first, test) at e))
      go (inr l) =
          let test = lt-ltb (place_of name names) (length names) l in
          let is : place_of name names ≡ k = cc (rw (← place-first, test) at e) in
          (is, omega arith)

  -- it is unused where it has none
  unused-placed : unused name names ≡ not (is_some (place_among name names))
  unused-placed = go (place_among name names) refl
    where
      go : (o : Option ℕ) → place_among name names ≡ o → unused name names ≡ not (is_some o)
      go None e = unused-place name names (placed-none e)
      go (Some k) e = used-place name names (omega (arith, placed-some e))

  -- as functions that test it say it: it is sound and new, unsound, or used
  module _ {sound : Bool} (p : sound ≡ sound_name name) where
    pub name-unsound : sound ≡ false → false ≡ (sound_name name && unused name names)
    name-unsound e = rw (← p, e)

    module _ {used : Bool} (q : used ≡ is_some (place_among name names)) where
      pub name-new : sound ≡ true → used ≡ false → true ≡ (sound_name name && unused name names)
      name-new e f = rw (unused-placed, ← p, ← q, e, f)

      pub name-used : sound ≡ true → used ≡ true → false ≡ (sound_name name && unused name names)
      name-used e f = rw (unused-placed, ← p, ← q, e, f)

-- ---- the text that a field's name is taken from

-- what stands inside a field is no shorter than its value
escaped-longer : {inside value : List ℕ} → Escaped inside value → length value ≤ length inside
escaped-longer escaped-end = omega arith
escaped-longer (escaped-text t r) = omega (arith, escaped-longer r)
escaped-longer (escaped-comma r) = omega (arith, escaped-longer r)
escaped-longer (escaped_cr r) = omega (arith, escaped-longer r)
escaped-longer (escaped_lf r) = omega (arith, escaped-longer r)
escaped-longer (escaped-quote r) = omega (arith, escaped-longer r)

inside-longer : {raw value : List ℕ} → Field raw value → length value ≤ length (inside_of raw)
inside-longer (field-escaped {inside = inside} r) = rw (inside-escaped inside) (escaped-longer r)
inside-longer (field_non_escaped r) = rw (inside-text r) (omega arith)

no_quote : (has_quote : Bool) → form_by has_quote ≡ Part → has_quote ≡ false
unfolding form_by
no_quote true e = let z : ◌≡◌ {A = ℕ} 0 1 = cc in absurd (omega arith)
no_quote false e = refl

module _ (raw value part : List ℕ) (reads : field_value raw ≡ some value) (hands : HandsPart raw part) where
  -- without a doubled quote: the part
  pub name-part : value_form value ≡ Part → NameFor value part
  name-part single =
      let same_text = hands.value (field-sound raw value reads) (no_quote (holds_quote value) single) in
      record { short = λ l. same_text; long = λ l. rw same_text l }

  -- undone into a buffer that a name fits, or too long: so is the part
  module _ (lent : List ℕ) (space : length lent ≡ most_name_bytes) {r : Undone} {left : List ℕ} (undone : Undoes raw lent r left) where
    pub name-undone : (n : ℕ) → r ≡ Ok n → NameFor value (take n left)
    name-undone n e = go (le-or-lt (length value) (length lent))
      where
        go : (length value ≤ length lent) ⊎ (length lent < length value) → NameFor value (take n left)
        go (inl l) =
            let (told, stands) = undone.fits (field-sound raw value reads) l in
            let size : length value ≡ n = cc in
            let front : take n left ≡ value = rw (stands, ← size) (take-append_seam value (drop (length value) lent)) in
            rw front (record { short = λ l. refl; long = λ l. l })
        go (inr l) =
            let told = (undone.too_long (field-sound raw value reads) l).0 in
            absurd (cc)

    pub name_too_long : {why : UndoError} → r ≡ Err why → NameFor value part
    name_too_long failed = go (le-or-lt (length value) (length lent))
      where
        go : (length value ≤ length lent) ⊎ (length lent < length value) → NameFor value part
        go (inl l) =
            let told = (undone.fits (field-sound raw value reads) l).0 in
            absurd (cc)
        go (inr l) =
            record {
              short = λ m. absurd (omega arith);
              long = λ m. omega (arith, inside-longer (field-sound raw value reads), ap length hands.equals);
            }

-- the check of a name goes by that text as by the value
pub name_checked : {value name : List ℕ} → NameFor value name → (names : List (List ℕ))
    → (sound_name name && unused name names) ≡ (sound_name value && unused value names)
name_checked {value} {name} f names = go (le-or-lt (length value) most_name_bytes)
  where
    go : (length value ≤ most_name_bytes) ⊎ (most_name_bytes < length value)
        → (sound_name name && unused name names) ≡ (sound_name value && unused value names)
    go (inl l) = rw (f.short l)
    go (inr l) = rw (unsound_length value (inr l), unsound_length name (inr (f.long l)))
