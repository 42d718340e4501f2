-- What the reader finds byte after byte is the first raw field of the record, whether it holds a doubled quote and what ends it.
-- Assumes nothing.
use Rattle.std.specs.Prelude.{◌≡◌, Bool, cond, ◌&&◌, ℕ, suc, ◌+◌, length}
use Rattle.std.proofs.Math.Path.{refl, sym, ap}
use Rattle.std.proofs.Common.{◌∙◌, drop-drop, eqb-true}
use Rattle.std.proofs.Math.Bool.{true, false}
use Rattle.std.proofs.lemmas.Bool.{false≢true}
use Rattle.std.proofs.Math.Option.{Option, none, some, map}
use mathlib.Core.List.{List, [], ◌∷◌}
use native.Mathlib.Omega.{arith}
use Rattle.std.proofs.Math.Dec.{eqb}
use Rattle.std.proofs.Math.ListN.{drop}
use Rattle.rfc4180.specs.declared.ByteClass.{ByteClass}
use Rattle.csv_fields.specs.declared.FieldForm.{FieldForm}
use Rattle.csv_fields.specs.declared.FieldForm.TheVariants.{Part, Doubled}
use Rattle.rfc4180.specs.declared.ByteClass.TheVariants.{Text, Quote, Comma, CarriageReturn, LineFeed, Refused}
use Rattle.rfc4180.specs.Bytes.{quote, comma, carriage_return, line_feed, class_of}
use Rattle.rfc4180.specs.Records.{outside_after, behind_end, ended_or, first_from, first_record}
use Rattle.rfc4180.specs.Fields.{cut_or, raw_fields_from, raw_fields, is_text, all_text, escaped_byte, escaped_value, field_value}
use Rattle.csv_fields.specs.Results.{Reading}
use Rattle.csv_fields.specs.Reader.{begins_with, end_by, end_read, plain_read, inside_read, quoted_read}
use Rattle.csv_fields.specs.Spans.{before_comma, before_record_end, with_file, broken_field, holds_quote, form_by, value_form, form_in, read_by, first_read, field_read}
use Rattle.rfc4180.proofs.Laws.Classes.{class_number, class_means, other_byte}
use Rattle.rfc4180.proofs.Laws.Fields.{text-only}
use Rattle.rfc4180.proofs.Laws.Quotes.{NonEmpty, raw_non_empty}
use Rattle.csv_fields.specs.Laws.Spans.{no_end}
use Rattle.csv_fields.specs.Laws.Undoubling.{text_no_quotes}

-- the first raw field of the rest of a record, which is or is not outside quotes, by what says whether it holds a doubled quote
abbrev read_from : (form : List ℕ → Option FieldForm) → (outside : Bool) → (at : ℕ) → (bytes : List ℕ) → Reading
read_from form outside at bytes =
    first_read form at (raw_fields_from outside (first_from outside bytes).text) (first_from outside bytes).behind

alike_read : (v w : List ℕ → Option FieldForm) → ((raw : List ℕ) → v raw ≡ w raw) → (at : ℕ) (raws : List (List ℕ)) (behind : Option (List ℕ))
    → first_read v at raws behind ≡ first_read w at raws behind
unfolding first_read
alike_read v w alike at [] behind = refl
alike_read v w alike at (raw ∷ others) behind = rw (alike raw)

never_read : (v : List ℕ → Option FieldForm) → ((raw : List ℕ) → v raw ≡ none) → (at : ℕ) (raws : List (List ℕ)) (behind : Option (List ℕ))
    → first_read v at raws behind ≡ broken_field
unfolding first_read read_by
never_read v e at [] behind = refl
never_read v e at (raw ∷ others) behind = rw (e raw)

-- ---- one byte

byte_on : (v : List ℕ → Option FieldForm) (b at : ℕ) (raws : List (List ℕ)) (behind : Option (List ℕ)) → NonEmpty raws
    → first_read v at (cut_or false b raws) behind ≡ first_read (λ raw. v (b ∷ raw)) (at + 1) raws behind
unfolding first_read cut_or
byte_on v b at [] behind n = absurd n
byte_on v b at (raw ∷ others) behind n =
    let e : at + suc (length raw) ≡ at + 1 + length raw = omega arith in
    rw e

-- a byte that ends neither a record nor a field is the first of the field
kept_byte : (v : List ℕ → Option FieldForm) (outside : Bool) (at b : ℕ) (rest : List ℕ) → behind_end outside (b ∷ rest) ≡ none
    → (outside && eqb b comma) ≡ false → read_from v outside at (b ∷ rest) ≡ read_from (λ raw. v (b ∷ raw)) (outside_after outside b) (at + 1) rest
unfolding first_from raw_fields_from
kept_byte v outside at b rest on uncut =
    rw (on, ended_or, uncut) (byte_on v b at _ _ (raw_non_empty (outside_after outside b) (first_from (outside_after outside b) rest).text))

-- no comma cuts and no record ends inside quotes
inside_byte : (v : List ℕ → Option FieldForm) (at b : ℕ) (rest : List ℕ)
    → read_from v false at (b ∷ rest) ≡ read_from (λ raw. v (b ∷ raw)) (outside_after false b) (at + 1) rest
inside_byte v at b rest = kept_byte v false at b rest (no_end false b rest refl) refl

-- a byte outside quotes that nothing behind it makes sound
breaks : (v : List ℕ → Option FieldForm) (at b : ℕ) (rest : List ℕ) → ((raw : List ℕ) → v (b ∷ raw) ≡ none) → behind_end true (b ∷ rest) ≡ none
    → eqb b comma ≡ false → read_from v true at (b ∷ rest) ≡ broken_field
breaks v at b rest never on uncut = kept_byte v true at b rest on uncut ∙ never_read (λ raw. v (b ∷ raw)) never (at + 1) _ _

-- ---- the end of a field

module _ (v : List ℕ → Option FieldForm) (form : FieldForm) (empty : v [] ≡ some form) (at : ℕ) where
  ends_with_file : read_from v true at [] ≡ with_file at form
  unfolding first_from raw_fields_from first_read read_by
  ends_with_file = let z : at + 0 ≡ at = omega arith in rw (empty, z)

  comma-cuts : (raws : List (List ℕ)) (behind : Option (List ℕ)) → NonEmpty raws → first_read v at ([] ∷ raws) behind ≡ before_comma at form
  unfolding first_read read_by
  comma-cuts [] behind n = absurd n
  comma-cuts (raw ∷ raws) behind n = let z : at + 0 ≡ at = omega arith in rw (empty, z)

  at-comma : (rest : List ℕ) → read_from v true at (comma ∷ rest) ≡ before_comma at form
  unfolding first_from raw_fields_from
  at-comma rest =
      rw (no_end true comma rest refl, ended_or, cut_or)
      (comma-cuts _ _ (raw_non_empty (outside_after true comma) (first_from (outside_after true comma) rest).text))

  at_record_end : (rest : List ℕ) → read_from v true at (carriage_return ∷ line_feed ∷ rest) ≡ before_record_end at form
  unfolding first_from raw_fields_from first_read read_by behind_end ended_or
  at_record_end rest = let z : at + 0 ≡ at = omega arith in rw (empty, z)

  at_cr : (rest : List ℕ) (text : Reading) → ((raw : List ℕ) → v (carriage_return ∷ raw) ≡ none)
      → read_from v true at (carriage_return ∷ rest) ≡ end_by CarriageReturn (begins_with line_feed rest) at form text
  unfolding end_by begins_with behind_end
  at_cr [] text never = breaks v at carriage_return [] never refl refl
  at_cr (c ∷ rest) text never = go (eqb c line_feed) refl
    where
      go : (t : Bool) → eqb c line_feed ≡ t → read_from v true at (carriage_return ∷ c ∷ rest) ≡ end_by CarriageReturn t at form text
      go true e = rw (eqb-true c line_feed e) (at_record_end rest)
      go false e = breaks v at carriage_return (c ∷ rest) never (rw e) refl

  -- the byte at which a field may end decides by its class, where no byte but text can go on
  byte_ends : (b : ℕ) (rest : List ℕ) (text : Reading) → (class_of b ≡ Text → read_from v true at (b ∷ rest) ≡ text)
      → (is_text (class_of b) ≡ false → (raw : List ℕ) → v (b ∷ raw) ≡ none)
      → read_from v true at (b ∷ rest) ≡ end_by (class_of b) (begins_with line_feed rest) at form text
  unfolding end_by is_text class_of
  byte_ends b rest text on never = go (class_of b) refl
    where
      other : {k : ByteClass} → class_of b ≡ k → is_text k ≡ false → eqb (class_number k) 2 ≡ false → eqb (class_number k) 3 ≡ false
          → read_from v true at (b ∷ rest) ≡ broken_field
      other e p q r = breaks v at b rest (never (rw e p)) (no_end true b rest (other_byte b carriage_return e r)) (other_byte b comma e q)

      go : (k : ByteClass) → class_of b ≡ k → read_from v true at (b ∷ rest) ≡ end_by k (begins_with line_feed rest) at form text
      go Text e = on e
      go Quote e = other e refl refl refl
      go Comma e = rw (class_means b e) (at-comma rest)
      go CarriageReturn e = rw (class_means b e) (at_cr rest text (rw (class_means b e) at (never (rw e refl))))
      go LineFeed e = other e refl refl refl
      go Refused e = other e refl refl refl

-- ---- a field that is not quoted

abbrev in_text : List ℕ → Option FieldForm
in_text raw = cond (all_text raw) (some Part) none

text_alike : (b : ℕ) → class_of b ≡ Text → (raw : List ℕ) → in_text (b ∷ raw) ≡ in_text raw
unfolding all_text is_text
text_alike b e raw = rw e

text_never : (b : ℕ) → is_text (class_of b) ≡ false → (raw : List ℕ) → in_text (b ∷ raw) ≡ none
unfolding all_text
text_never b other raw = rw other

text_on : (v : List ℕ → Option FieldForm) (at b : ℕ) (rest : List ℕ) → class_of b ≡ Text
    → read_from v true at (b ∷ rest) ≡ read_from (λ raw. v (b ∷ raw)) true (at + 1) rest
unfolding outside_after class_of
text_on v at b rest e =
    kept_byte v true at b rest (no_end true b rest (other_byte b carriage_return e refl)) (other_byte b comma e refl)
    ∙ rw (other_byte b quote e refl)

plain-read : (at : ℕ) (bytes : List ℕ) → read_from in_text true at bytes ≡ plain_read at bytes
unfolding plain_read
plain-read at [] = ends_with_file in_text Part (unfold all_text in refl) at
plain-read at (b ∷ rest) =
    byte_ends in_text Part (unfold all_text in refl) at b rest (plain_read (at + 1) rest)
    (λ e. text_on in_text at b rest e ∙ alike_read _ in_text (text_alike b e) (at + 1) _ _ ∙ plain-read (at + 1) rest)
    (text_never b)

-- a raw field that does not begin with a quote
unquoted_alike : (b : ℕ) (raw : List ℕ) → eqb b quote ≡ false → form_in (b ∷ raw) ≡ in_text (b ∷ raw)
unfolding form_in field_value form_by
unquoted_alike b raw other =
    ap (λ (t : Bool). map value_form (cond t (escaped_value raw) (cond (all_text (b ∷ raw)) (some (b ∷ raw)) none))) other
    ∙ go (all_text (b ∷ raw)) refl
  where
    go : (t : Bool) → all_text (b ∷ raw) ≡ t → map value_form (cond t (some (b ∷ raw)) none) ≡ cond t (some Part) none
    go true e = rw (text_no_quotes (text-only (b ∷ raw) e))
    go false e = refl

unquoted_read : (at : ℕ) (bytes : List ℕ) → begins_with quote bytes ≡ false → read_from form_in true at bytes ≡ plain_read at bytes
unfolding plain_read begins_with
unquoted_read at [] other = ends_with_file form_in Part (unfold form_in field_value holds_quote form_by in refl) at
unquoted_read at (b ∷ rest) other =
    byte_ends form_in Part (unfold form_in field_value holds_quote form_by in refl) at b rest (plain_read (at + 1) rest)
    (λ e.
    text_on form_in at b rest e
    ∙ alike_read _ in_text (λ raw. unquoted_alike b raw other ∙ text_alike b e raw) (at + 1) _ _
    ∙ plain-read (at + 1) rest)
    (λ e raw. unquoted_alike b raw other ∙ text_never b e raw)

-- ---- a quoted field

-- the form of a field, by whether what is left of it holds a doubled quote, and by what has been met before
unfoldable either_form : (has_quote : Bool) → (form : FieldForm) → FieldForm
either_form true form = Doubled
either_form false form = form

first_form : (has_quote : Bool) → form_by has_quote ≡ either_form has_quote Part
unfolding form_by either_form
first_form true = refl
first_form false = refl

-- the form of a quoted field, by what stands behind its opening quote, where a doubled quote has been met before or not
abbrev in_quotes : (form : FieldForm) → List ℕ → Option FieldForm
in_quotes form raw = map (λ (value : List ℕ). either_form (holds_quote value) form) (escaped_value raw)

-- a byte that stands for itself inside quotes
itself_alike : (form : FieldForm) (b : ℕ) → eqb b quote ≡ false → ((t : Bool) (x y : Option (List ℕ)) → escaped_byte (class_of b) t x y ≡ x)
    → (raw : List ℕ) → in_quotes form (b ∷ raw) ≡ in_quotes form raw
unfolding escaped_value holds_quote either_form
itself_alike form b other itself [] = rw other
itself_alike form b other itself (c ∷ raw) =
    let one = map (λ (value : List ℕ). b ∷ value) (escaped_value (c ∷ raw)) in
    let pair = map (λ (value : List ℕ). quote ∷ value) (escaped_value raw) in
    rw (itself (eqb c quote) one pair)
    (go (escaped_value (c ∷ raw)))
  where
    go : (o : Option (List ℕ)) → map (λ (value : List ℕ). either_form (holds_quote value) form) (map (λ (value : List ℕ). b ∷ value) o)
        ≡ map (λ (value : List ℕ). either_form (holds_quote value) form) o
    go none = refl
    go (some value) = rw other

itself_on : (form : FieldForm) (at b : ℕ) (rest : List ℕ) → eqb b quote ≡ false
    → ((t : Bool) (x y : Option (List ℕ)) → escaped_byte (class_of b) t x y ≡ x)
    → read_from (in_quotes form) false at (b ∷ rest) ≡ read_from (in_quotes form) false (at + 1) rest
unfolding outside_after
itself_on form at b rest other itself =
    inside_byte (in_quotes form) at b rest ∙ rw other (alike_read _ (in_quotes form) (itself_alike form b other itself) (at + 1) _ _)

refused_never : (form : FieldForm) (b : ℕ) → class_of b ≡ Refused → (raw : List ℕ) → in_quotes form (b ∷ raw) ≡ none
unfolding escaped_value escaped_byte class_of
refused_never form b e [] = rw (other_byte b quote e refl)
refused_never form b e (c ∷ raw) = rw e

pair_alike : (form : FieldForm) (raw : List ℕ) → in_quotes form (quote ∷ quote ∷ raw) ≡ in_quotes Doubled raw
unfolding escaped_value holds_quote either_form
pair_alike form raw = go (escaped_value raw)
  where
    either : (t : Bool) → Doubled ≡ either_form t Doubled
    either true = refl
    either false = refl

    go : (o : Option (List ℕ)) → map (λ (value : List ℕ). either_form (holds_quote value) form) (map (λ (value : List ℕ). quote ∷ value) o)
        ≡ map (λ (value : List ℕ). either_form (holds_quote value) Doubled) o
    go none = refl
    go (some value) = ap some (either (holds_quote value))

pair_on : (form : FieldForm) (at : ℕ) (rest : List ℕ)
    → read_from (in_quotes form) false at (quote ∷ quote ∷ rest) ≡ read_from (in_quotes Doubled) false (at + 2) rest
unfolding outside_after
pair_on form at rest =
    let e : at + 1 + 1 ≡ at + 2 = omega arith in
    inside_byte (in_quotes form) at quote (quote ∷ rest)
    ∙ kept_byte (λ raw. in_quotes form (quote ∷ raw)) true (at + 1) quote rest (no_end true quote rest refl) refl
    ∙ rw e (alike_read _ (in_quotes Doubled) (pair_alike form) (at + 2) _ _)

-- behind a closing quote the field ends
closed-ends : (form : FieldForm) (at : ℕ) (rest : List ℕ) → begins_with quote rest ≡ false
    → read_from (in_quotes form) false at (quote ∷ rest) ≡ end_read (at + 1) form rest
unfolding outside_after end_read begins_with
closed-ends form at [] other =
    inside_byte (in_quotes form) at quote []
    ∙ ends_with_file (λ raw. in_quotes form (quote ∷ raw)) form (unfold escaped_value holds_quote either_form in refl) (at + 1)
closed-ends form at (c ∷ rest) other =
    let never : (raw : List ℕ) → in_quotes form (quote ∷ c ∷ raw) ≡ none = λ raw. unfold escaped_value escaped_byte in rw other in
    inside_byte (in_quotes form) at quote (c ∷ rest)
    ∙ byte_ends (λ raw. in_quotes form (quote ∷ raw)) form (unfold escaped_value holds_quote either_form in refl) (at + 1) c rest broken_field
    (λ e. unfold class_of in breaks _ (at + 1) c rest never (no_end true c rest (other_byte c carriage_return e refl)) (other_byte c comma e refl))
    (λ e. never)

quoted-read : (form : FieldForm) (at : ℕ) (bytes : List ℕ) → read_from (in_quotes form) false at bytes ≡ quoted_read form at bytes
unfolding quoted_read inside_read escaped_byte class_of
quoted-read form at [] = unfold first_from raw_fields_from first_read read_by escaped_value in refl
quoted-read form at (b ∷ []) = go (class_of b) refl
  where
    nothing : read_from (in_quotes form) false (at + 1) [] ≡ broken_field
    nothing = unfold first_from raw_fields_from first_read read_by escaped_value in refl

    go : (k : ByteClass) → class_of b ≡ k
        → read_from (in_quotes form) false at (b ∷ []) ≡ inside_read k false broken_field broken_field (end_read (at + 1) form [])
    go Text e = itself_on form at b [] (other_byte b quote e refl) (λ t x y. rw e) ∙ nothing
    go Comma e = itself_on form at b [] (other_byte b quote e refl) (λ t x y. rw e) ∙ nothing
    go CarriageReturn e = itself_on form at b [] (other_byte b quote e refl) (λ t x y. rw e) ∙ nothing
    go LineFeed e = itself_on form at b [] (other_byte b quote e refl) (λ t x y. rw e) ∙ nothing
    go Refused e = inside_byte (in_quotes form) at b [] ∙ never_read _ (refused_never form b e) (at + 1) _ _
    go Quote e = rw (class_means b e) (closed-ends form at [] (unfold begins_with in refl))
quoted-read form at (b ∷ c ∷ rest) = go (class_of b) refl (quoted-read form (at + 1) (c ∷ rest)) (quoted-read Doubled (at + 2) rest)
  where
    go : (k : ByteClass) → class_of b ≡ k → read_from (in_quotes form) false (at + 1) (c ∷ rest) ≡ quoted_read form (at + 1) (c ∷ rest)
        → read_from (in_quotes Doubled) false (at + 2) rest ≡ quoted_read Doubled (at + 2) rest
        → read_from (in_quotes form) false at (b ∷ c ∷ rest)
        ≡ inside_read k (eqb c quote) (quoted_read form (at + 1) (c ∷ rest)) (quoted_read Doubled (at + 2) rest) (end_read (at + 1) form (c ∷ rest))
    go Text e one two = itself_on form at b (c ∷ rest) (other_byte b quote e refl) (λ t x y. rw e) ∙ one
    go Comma e one two = itself_on form at b (c ∷ rest) (other_byte b quote e refl) (λ t x y. rw e) ∙ one
    go CarriageReturn e one two = itself_on form at b (c ∷ rest) (other_byte b quote e refl) (λ t x y. rw e) ∙ one
    go LineFeed e one two = itself_on form at b (c ∷ rest) (other_byte b quote e refl) (λ t x y. rw e) ∙ one
    go Refused e one two = inside_byte (in_quotes form) at b (c ∷ rest) ∙ never_read _ (refused_never form b e) (at + 1) _ _
    go Quote e one two = rw (class_means b e) (by_next (eqb c quote) refl)
      where
        by_next : (t : Bool) → eqb c quote ≡ t
            → read_from (in_quotes form) false at (quote ∷ c ∷ rest)
            ≡ inside_read Quote t (quoted_read form (at + 1) (c ∷ rest)) (quoted_read Doubled (at + 2) rest) (end_read (at + 1) form (c ∷ rest))
        by_next true p = rw (eqb-true c quote p) (pair_on form at rest) ∙ two
        by_next false p = closed-ends form at (c ∷ rest) (unfold begins_with in p)

-- ---- any field

quoted_alike : (raw : List ℕ) → form_in (quote ∷ raw) ≡ in_quotes Part raw
unfolding form_in field_value
quoted_alike raw = go (escaped_value raw)
  where
    go : (o : Option (List ℕ)) → map value_form o ≡ map (λ (value : List ℕ). either_form (holds_quote value) Part) o
    go none = refl
    go (some value) = ap some (first_form (holds_quote value))

-- behind an opening quote
quote-read : (at : ℕ) (rest : List ℕ) → read_from form_in true at (quote ∷ rest) ≡ quoted_read Part (at + 1) rest
unfolding outside_after
quote-read at rest =
    kept_byte form_in true at quote rest (no_end true quote rest refl) refl
    ∙ alike_read _ (in_quotes Part) quoted_alike (at + 1) _ _
    ∙ quoted-read Part (at + 1) rest

first-quote : (at b : ℕ) (rest : List ℕ) → eqb b quote ≡ true → read_from form_in true at (b ∷ rest) ≡ quoted_read Part (at + 1) rest
first-quote at b rest e = rw (eqb-true b quote e) (quote-read at rest)

module _ (file : List ℕ) (from : ℕ) where
  pub field-quoted : begins_with quote (drop from file) ≡ true → field_read file from ≡ quoted_read Part (from + 1) (drop (from + 1) file)
  unfolding field_read raw_fields first_record begins_with
  field-quoted e = go (drop from file) refl e
    where
      go : (bytes : List ℕ) → drop from file ≡ bytes → begins_with quote bytes ≡ true
          → read_from form_in true from (drop from file) ≡ quoted_read Part (from + 1) (drop (from + 1) file)
      go [] p e = absurd (false≢true e)
      go (b ∷ rest) p e =
          let behind : drop (from + 1) file ≡ rest = sym (drop-drop 1 from file) ∙ ap (drop 1) p in
          rw (p, behind) (first-quote from b rest e)

  pub field_unquoted : begins_with quote (drop from file) ≡ false → field_read file from ≡ plain_read from (drop from file)
  unfolding field_read raw_fields first_record
  field_unquoted e = unquoted_read from (drop from file) e
