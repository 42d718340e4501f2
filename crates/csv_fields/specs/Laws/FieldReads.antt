-- What a field that was read where it begins in a file says of the bytes and of the record from there on. Assumes nothing.
use Rattle.std.specs.Prelude.{◌≡◌, ◌⊎◌, ℕ, suc, ◌+◌, ◌≤◌, Some, None}
use Rattle.std.proofs.Math.Path.{refl, ap}
use Rattle.std.proofs.Common.{sym, ◌∙◌, inl, inr, subst}
use Rattle.std.proofs.Math.Bool.{true}
use Rattle.std.proofs.lemmas.Option.{none-some}
use Rattle.std.proofs.Math.Option.{Option, none, some, map}
use mathlib.Core.List.{List, [], ◌∷◌, ◌++◌, append_assoc, append-nil}
use native.Mathlib.Omega.{arith}
use Rattle.std.proofs.Math.ListN.{length, drop, length-append, length-drop}
use Rattle.std.proofs.Math.Seq.{drop-drop, drop-append-add}
use Rattle.csv_fields.specs.declared.FieldEnd.{FieldEnd}
use Rattle.csv_fields.specs.declared.FieldEnd.TheVariants.{Comma, RecordEnd, FileEnd}
use Rattle.csv_fields.specs.declared.FieldForm.{FieldForm}
use Rattle.csv_fields.specs.declared.FieldRead.{FieldRead}
use Rattle.rfc4180.specs.Bytes.{comma, carriage_return, line_feed}
use Rattle.rfc4180.specs.Grammar.{Field, record_last}
use Rattle.rfc4180.specs.Records.{outside_after, first_record}
use Rattle.rfc4180.specs.Fields.{raw_fields, field_value, and_then, read_all, field_values}
use Rattle.rfc4180.specs.Writer.{joined}
use Rattle.rfc4180.proofs.Laws.Fields.{field_complete, field-sound}
use Rattle.rfc4180.proofs.Laws.Quotes.{prefixed, byte_passed, unbroken_passed, field_unbroken, NonEmpty, raw_non_empty}
use Rattle.rfc4180.proofs.Laws.Records.{first_record_ended, first_record_last, joined-raw, raw-last, raw-more}
use Rattle.rfc4180.proofs.Laws.Files.{ending, first_record_bytes}
use Rattle.csv_fields.specs.Promises.{Separator, file-ends, comma-follows, record_ends, FieldAt}
use Rattle.csv_fields.specs.Spans.{told_field, sound_field, value_form, form_in, span_from, record_span, read_by, first_read, field_read}
use Rattle.csv_fields.specs.Laws.Parts.{form-told}

-- ---- what ends a field

-- a field that ends its record, or with its file, ends before no comma
pub is_over : {e : FieldEnd} → (e ≡ RecordEnd) ⊎ (e ≡ FileEnd) → e ≡ Comma → ⊥
is_over (inl p) q = let z : ◌≡◌ {A = ℕ} 0 1 = cc in absurd (omega arith)
is_over (inr p) q = let z : ◌≡◌ {A = ℕ} 0 1 = cc in absurd (omega arith)

-- ---- no field of the grammar

broken-by : (at : ℕ) (raws : List (List ℕ)) (behind : Option (List ℕ)) → NonEmpty raws → first_read form_in at raws behind ≡ None
    → read_all field_value raws ≡ none
unfolding first_read read_all read_by and_then form_in
broken-by at [] behind n e = absurd n
broken-by at (raw ∷ others) behind n e = go (field_value raw) others behind (read_all field_value others) e
  where
    go : (o : Option (List ℕ)) (others : List (List ℕ)) (behind : Option (List ℕ)) (values : Option (List (List ℕ)))
        → read_by (map value_form o) (at + length raw) others behind ≡ None → and_then o values ≡ none
    go none others behind values e = refl
    go (some value) [] none values e = absurd (none-some _ (sym e))
    go (some value) [] (some rest) values e = absurd (none-some _ (sym e))
    go (some value) (next ∷ others) behind values e = absurd (none-some _ (sym e))

module _ (file : List ℕ) (at : ℕ) where
  -- the record from there on breaks the grammar
  pub broken_record : field_read file at ≡ None → field_values (first_record (drop at file)).text ≡ none
  unfolding field_read field_values raw_fields
  broken_record e =
      broken-by at (raw_fields (first_record (drop at file)).text) (first_record (drop at file)).behind
      (raw_non_empty true (first_record (drop at file)).text) e

-- ---- a field of the grammar that was read stands there

module _ (file : List ℕ) (at : ℕ) where
  abbrev text-there : List ℕ
  text-there = (first_record (drop at file)).text

  abbrev behind-there : Option (List ℕ)
  behind-there = (first_record (drop at file)).behind

  -- a comma follows it
  more-stands : (raw value next : List ℕ) (others : List (List ℕ)) → raw_fields text-there ≡ raw ∷ next ∷ others → field_value raw ≡ some value
      → FieldAt file at
  unfolding raw_fields joined
  more-stands raw value next others e v =
      let whole : raw ++ comma ∷ joined (next ∷ others) ≡ text-there = rw e at (joined-raw true text-there) in
      record {
        raw = raw;
        value = value;
        behind = comma ∷ (joined (next ∷ others) ++ ending behind-there);
        size = 1;
        ended_by = Comma;
        bytes = first_record_bytes (drop at file)
            ∙ ap (λ (text : List ℕ). text ++ ending behind-there) (sym whole)
            ∙ append_assoc raw (comma ∷ joined (next ∷ others)) (ending behind-there);
        field = field-sound raw value v;
        follows = comma-follows;
      }

  -- it is the last of its record
  last-stands : (raw value : List ℕ) → raw_fields text-there ≡ raw ∷ [] → field_value raw ≡ some value → FieldAt file at
  unfolding raw_fields joined
  last-stands raw value e v = go behind-there refl
    where
      whole : raw ≡ text-there
      whole = rw e at (joined-raw true text-there)

      bytes : (behind : Option (List ℕ)) → behind-there ≡ behind → drop at file ≡ raw ++ ending behind
      bytes behind f = first_record_bytes (drop at file) ∙ rw (← whole, f)

      go : (behind : Option (List ℕ)) → behind-there ≡ behind → FieldAt file at
      go none f =
          record {
            raw = raw;
            value = value;
            behind = [];
            size = 0;
            ended_by = FileEnd;
            bytes = bytes none f;
            field = field-sound raw value v;
            follows = file-ends;
          }
      go (some rest) f =
          record {
            raw = raw;
            value = value;
            behind = carriage_return ∷ line_feed ∷ rest;
            size = 2;
            ended_by = RecordEnd;
            bytes = bytes (some rest) f;
            field = field-sound raw value v;
            follows = record_ends;
          }

  stands_by : {read : FieldRead} (raws : List (List ℕ)) → raw_fields text-there ≡ raws → first_read form_in at raws behind-there ≡ Some read
      → FieldAt file at
  unfolding first_read read_by form_in
  stands_by [] e sound = absurd (none-some _ sound)
  stands_by {read} (raw ∷ others) e sound = go (field_value raw) refl others e sound
    where
      go : (o : Option (List ℕ)) → field_value raw ≡ o → (others : List (List ℕ)) → raw_fields text-there ≡ raw ∷ others
          → read_by (map value_form o) (at + length raw) others behind-there ≡ Some read → FieldAt file at
      go none v others e sound = absurd (none-some _ sound)
      go (some value) v (next ∷ others) e sound = more-stands raw value next others e v
      go (some value) v [] e sound = last-stands raw value e v

  pub sound-stands : {read : FieldRead} → field_read file at ≡ Some read → FieldAt file at
  unfolding field_read
  sound-stands sound = stands_by _ refl sound

-- ---- a field of the grammar that stands there is read

-- bytes that begin with a field and a comma
module _ {raw value : List ℕ} (r : Field raw value) (rest : List ℕ) where
  comma-passed : first_record (raw ++ comma ∷ rest) ≡ prefixed raw (prefixed (comma ∷ []) (first_record rest))
  unfolding first_record outside_after
  comma-passed = unbroken_passed (field_unbroken r) (comma ∷ rest) ∙ ap (prefixed raw) (byte_passed true comma rest refl)

  comma-fields : raw_fields (first_record (raw ++ comma ∷ rest)).text ≡ raw ∷ raw_fields (first_record rest).text
  comma-fields = rw comma-passed (raw-more r (first_record rest).text)

before-others : (raw : List ℕ) (form : FieldForm) (at : ℕ) (others : List (List ℕ)) (behind : Option (List ℕ)) → NonEmpty others
    → form_in raw ≡ some form → first_read form_in at (raw ∷ others) behind ≡ sound_field (at + length raw) (at + length raw + 1) Comma form
unfolding first_read read_by
before-others raw form at [] behind n e = absurd n
before-others raw form at (next ∷ others) behind n e = rw e

-- what is told of it
abbrev told_of : (at : ℕ) → (raw value : List ℕ) → (size : ℕ) → (ended_by : FieldEnd) → FieldRead
told_of at raw value size ended_by = told_field (at + length raw) (at + length raw + size) ended_by (value_form value)

module _ (file : List ℕ) (at : ℕ) where
  read-by : {raw value rest : List ℕ} {size : ℕ} {ended_by : FieldEnd} → Field raw value → Separator rest size ended_by → drop at file ≡ raw ++ rest
      → field_read file at ≡ Some (told_of at raw value size ended_by)
  unfolding field_read first_read read_by
  read-by {raw} r file-ends e =
      let z : at + length raw + 0 ≡ at + length raw = omega arith in
      rw (e, append-nil raw, first_record_last (record_last r), raw-last r, form-told r, z)
  read-by {raw} r (comma-follows {rest = rest}) e =
      rw (e, comma-fields r rest)
      (before-others raw _ at (raw_fields (first_record rest).text) _ (unfold raw_fields in raw_non_empty true (first_record rest).text) (form-told r))
  read-by {raw} r (record_ends {rest = rest}) e = rw (e, first_record_ended (record_last r) rest, raw-last r, form-told r)

  pub stands_read : (f : FieldAt file at) → field_read file at ≡ Some (told_of at f.raw f.value f.size f.ended_by)
  stands_read f = read-by f.field f.follows f.bytes

-- ---- the record from there on

-- the record from the place of a field on: this field, and behind a comma the others
pub record ReadAt (file : List ℕ) (at : ℕ) (read : FieldRead) : Type 0 where
  pub raw : List ℕ
  pub value : List ℕ
  pub valued : field_value raw ≡ some value
  pub form : read.form ≡ value_form value
  pub ends : read.end ≡ at + length raw
  pub tail : List ℕ
  pub text : (first_record (drop at file)).text ≡ raw ++ tail
  -- where the record goes on
  pub others : read.ended_by ≡ Comma → raw_fields (first_record (drop at file)).text ≡ raw ∷ raw_fields (first_record (drop read.next file)).text
  pub onward : read.ended_by ≡ Comma → tail ≡ comma ∷ (first_record (drop read.next file)).text
  pub behind : read.ended_by ≡ Comma → read.next ≡ read.end + 1
  pub inside : read.ended_by ≡ Comma → read.next ≤ length file
  pub span : read.ended_by ≡ Comma → record_span file at ≡ record_span file read.next
  -- and where it ends
  pub last : (read.ended_by ≡ Comma → ⊥) → raw_fields (first_record (drop at file)).text ≡ raw ∷ []
  pub stops : (read.ended_by ≡ Comma → ⊥) → (record_span file at).end ≡ read.end
  pub next : (read.ended_by ≡ Comma → ⊥) → (record_span file at).next ≡ read.next

span-moved : (at n m : ℕ) (behind : Option (List ℕ)) → span_from at (n + suc m) behind ≡ span_from (at + n + 1) m behind
unfolding span_from
span-moved at n m none = let e : at + (n + suc m) ≡ at + n + 1 + m = omega arith in rw e
span-moved at n m (some rest) = let e : at + (n + suc m) ≡ at + n + 1 + m = omega arith in rw e

module _ (file : List ℕ) (at : ℕ) {raw value : List ℕ} (r : Field raw value) where
  at-comma : (rest : List ℕ) → drop at file ≡ raw ++ comma ∷ rest → ReadAt file at (told_of at raw value 1 Comma)
  unfolding record_span
  at-comma rest cut =
      let m : at + length raw + 1 ≡ at + (length raw + 1) = omega arith in
      let behind : drop (at + length raw + 1) file ≡ rest = rw (m, ← drop-drop (length raw + 1) at file, cut) (drop-append-add raw (comma ∷ rest) 1) in
      let passed : first_record (drop at file) ≡ prefixed raw (prefixed (comma ∷ []) (first_record rest)) = rw cut (comma-passed r rest) in
      let n = ap length cut in
      record {
        raw = raw;
        value = value;
        valued = field_complete r;
        form = refl;
        ends = refl;
        tail = comma ∷ (first_record rest).text;
        text = rw passed;
        others = λ goes. rw (behind, passed) (raw-more r (first_record rest).text);
        onward = λ goes. rw behind;
        behind = λ goes. refl;
        inside = λ goes. omega (arith, n, length-append raw (comma ∷ rest), length-drop at file);
        span = λ goes.
            rw (behind, passed, length-append raw (comma ∷ (first_record rest).text))
            (span-moved at (length raw) (length (first_record rest).text) (first_record rest).behind);
        last = λ over. absurd (over refl);
        stops = λ over. absurd (over refl);
        next = λ over. absurd (over refl);
      }

  at-end : (size : ℕ) (ended_by : FieldEnd) → (ended_by ≡ Comma → ⊥) → (first_record (drop at file)).text ≡ raw
      → ((record_span file at).end ≡ at + length raw) × ((record_span file at).next ≡ at + length raw + size)
      → ReadAt file at (told_of at raw value size ended_by)
  at-end size ended_by over whole spans =
      record {
        raw = raw;
        value = value;
        valued = field_complete r;
        form = refl;
        ends = refl;
        tail = [];
        text = whole ∙ sym (append-nil raw);
        others = λ goes. absurd (over goes);
        onward = λ goes. absurd (over goes);
        behind = λ goes. absurd (over goes);
        inside = λ goes. absurd (over goes);
        span = λ goes. absurd (over goes);
        last = λ over. rw whole (raw-last r);
        stops = λ over. spans.0;
        next = λ over. spans.1;
      }

  told-by : {rest : List ℕ} {size : ℕ} {ended_by : FieldEnd} → Separator rest size ended_by → drop at file ≡ raw ++ rest
      → ReadAt file at (told_of at raw value size ended_by)
  unfolding record_span span_from
  told-by file-ends e =
      let z : at + length raw ≡ at + length raw + 0 = omega arith in
      let first = ap first_record (e ∙ append-nil raw) ∙ first_record_last (record_last r) in
      at-end 0 FileEnd (is_over (inr refl)) (rw first) (rw first, rw first z)
  told-by (comma-follows {rest = rest}) e = at-comma rest e
  told-by (record_ends {rest = rest}) e =
      let first = ap first_record e ∙ first_record_ended (record_last r) rest in
      at-end 2 RecordEnd (is_over (inl refl)) (rw first) (rw first, rw first)

-- what a field that was read says of the record from there on
pub field_told : (file : List ℕ) (at : ℕ) {read : FieldRead} → field_read file at ≡ Some read → ReadAt file at read
field_told file at {read} sound =
    let f = sound-stands file at sound in
    let told : Some (told_of at f.raw f.value f.size f.ended_by) ≡ Some read = sym (stands_read file at f) ∙ sound in
    let same : told_of at f.raw f.value f.size f.ended_by ≡ read = cc in
    subst (ReadAt file at) same (told-by file at f.field f.follows f.bytes)
