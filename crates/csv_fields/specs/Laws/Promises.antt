-- The clauses of the promises follow from the definitions that the results equal. Assumes nothing.
use Rattle.std.proofs.Math.Path.{◌≡◌, refl}
use Rattle.std.proofs.Common.{inl, inr, sym, ap, ◌∙◌, subst, true≢false, arith, length-append, length-drop}
use Rattle.std.specs.Prelude.{◌↔◌, Bool, List, [], ◌∷◌, ◌++◌, ℕ, ◌+◌, ◌≤◌, ◌<◌, drop, Some, None, Ok, Err}
use Rattle.std.proofs.Math.Bool.{true, false, cond}
use Rattle.std.proofs.lemmas.Bool.{false≢true}
use Rattle.std.proofs.lemmas.Option.{none-some}
use Rattle.std.proofs.Math.Option.{Option, none, some, none-ne-some}
use Rattle.std.proofs.Math.Dec.{leb}
use Rattle.std.proofs.Math.ListN.{length}
use borrow.Author.Tests.{le-leb, lt-leb, leb-true, le-ltb, lt-ltb}
use Rattle.csv_fields.specs.declared.FieldEnd.{FieldEnd}
use Rattle.csv_fields.specs.declared.FieldEnd.TheVariants.{Comma}
use Rattle.csv_fields.specs.declared.FieldForm.TheVariants.{Part, Doubled}
use Rattle.csv_fields.specs.declared.FieldRead.{FieldRead}
use Rattle.csv_fields.specs.declared.FieldSpan.{FieldSpan}
use Rattle.csv_fields.specs.declared.RecordSpan.{RecordSpan}
use Rattle.csv_fields.specs.declared.UndoError.TheVariants.{TooLong, Broken}
use Rattle.rfc4180.specs.Bytes.{comma, carriage_return, line_feed}
use Rattle.rfc4180.specs.Grammar.{Field}
use Rattle.rfc4180.specs.Fields.{raw_fields, field_value}
use Rattle.rfc4180.proofs.Laws.Fields.{field_complete, field-sound, field_unique}
use Rattle.rfc4180.proofs.Laws.Quotes.{NonEmpty, raw_non_empty}
use Rattle.rfc4180.proofs.Laws.Records.{first_record_ended, first_record_last, raw-last, raw-more}
use Rattle.csv_fields.specs.Results.{Reading, Form, Undone}
use Rattle.csv_fields.specs.Spans.{span_from, record_span, field_from, field_span, field_read, told_field, holds_quote, value_form, form_in}
use Rattle.csv_fields.specs.Spans.{inside_of, form_by, form_told, form_of, undone_by, undone, undone_on_exit_by, undone_on_exit}
use Rattle.csv_fields.specs.Promises.{Separator, file-ends, comma-follows, record_ends, FieldAt, DoubledQuote}
use Rattle.csv_fields.specs.Promises.{ReadsField, EndsRecord, EndsField, HasForm, HandsPart, Undoes}
use Rattle.csv_fields.specs.Laws.FieldReads.{is_over, sound-stands, stands_read}
use Rattle.csv_fields.specs.Laws.Forms.{form-read}
use Rattle.csv_fields.specs.Laws.Parts.{field-part, form-told, doubled-quote}
use Rattle.csv_fields.specs.Laws.RecordSpans.{record_stands}
use Rattle.csv_fields.specs.Laws.Spans.{field-within}

-- ---- reading a field

-- of a field that stands there all is told that is read
told_is : (file : List ℕ) (from : ℕ) (f : FieldAt file from) {read : FieldRead} → field_read file from ≡ Some read
    → told_field (from + length f.raw) (from + length f.raw + f.size) f.ended_by (value_form f.value) ≡ read
told_is file from f {read} e =
    let told = sym (stands_read file from f) ∙ e in
    cc

module _ (file : List ℕ) (from : ℕ) (inside : from ≤ length file) where
  within_by : {rest : List ℕ} {size : ℕ} {ended_by : FieldEnd} (raw : List ℕ) → Separator rest size ended_by → drop from file ≡ raw ++ rest
      → let end = from + length raw in
      (from ≤ end) × (end ≤ end + size) × (end + size ≤ length file)
      × (ended_by ≡ Comma → end < end + size)
      × (from < length file → from < end + size)
  within_by raw file-ends e =
      let total = ap length e ∙ length-append raw [] in
      let left = length-drop from file in
      (omega arith, omega arith, omega arith, λ goes. absurd (is_over (inr refl) goes), λ h. omega arith)
  within_by raw (comma-follows {rest = rest}) e =
      let total = ap length e ∙ length-append raw (comma ∷ rest) in
      let left = length-drop from file in
      (omega arith, omega arith, omega arith, λ m. omega arith, λ h. omega arith)
  within_by raw (record_ends {rest = rest}) e =
      let total = ap length e ∙ length-append raw (carriage_return ∷ line_feed ∷ rest) in
      let left = length-drop from file in
      (omega arith, omega arith, omega arith, λ goes. absurd (is_over (inl refl) goes), λ h. omega arith)

  read-within : (read : FieldRead) → field_read file from ≡ Some read
      → (from ≤ read.end) × (read.end ≤ read.next) × (read.next ≤ length file)
      × (read.ended_by ≡ Comma → read.end < read.next)
      × (from < length file → from < read.next)
  read-within read sound =
      let f = sound-stands file from sound in
      rw (← told_is file from f sound) (within_by f.raw f.follows f.bytes)

form_is-doubled : (has_quote : Bool) → (form_by has_quote ≡ Doubled) ↔ (has_quote ≡ true)
unfolding form_by
form_is-doubled true = (λ e. refl, λ e. refl)
form_is-doubled false = (λ e. let z : ◌≡◌ {A = ℕ} 0 1 = cc in absurd (omega arith), λ e. absurd (false≢true e))

form-doubled : {raw value : List ℕ} → Field raw value → (value_form value ≡ Doubled) ↔ DoubledQuote raw
form-doubled {value = value} r =
    let is = form_is-doubled (holds_quote value) in
    let quotes = doubled-quote r in
    (λ e. quotes.0 (is.0 e), λ d. is.1 (quotes.1 d))

reads_by : (file : List ℕ) (from : ℕ) (r : Reading) → field_read file from ≡ r → ReadsField file from r
reads_by file from None e =
    let never : FieldAt file from → ⊥ = λ f. none-some _ (sym e ∙ stands_read file from f) in
    record {
      equals = sym e;
      sound = (λ some. absurd (false≢true some), λ f. absurd (never f));
      told = λ f. absurd (never f);
      doubled = λ f. absurd (never f);
      broken = (λ none. never, λ none. refl);
      within = λ inside read some. absurd (none-some _ some);
    }
reads_by file from (Some read) e =
    let f = sound-stands file from e in
    record {
      equals = sym e;
      sound = (λ some. f, λ f. refl);
      told = λ f. sym e ∙ stands_read file from f;
      doubled = λ f other some. rw (← told_is file from f (e ∙ some)) (form-doubled f.field);
      broken = (λ none. absurd (none-some _ (sym none)), λ never. absurd (never f));
      within = λ inside other some. read-within file from inside other (e ∙ some);
    }

reads_defined : (file : List ℕ) (from : ℕ) → ReadsField file from (field_read file from)
reads_defined file from = reads_by file from (field_read file from) refl

pub reads-field : (file : List ℕ) (from : ℕ) {r : Reading} → r ≡ field_read file from → ReadsField file from r
reads-field file from e = subst (ReadsField file from) (sym e) (reads_defined file from)

-- ---- records and fields

ends_record_defined : (file : List ℕ) (from : ℕ) → EndsRecord file from (record_span file from)
unfolding record_span span_from
ends_record_defined file from =
    record {
      equals = refl;
      before-end = λ rest r e. rw (e, first_record_ended r rest);
      with-file = λ r e. rw (e, first_record_last r);
      within = λ h. let stands = record_stands file from h in (stands.starts, stands.follows, stands.inside, stands.onward);
    }

pub ends_record : (file : List ℕ) (from : ℕ) {r : RecordSpan} → r ≡ record_span file from → EndsRecord file from r
ends_record file from e = subst (EndsRecord file from) (sym e) (ends_record_defined file from)

before-others : (raw : List ℕ) (from : ℕ) (others : List (List ℕ)) → NonEmpty others
    → field_from from (raw ∷ others) ≡ record { end = from + length raw; more = true }
unfolding field_from
before-others raw from [] n = absurd n
before-others raw from (next ∷ others) n = refl

ends-field_defined : (text : List ℕ) (from : ℕ) → EndsField text from (field_span text from)
unfolding field_span field_from
ends-field_defined text from =
    let some-field : (rest : List ℕ) → NonEmpty (raw_fields rest) = λ rest. unfold raw_fields in raw_non_empty true rest in
    record {
      equals = refl;
      before-comma = λ {raw} rest r e. rw (e, raw-more r rest) (before-others raw from (raw_fields rest) (some-field rest));
      with_text = λ r e. rw (e, raw-last r);
      within = field-within text from;
    }

pub ends-field : (text : List ℕ) (from : ℕ) {r : FieldSpan} → r ≡ field_span text from → EndsField text from r
ends-field text from e = subst (EndsField text from) (sym e) (ends-field_defined text from)

-- ---- what a raw field is

module _ (raw : List ℕ) where
  no_field : field_value raw ≡ none → (value : List ℕ) → Field raw value → ⊥
  no_field e value r = none-ne-some value (sym e ∙ field_complete r)

  -- a field has one value, so it does not both hold a quote and not
  one_value : {v w : List ℕ} → Field raw v → Field raw w → holds_quote v ≡ true → holds_quote w ≡ false → ⊥
  one_value r s p q = true≢false (sym p ∙ ap holds_quote (field_unique r s) ∙ q)

  none_form : field_value raw ≡ none → HasForm raw None
  unfolding form_of form_told form_in
  none_form e =
      record {
        equals = rw e;
        broken = (λ p. no_field e, λ p. refl);
        part = (λ p. let z : ◌≡◌ {A = ℕ} 0 1 = cc in absurd (omega arith), λ (value, r, q). absurd (no_field e value r));
        doubled = (λ p. let z : ◌≡◌ {A = ℕ} 0 1 = cc in absurd (omega arith), λ (value, r, q). absurd (no_field e value r));
      }

  field_form : {value : List ℕ} (t : Bool) → holds_quote value ≡ t → Field raw value → HasForm raw (Some (form_by t))
  unfolding form_of form_told form_by
  field_form {value} true p r =
      record {
        equals = rw (form-told r, p);
        broken = (λ q. let z : ◌≡◌ {A = ℕ} 0 1 = cc in absurd (omega arith), λ never. absurd (never value r));
        part = (λ q. let z : ◌≡◌ {A = ℕ} 0 1 = cc in absurd (omega arith), λ (other, s, q). absurd (one_value r s p q));
        doubled = (λ q. (value, r, p), λ q. refl);
      }
  field_form {value} false p r =
      record {
        equals = rw (form-told r, p);
        broken = (λ q. let z : ◌≡◌ {A = ℕ} 0 1 = cc in absurd (omega arith), λ never. absurd (never value r));
        part = (λ q. (value, r, p), λ q. refl);
        doubled = (λ q. let z : ◌≡◌ {A = ℕ} 0 1 = cc in absurd (omega arith), λ (other, s, q). absurd (one_value s r q p));
      }

  has_form_by : (o : Option (List ℕ)) → field_value raw ≡ o → HasForm raw (form_of raw)
  has_form_by none e = let form = none_form e in subst (HasForm raw) form.equals form
  has_form_by (some value) e = let form = field_form (holds_quote value) refl (field-sound raw value e) in subst (HasForm raw) form.equals form

pub has_form : (raw : List ℕ) {r : Form} → r ≡ form_of raw → HasForm raw r
has_form raw e = subst (HasForm raw) (sym e) (has_form_by raw (field_value raw) refl)

-- what is read of it as a file of its own says which it is
module _ (raw : List ℕ) where
  pub none_read : ReadsField raw 0 None → HasForm raw None
  none_read reads = has_form raw (sym (form-read raw ∙ rw (← reads.equals)))

  module _ (read : FieldRead) (reads : ReadsField raw 0 (Some read)) where
    pub shorter_read : read.end < length raw → HasForm raw None
    shorter_read h = has_form raw (sym (form-read raw ∙ rw (← reads.equals, lt-ltb read.end (length raw) h)))

    pub whole_read : length raw ≤ read.end → HasForm raw (Some read.form)
    whole_read h = has_form raw (sym (form-read raw ∙ rw (← reads.equals, le-ltb read.end (length raw) h)))

-- a raw field that is not broken is a field of the grammar
pub formed : (raw : List ℕ) {r : Form} → HasForm raw r → (r ≡ None → ⊥) → (value : List ℕ) × Field raw value
formed raw {r} h other = go r refl
  where
    go : (k : Form) → r ≡ k → (value : List ℕ) × Field raw value
    go None e = absurd (other e)
    go (Some Part) e = let found = h.part.0 e in (found.0, found.1)
    go (Some Doubled) e = let found = h.doubled.0 e in (found.0, found.1)

-- ---- the values of fields

pub hands_part : (raw : List ℕ) {part : List ℕ} → part ≡ inside_of raw → HandsPart raw part
hands_part raw e = record { equals = e; value = λ r q. e ∙ field-part r q }

module _ (raw lent : List ℕ) where
  fits_by : (value : Option (List ℕ)) (n : ℕ) → undone_by value (length lent) ≡ Ok n → n ≤ length lent
  unfolding undone_by
  fits_by none n e = let z : ◌≡◌ {A = ℕ} 0 1 = cc in absurd (omega arith)
  fits_by (some value) n e = go (leb (length value) (length lent)) refl e
    where
      go : (t : Bool) → leb (length value) (length lent) ≡ t → cond t (Ok (length value)) (Err TooLong) ≡ Ok n → n ≤ length lent
      go true p e = let m : length value ≡ n = cc in omega (arith, leb-true (length value) (length lent) p)
      go false p e = let z : ◌≡◌ {A = ℕ} 0 1 = cc in absurd (omega arith)

  kept_by : (value : Option (List ℕ)) → field_value raw ≡ value → ((v : List ℕ) → Field raw v → ⊥)
      → (undone_by value (length lent) ≡ Err Broken) × (undone_on_exit_by value lent ≡ lent)
  unfolding undone_by undone_on_exit_by
  kept_by none e never = (refl, refl)
  kept_by (some value) e never = absurd (never value (field-sound raw value e))

  pub undoes_defined : Undoes raw lent (undone raw (length lent)) (undone_on_exit raw lent)
  unfolding undone undone_by undone_on_exit undone_on_exit_by
  undoes_defined =
      record {
        equals = refl;
        leaves = refl;
        fits = λ {value} r h. let fit = le-leb (length value) (length lent) h in (rw (field_complete r, fit), rw (field_complete r, fit));
        too_long = λ {value} r h. let long = lt-leb (length value) (length lent) h in (rw (field_complete r, long), rw (field_complete r, long));
        broken = kept_by (field_value raw) refl;
        within = fits_by (field_value raw);
      }

  pub undoes : {r : Undone} {left : List ℕ} → r ≡ undone raw (length lent) → left ≡ undone_on_exit raw lent → Undoes raw lent r left
  undoes {r} {left} p q = subst (λ (r : Undone). Undoes raw lent r left) (sym p) (subst (Undoes raw lent (undone raw (length lent))) (sym q) undoes_defined)
