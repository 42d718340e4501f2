-- What a raw field is, by its reading as a file of its own: a field is read to the end. Assumes nothing.
use Rattle.std.specs.Prelude.{◌≡◌, Bool, List, [], ◌∷◌, ◌++◌, ℕ, ◌+◌, ◌≤◌, ltb, Some, None}
use Rattle.std.proofs.Math.Path.{refl, sym}
use Rattle.std.proofs.Common.{ap, ◌∙◌, append-nil, arith, length-append}
use Rattle.std.proofs.Math.Bool.{true, false, cond}
use Rattle.std.proofs.Math.Option.{Option, none, some, none-ne-some}
use Rattle.std.proofs.Math.ListN.{length}
use borrow.Author.Tests.{le-ltb, ltb-false}
use Rattle.csv_fields.specs.declared.FieldEnd.TheVariants.{FileEnd}
use Rattle.csv_fields.specs.declared.FieldRead.{FieldRead}
use Rattle.rfc4180.specs.Fields.{field_value}
use Rattle.rfc4180.proofs.Laws.Fields.{field_complete, field-sound}
use Rattle.csv_fields.specs.Results.{Reading, Form}
use Rattle.csv_fields.specs.Promises.{file-ends, FieldAt}
use Rattle.csv_fields.specs.Spans.{field_read, form_in, form_told, form_of}
use Rattle.csv_fields.specs.Laws.FieldReads.{sound-stands, stands_read}
use Rattle.csv_fields.specs.Laws.Parts.{form-told}

-- a sound field to the end of n bytes
abbrev pub form_read : Reading → (n : ℕ) → Form
form_read None n = None
form_read (Some read) n = cond (ltb read.end n) None (Some read.form)

module _ (raw : List ℕ) where
  -- a field of the grammar is read to its end
  whole_form : {value : List ℕ} → field_value raw ≡ some value → form_of raw ≡ form_read (field_read raw 0) (length raw)
  unfolding form_of form_told
  whole_form {value} e =
      let r = field-sound raw value e in
      let whole : FieldAt raw 0 =
      record {
        raw = raw;
        value = value;
        behind = [];
        size = 0;
        ended_by = FileEnd;
        bytes = sym (append-nil raw);
        field = r;
        follows = file-ends;
      } in
      rw (form-told r, stands_read raw 0 whole, le-ltb (0 + length raw) (length raw) (omega arith))

  -- and what is read to its end is a field of the grammar
  broken_form : field_value raw ≡ none → None ≡ form_read (field_read raw 0) (length raw)
  broken_form e = go (field_read raw 0) refl
    where
      shorter : (rest front : List ℕ) → raw ≡ front ++ rest → length raw ≤ length front → raw ≡ front
      shorter [] front p h = p ∙ append-nil front
      shorter (b ∷ rest) front p h = absurd (omega (arith, ap length p, length-append front (b ∷ rest)))

      by : (read : FieldRead) → field_read raw 0 ≡ Some read → (t : Bool) → ltb read.end (length raw) ≡ t
          → None ≡ cond t None (Some read.form)
      by read p true q = refl
      by read p false q =
          let f = sound-stands raw 0 p in
          let told = sym (stands_read raw 0 f) ∙ p in
          let end : 0 + length f.raw ≡ read.end = cc in
          let same = shorter f.behind f.raw f.bytes (omega (arith, ltb-false read.end (length raw) q)) in
          absurd (none-ne-some f.value (sym e ∙ ap field_value same ∙ field_complete f.field))

      go : (r : Reading) → field_read raw 0 ≡ r → None ≡ form_read r (length raw)
      go None p = refl
      go (Some read) p = by read p (ltb read.end (length raw)) refl

  no_value-broken : field_value raw ≡ none → form_of raw ≡ None
  unfolding form_of form_told form_in
  no_value-broken e = rw e

  pub form-read : form_of raw ≡ form_read (field_read raw 0) (length raw)
  form-read = go (field_value raw) refl
    where
      go : (o : Option (List ℕ)) → field_value raw ≡ o → form_of raw ≡ form_read (field_read raw 0) (length raw)
      go none e = no_value-broken e ∙ broken_form e
      go (some value) e = whole_form e
