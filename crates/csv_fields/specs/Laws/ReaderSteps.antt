-- The steps of the reader, at the places of a file: what it finds from a byte on is what it finds behind that byte, or ends there.
-- Assumes nothing.
use Rattle.std.specs.Prelude.{◌≡◌, refl, Bool, true, false, cond, List, [], ◌∷◌, ℕ, ◌+◌, ◌≤◌, ◌<◌, eqb, ltb, length, drop, get_or}
use Rattle.std.proofs.Common.{sym, ◌∙◌, arith, drop_of_length-le, drop-drop, eqb-true, ltb-true, ltb-false}
use Rattle.std.proofs.lemmas.Bool.{false≢true}
use Rattle.rfc4180.specs.declared.ByteClass.{ByteClass}
use Rattle.csv_fields.specs.declared.FieldForm.{FieldForm}
use Rattle.csv_fields.specs.declared.FieldForm.TheVariants.{Part, Doubled}
use Rattle.rfc4180.specs.declared.ByteClass.TheVariants.{Text, Quote, Comma, CarriageReturn, LineFeed, Refused}
use Rattle.rfc4180.specs.Bytes.{quote, line_feed, class_of}
use Rattle.csv_fields.specs.Results.{Reading}
use Rattle.csv_fields.specs.Reader.{begins_with, end_by, end_read, plain_read, inside_read, quoted_read}
use Rattle.csv_fields.specs.Scans.{is_plain, Found}
use Rattle.csv_fields.specs.Spans.{before_comma, before_record_end, broken_field, with_file}
use Rattle.rfc4180.proofs.Laws.Classes.{class_means}
use Rattle.rfc4180.proofs.Laws.Places.{bytes-from}
use Rattle.csv_fields.specs.Laws.Scans.{all-passed}

-- ---- what stands at a place

module _ (bytes : List ℕ) (at b : ℕ) where
  pub begins-here : at < length bytes → eqb (get_or bytes at 0) b ≡ begins_with b (drop at bytes)
  unfolding begins_with
  begins-here h = rw (bytes-from bytes at h)

  pub begins-not : length bytes ≤ at → false ≡ begins_with b (drop at bytes)
  unfolding begins_with
  begins-not h = rw (drop_of_length-le bytes {i = at} h)

  -- a byte that stands at a place stands in the bytes
  pub begins-within : begins_with b (drop at bytes) ≡ true → (at < length bytes) × (get_or bytes at 0 ≡ b)
  begins-within e = go (ltb at (length bytes)) refl
    where
      go : (t : Bool) → ltb at (length bytes) ≡ t → (at < length bytes) × (get_or bytes at 0 ≡ b)
      go true p =
          let h = ltb-true at (length bytes) p in
          (h, eqb-true (get_or bytes at 0) b (begins-here h ∙ e))
      go false p = absurd (false≢true (begins-not (ltb-false at (length bytes) p) ∙ e))

-- ---- one byte

-- a quote, and nothing else, is of the class that is named after it
pub quote_class : (b : ℕ) → b ≡ quote → class_of b ≡ Quote
unfolding class_of
quote_class b e = rw e

pub class_quote : (b : ℕ) → class_of b ≡ Quote → b ≡ quote
class_quote b e = class_means b e

-- the byte at which a field may end goes on where it is text
end-plain : (k : ByteClass) → is_plain false k ≡ true → (t : Bool) (at : ℕ) (form : FieldForm) (text : Reading) → end_by k t at form text ≡ text
unfolding is_plain end_by
end-plain Text p t at form text = refl
end-plain Quote p t at form text = absurd (false≢true p)
end-plain Comma p t at form text = absurd (false≢true p)
end-plain CarriageReturn p t at form text = absurd (false≢true p)
end-plain LineFeed p t at form text = absurd (false≢true p)
end-plain Refused p t at form text = absurd (false≢true p)

-- where it is no text, what text would come to is nothing to it
no-text : (k : ByteClass) → is_plain false k ≡ false → (t : Bool) (at : ℕ) (form : FieldForm) (text other : Reading)
    → end_by k t at form text ≡ end_by k t at form other
unfolding is_plain end_by
no-text Text p t at form text other = absurd (false≢true (sym p))
no-text Quote p t at form text other = refl
no-text Comma p t at form text other = refl
no-text CarriageReturn p true at form text other = refl
no-text CarriageReturn p false at form text other = refl
no-text LineFeed p t at form text other = refl
no-text Refused p t at form text other = refl

-- a CR ends a field where LF follows, and else breaks it
pub cr_ends : {k : ByteClass} → k ≡ CarriageReturn → (t : Bool) (at : ℕ) (form : FieldForm) (text : Reading)
    → end_by k t at form text ≡ cond t (before_record_end at form) broken_field
unfolding end_by
cr_ends e true at form text = rw e
cr_ends e false at form text = rw e

-- every byte but a comma and a CR breaks it, where text does
pub end-broken : (k : ByteClass) → (k ≡ Comma → ⊥) → (k ≡ CarriageReturn → ⊥) → (t : Bool) (at : ℕ) (form : FieldForm) (text : Reading)
    → (k ≡ Text → text ≡ broken_field) → end_by k t at form text ≡ broken_field
unfolding end_by
end-broken Text p q t at form text e = e refl
end-broken Quote p q t at form text e = refl
end-broken Comma p q t at form text e = absurd (p refl)
end-broken CarriageReturn p q t at form text e = absurd (q refl)
end-broken LineFeed p q t at form text e = refl
end-broken Refused p q t at form text e = refl

-- a byte inside quotes goes on where it is allowed there and no quote
inside-allowed : (k : ByteClass) → (k ≡ Quote → ⊥) → (k ≡ Refused → ⊥) → (t : Bool) (on pair closed : Reading) → inside_read k t on pair closed ≡ on
unfolding inside_read
inside-allowed Text p q t on pair closed = refl
inside-allowed Quote p q t on pair closed = absurd (p refl)
inside-allowed Comma p q t on pair closed = refl
inside-allowed CarriageReturn p q t on pair closed = refl
inside-allowed LineFeed p q t on pair closed = refl
inside-allowed Refused p q t on pair closed = absurd (q refl)

-- where no quote follows, a pair is no way
no_pair : (k : ByteClass) (on pair other closed : Reading) → inside_read k false on pair closed ≡ inside_read k false on other closed
unfolding inside_read
no_pair Text on pair other closed = refl
no_pair Quote on pair other closed = refl
no_pair Comma on pair other closed = refl
no_pair CarriageReturn on pair other closed = refl
no_pair LineFeed on pair other closed = refl
no_pair Refused on pair other closed = refl

quoted_byte : (form : FieldForm) (at b : ℕ) (rest : List ℕ)
    → quoted_read form at (b ∷ rest)
    ≡ inside_read (class_of b) (begins_with quote rest) (quoted_read form (at + 1) rest) (quoted_read Doubled (at + 2) (drop 1 rest))
    (end_read (at + 1) form rest)
unfolding quoted_read begins_with
quoted_byte form at b [] = no_pair (class_of b) broken_field broken_field broken_field (end_read (at + 1) form [])
quoted_byte form at b (c ∷ rest) = refl

-- inside quotes, from a place on, is read what is read from another place on, where a doubled quote has been met or not
abbrev pub ReadsOn : (file : List ℕ) → (from : ℕ) → (form : FieldForm) → (at : ℕ) → Type 0
ReadsOn file from form at = quoted_read Part from (drop from file) ≡ quoted_read form at (drop at file)

-- ---- at the places of a file

module _ (file : List ℕ) where
  module _ (at : ℕ) (h : at < length file) where
    pub plain_step : plain_read at (drop at file)
        ≡ end_by (class_of (get_or file at 0)) (begins_with line_feed (drop (at + 1) file)) at Part (plain_read (at + 1) (drop (at + 1) file))
    unfolding plain_read
    plain_step = rw (bytes-from file at h)

    pub end_step : (form : FieldForm) → end_read at form (drop at file)
        ≡ end_by (class_of (get_or file at 0)) (begins_with line_feed (drop (at + 1) file)) at form broken_field
    unfolding end_read
    end_step form = rw (bytes-from file at h)

    pub quoted-step : (form : FieldForm) → quoted_read form at (drop at file)
        ≡ inside_read (class_of (get_or file at 0)) (begins_with quote (drop (at + 1) file)) (quoted_read form (at + 1) (drop (at + 1) file))
        (quoted_read Doubled (at + 2) (drop (at + 2) file)) (end_read (at + 1) form (drop (at + 1) file))
    quoted-step form =
        let z : at + 1 + 1 ≡ at + 2 = omega arith in
        let behind : drop 1 (drop (at + 1) file) ≡ drop (at + 2) file = drop-drop 1 (at + 1) file ∙ rw z in
        rw (bytes-from file at h, quoted_byte form at (get_or file at 0) (drop (at + 1) file), behind)

    -- what is plain inside quotes is allowed there
    pub quoted-plain : (form : FieldForm) → is_plain true (class_of (get_or file at 0)) ≡ true
        → quoted_read form at (drop at file) ≡ quoted_read form (at + 1) (drop (at + 1) file)
    unfolding is_plain
    quoted-plain form e =
        quoted-step form ∙ inside-allowed (class_of (get_or file at 0)) (λ k. false≢true (rw k at e)) (λ k. false≢true (rw k at e)) _ _ _ _

  -- a scan for text passes bytes of a field that is not quoted
  pub plain-found : (from r : ℕ) → Found file false from (length file) r → plain_read from (drop from file) ≡ plain_read r (drop r file)
  plain-found from r found =
      all-passed (λ (i : ℕ). plain_read i (drop i file)) from r found.behind λ i p q.
      let passed = found.passed i p q in
      plain_step i passed.0 ∙ end-plain (class_of (get_or file i 0)) passed.1 _ _ _ _

  -- and one for text and commas those of a quoted field
  pub quoted-found : (form : FieldForm) (from r : ℕ) → Found file true from (length file) r
      → quoted_read form from (drop from file) ≡ quoted_read form r (drop r file)
  quoted-found form from r found =
      all-passed (λ (i : ℕ). quoted_read form i (drop i file)) from r found.behind λ i p q.
      let passed = found.passed i p q in
      quoted-plain i passed.0 form passed.1

  module _ (from at : ℕ) (form : FieldForm) (so_far : ReadsOn file from form at) where
    pub inside_last : length file ≤ at → broken_field ≡ quoted_read Part from (drop from file)
    unfolding quoted_read
    inside_last l = sym (so_far ∙ rw (drop_of_length-le file {i = at} l))

    module _ (h : at < length file) where
      pub inside_pair : class_of (get_or file at 0) ≡ Quote → begins_with quote (drop (at + 1) file) ≡ true → ReadsOn file from Doubled (at + 2)
      unfolding inside_read
      inside_pair e next = so_far ∙ quoted-step at h form ∙ rw (e, next)

      pub inside_closed : class_of (get_or file at 0) ≡ Quote → begins_with quote (drop (at + 1) file) ≡ false
          → quoted_read Part from (drop from file) ≡ end_read (at + 1) form (drop (at + 1) file)
      unfolding inside_read
      inside_closed e next = so_far ∙ quoted-step at h form ∙ rw (e, next)

      pub inside_refused : class_of (get_or file at 0) ≡ Refused → broken_field ≡ quoted_read Part from (drop from file)
      unfolding inside_read
      inside_refused e = sym (so_far ∙ quoted-step at h form ∙ rw e)

      -- what is plain is passed, and a run of plain bytes behind it
      pub inside_plain : is_plain true (class_of (get_or file at 0)) ≡ true → (r : ℕ) → Found file true (at + 1) (length file) r
          → ReadsOn file from form r
      inside_plain e r found = so_far ∙ quoted-plain at h form e ∙ quoted-found form (at + 1) r found

      -- every other byte is passed, and a run of plain ones behind it
      module _ (no_quote : class_of (get_or file at 0) ≡ Quote → ⊥) (allowed : class_of (get_or file at 0) ≡ Refused → ⊥) where
        pub inside_on : ReadsOn file from form (at + 1)
        inside_on = so_far ∙ quoted-step at h form ∙ inside-allowed (class_of (get_or file at 0)) no_quote allowed _ _ _ _

        pub inside_run : (r : ℕ) → Found file true (at + 1) (length file) r → ReadsOn file from form r
        inside_run r found = inside_on ∙ quoted-found form (at + 1) r found

  -- the file ends
  pub plain-last : (at : ℕ) → length file ≤ at → plain_read at (drop at file) ≡ with_file at Part
  unfolding plain_read
  plain-last at l = rw (drop_of_length-le file {i = at} l)

  pub end_last : (at : ℕ) (form : FieldForm) → length file ≤ at → end_read at form (drop at file) ≡ with_file at form
  unfolding end_read
  end_last at form l = rw (drop_of_length-le file {i = at} l)

  -- or a field ends before a comma or CR LF, and is broken before any other byte
  module _ (at : ℕ) (form : FieldForm) (h : at < length file) where
    pub end_comma : class_of (get_or file at 0) ≡ Comma → end_read at form (drop at file) ≡ before_comma at form
    unfolding end_by
    end_comma e = end_step at h form ∙ rw e

    pub end_crlf : class_of (get_or file at 0) ≡ CarriageReturn → begins_with line_feed (drop (at + 1) file) ≡ true
        → end_read at form (drop at file) ≡ before_record_end at form
    end_crlf e next = end_step at h form ∙ cr_ends e _ at form broken_field ∙ rw next

    pub end_cr : class_of (get_or file at 0) ≡ CarriageReturn → begins_with line_feed (drop (at + 1) file) ≡ false
        → end_read at form (drop at file) ≡ broken_field
    end_cr e next = end_step at h form ∙ cr_ends e _ at form broken_field ∙ rw next

    pub end_other : (class_of (get_or file at 0) ≡ Comma → ⊥) → (class_of (get_or file at 0) ≡ CarriageReturn → ⊥)
        → end_read at form (drop at file) ≡ broken_field
    end_other p q = end_step at h form ∙ end-broken _ p q _ at form broken_field (λ e. refl)

  -- a field that is not quoted ends behind its text, or breaks there
  pub plain_ends : (from r : ℕ) → Found file false from (length file) r → plain_read from (drop from file) ≡ end_read r Part (drop r file)
  plain_ends from r found = plain-found from r found ∙ go (ltb r (length file)) refl
    where
      go : (t : Bool) → ltb r (length file) ≡ t → plain_read r (drop r file) ≡ end_read r Part (drop r file)
      go true p =
          let h = ltb-true r (length file) p in
          plain_step r h ∙ no-text (class_of (get_or file r 0)) (found.stops h) _ r Part _ _ ∙ sym (end_step r h Part)
      go false p =
          let l = ltb-false r (length file) p in
          plain-last r l ∙ sym (end_last r Part l)
