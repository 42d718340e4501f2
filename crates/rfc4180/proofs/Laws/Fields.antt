-- `field_value` reads the fields of the grammar and no others. Assumes nothing.
use Rattle.std.specs.Prelude.{◌≡◌, ℕ, Bool, cond, eqb}
use Rattle.std.proofs.Math.Path.{refl}
use Rattle.std.proofs.Common.{sym, ap, ◌∙◌, subst, eqb-true}
use Rattle.std.proofs.Math.Bool.{true, false, and-eq-true_iff}
use Rattle.std.proofs.lemmas.Bool.{false≢true}
use Rattle.std.proofs.Math.Option.{Option, none, some, map, none-ne-some, some_inj}
use mathlib.Core.List.{List, [], ◌∷◌, ◌++◌}
use Rattle.rfc4180.specs.declared.ByteClass.{ByteClass}
use Rattle.rfc4180.specs.declared.ByteClass.TheVariants.{Text, Quote, Comma, CarriageReturn, LineFeed, Refused}
use Rattle.rfc4180.specs.Bytes.{quote, comma, carriage_return, line_feed, class_of}
use Rattle.rfc4180.specs.Grammar.{TextData, NonEscaped, non_escaped-end, non_escaped-text, Escaped, escaped-end, escaped-text, escaped-comma}
use Rattle.rfc4180.specs.Grammar.{escaped_cr, escaped_lf, escaped-quote, Field, field-escaped, field_non_escaped}
use Rattle.rfc4180.specs.Fields.{is_text, all_text, escaped_byte, escaped_value, field_value}
use Rattle.rfc4180.proofs.Laws.Classes.{class_means, text_class, text_no_quote}

-- ---- a field of the grammar is read as its value

itself_read : (b : ℕ) (rest : List ℕ) (value : List ℕ) → ((t : Bool) (x y : Option (List ℕ)) → escaped_byte (class_of b) t x y ≡ x)
    → escaped_value rest ≡ some value → escaped_value (b ∷ rest) ≡ some (b ∷ value)
unfolding escaped_value
itself_read b [] value itself e = absurd (none-ne-some _ e)
itself_read b (c ∷ rest) value itself e = itself _ _ _ ∙ ap (map (λ (v : List ℕ). b ∷ v)) e

text_itself : {b : ℕ} → TextData b → (t : Bool) (x y : Option (List ℕ)) → escaped_byte (class_of b) t x y ≡ x
unfolding escaped_byte
text_itself text t x y = rw (text_class text)

escaped-read : {inside value : List ℕ} → Escaped inside value → escaped_value (inside ++ quote ∷ []) ≡ some value
unfolding escaped_value
escaped-read escaped-end = refl
escaped-read (escaped-text {inside = inside} text r) = itself_read _ (inside ++ quote ∷ []) _ (text_itself text) (escaped-read r)
escaped-read (escaped-comma {inside = inside} r) = itself_read comma (inside ++ quote ∷ []) _ (λ t x y. refl) (escaped-read r)
escaped-read (escaped_cr {inside = inside} r) = itself_read carriage_return (inside ++ quote ∷ []) _ (λ t x y. refl) (escaped-read r)
escaped-read (escaped_lf {inside = inside} r) = itself_read line_feed (inside ++ quote ∷ []) _ (λ t x y. refl) (escaped-read r)
escaped-read (escaped-quote r) = ap (map (λ (v : List ℕ). quote ∷ v)) (escaped-read r)

all-text : {text : List ℕ} → NonEscaped text → all_text text ≡ true
unfolding all_text
all-text non_escaped-end = refl
all-text (non_escaped-text t r) = rw (text_class t, all-text r)

non_escaped-read : {text : List ℕ} → NonEscaped text → field_value text ≡ some text
unfolding field_value
non_escaped-read non_escaped-end = refl
non_escaped-read (non_escaped-text t r) = rw (text_class t, text_no_quote t, all-text r)

-- every field of the grammar is read as its value
pub field_complete : {raw value : List ℕ} → Field raw value → field_value raw ≡ some value
unfolding field_value
field_complete (field-escaped r) = escaped-read r
field_complete (field_non_escaped r) = non_escaped-read r

-- ---- what is read is a field of the grammar

-- bytes that are the inside of an escaped field and its closing quote
record Closed (rest value : List ℕ) : Type 0 where
  inside : List ℕ
  closed : rest ≡ inside ++ quote ∷ []
  reads : Escaped inside value

-- a property of every value that a map gives
map-some : (X : List ℕ → Type 0) (f : List ℕ → List ℕ) (o : Option (List ℕ)) → ((w : List ℕ) → o ≡ some w → X (f w))
    → (value : List ℕ) → map f o ≡ some value → X value
map-some X f none holds value e = absurd (none-ne-some _ e)
map-some X f (some w) holds value e = subst X (some_inj.0 e) (holds w refl)

itself_closed : (b : ℕ) (rest : List ℕ) → ((inside w : List ℕ) → Escaped inside w → Escaped (b ∷ inside) (b ∷ w))
    → (w : List ℕ) → Closed rest w → Closed (b ∷ rest) (b ∷ w)
itself_closed b rest itself w found =
    record {
      inside = b ∷ found.inside;
      closed = ap (λ (l : List ℕ). b ∷ l) found.closed;
      reads = itself found.inside w found.reads;
    }

quotes-closed : (b c : ℕ) (rest : List ℕ) → b ≡ quote → c ≡ quote → (w : List ℕ) → Closed rest w → Closed (b ∷ c ∷ rest) (quote ∷ w)
quotes-closed b c rest first second w found =
    record {
      inside = quote ∷ quote ∷ found.inside;
      closed = rw (first, second) (ap (λ (l : List ℕ). quote ∷ quote ∷ l) found.closed);
      reads = escaped-quote found.reads;
    }

-- the reading of the bytes behind the first byte, and of those behind the first two
module _ (b c : ℕ) (rest value : List ℕ) (one : (w : List ℕ) → escaped_value (c ∷ rest) ≡ some w → Closed (c ∷ rest) w)
    (two : (w : List ℕ) → escaped_value rest ≡ some w → Closed rest w) where
  kept : ((inside w : List ℕ) → Escaped inside w → Escaped (b ∷ inside) (b ∷ w))
      → map (λ (v : List ℕ). b ∷ v) (escaped_value (c ∷ rest)) ≡ some value → Closed (b ∷ c ∷ rest) value
  kept itself e =
      map-some (Closed (b ∷ c ∷ rest)) (λ (v : List ℕ). b ∷ v) (escaped_value (c ∷ rest))
      (λ w p. itself_closed b (c ∷ rest) itself w (one w p)) value e

  quoted : b ≡ quote → (t : Bool) → eqb c quote ≡ t → (itself : Option (List ℕ))
      → escaped_byte Quote t itself (map (λ (v : List ℕ). quote ∷ v) (escaped_value rest)) ≡ some value → Closed (b ∷ c ∷ rest) value
  unfolding escaped_byte
  quoted first true second itself e =
      map-some (Closed (b ∷ c ∷ rest)) (λ (v : List ℕ). quote ∷ v) (escaped_value rest)
      (λ w p. quotes-closed b c rest first (eqb-true c quote second) w (two w p)) value e
  quoted first false second itself e = absurd (none-ne-some _ e)

  byte_closed : (k : ByteClass) → class_of b ≡ k
      → escaped_byte k (eqb c quote) (map (λ (v : List ℕ). b ∷ v) (escaped_value (c ∷ rest)))
      (map (λ (v : List ℕ). quote ∷ v) (escaped_value rest)) ≡ some value
      → Closed (b ∷ c ∷ rest) value
  unfolding escaped_byte
  byte_closed Text p e = kept (λ inside w. escaped-text (class_means b p)) e
  byte_closed Quote p e = quoted (class_means b p) (eqb c quote) refl _ e
  byte_closed Comma p e = kept (λ inside w r. rw (class_means b p) (escaped-comma r)) e
  byte_closed CarriageReturn p e = kept (λ inside w r. rw (class_means b p) (escaped_cr r)) e
  byte_closed LineFeed p e = kept (λ inside w r. rw (class_means b p) (escaped_lf r)) e
  byte_closed Refused p e = absurd (none-ne-some _ e)

last-closed : (b : ℕ) (value : List ℕ) (t : Bool) → eqb b quote ≡ t → cond t (some []) none ≡ some value → Closed (b ∷ []) value
last-closed b value true p e =
    rw (eqb-true b quote p, ← some_inj.0 e) (record { inside = []; closed = refl; reads = escaped-end })
last-closed b value false p e = absurd (none-ne-some _ e)

escaped-closed : (rest value : List ℕ) → escaped_value rest ≡ some value → Closed rest value
unfolding escaped_value
escaped-closed [] value e = absurd (none-ne-some _ e)
escaped-closed (b ∷ []) value e = last-closed b value (eqb b quote) refl e
escaped-closed (b ∷ c ∷ rest) value e =
    byte_closed b c rest value (escaped-closed (c ∷ rest)) (escaped-closed rest) (class_of b) refl e

pub is-text : (b : ℕ) (k : ByteClass) → class_of b ≡ k → is_text k ≡ true → TextData b
unfolding is_text
is-text b Text p e = class_means b p
is-text b Quote p e = absurd (false≢true e)
is-text b Comma p e = absurd (false≢true e)
is-text b CarriageReturn p e = absurd (false≢true e)
is-text b LineFeed p e = absurd (false≢true e)
is-text b Refused p e = absurd (false≢true e)

-- bytes that are all text
pub text-only : (text : List ℕ) → all_text text ≡ true → NonEscaped text
unfolding all_text
text-only [] e = non_escaped-end
text-only (b ∷ rest) e =
    let both = (and-eq-true_iff (is_text (class_of b)) (all_text rest)).0 e in
    non_escaped-text (is-text b (class_of b) refl both.0) (text-only rest both.1)

text-field : (text value : List ℕ) (t : Bool) → all_text text ≡ t → cond t (some text) none ≡ some value → Field text value
text-field text value true p e = rw (← some_inj.0 e) (field_non_escaped (text-only text p))
text-field text value false p e = absurd (none-ne-some _ e)

quoted-field : (rest value : List ℕ) → Closed rest value → Field (quote ∷ rest) value
quoted-field rest value found = rw found.closed (field-escaped found.reads)

first_byte : (b : ℕ) (rest value : List ℕ) (t : Bool) → eqb b quote ≡ t
    → cond t (escaped_value rest) (cond (all_text (b ∷ rest)) (some (b ∷ rest)) none) ≡ some value → Field (b ∷ rest) value
first_byte b rest value true p e = rw (eqb-true b quote p) (quoted-field rest value (escaped-closed rest value e))
first_byte b rest value false p e = text-field (b ∷ rest) value (all_text (b ∷ rest)) refl e

-- every value that is read is the value of a field of the grammar
pub field-sound : (raw value : List ℕ) → field_value raw ≡ some value → Field raw value
unfolding field_value
field-sound [] value e = rw (← some_inj.0 e) (field_non_escaped non_escaped-end)
field-sound (b ∷ rest) value e = first_byte b rest value (eqb b quote) refl e

-- a field has one value
pub field_unique : {raw v w : List ℕ} → Field raw v → Field raw w → v ≡ w
field_unique r s = some_inj.0 (sym (field_complete r) ∙ field_complete s)
