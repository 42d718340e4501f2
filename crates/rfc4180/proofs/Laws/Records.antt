-- `field_values` reads the records of the grammar and no others, and a record of the grammar holds no record end.
-- Assumes nothing.
use Rattle.std.specs.Prelude.{◌≡◌, refl, ℕ, Bool, true, false, ◌&&◌, List, [], ◌∷◌, ◌++◌, eqb}
use Rattle.std.proofs.Common.{sym, ap, ap₂, ◌∙◌, subst, append_assoc, append-nil, eqb-true}
use Rattle.std.proofs.Math.Bool.{and-eq-true_iff}
use Rattle.std.proofs.Math.Option.{Option, none, some, none-ne-some, some_inj}
use Rattle.rfc4180.specs.Bytes.{comma, carriage_return, line_feed}
use Rattle.rfc4180.specs.Grammar.{Field, Record, record_last, record_more}
use Rattle.rfc4180.specs.Records.{outside_after, first_from, first_record}
use Rattle.rfc4180.specs.Fields.{cut_or, raw_fields_from, raw_fields, field_value, and_then, read_all, field_values}
use Rattle.rfc4180.specs.Writer.{joined}
use Rattle.rfc4180.proofs.Laws.Fields.{field_complete, field-sound}
use Rattle.rfc4180.proofs.Laws.Quotes.{field_unbroken, prefixed, byte_passed, unbroken_passed, unbroken_uncut, NonEmpty, raw_non_empty}

-- ---- no record end inside a record

record_passed : {text : List ℕ} {values : List (List ℕ)} → Record text values → (more : List ℕ)
    → first_from true (text ++ more) ≡ prefixed text (first_from true more)
unfolding outside_after
record_passed (record_last r) more = unbroken_passed (field_unbroken r) more
record_passed (record_more {raw = raw} {text = text} r s) more =
    ap (first_from true) (append_assoc raw (comma ∷ text) more)
    ∙ unbroken_passed (field_unbroken r) (comma ∷ text ++ more)
    ∙ ap (prefixed raw) (byte_passed true comma (text ++ more) refl ∙ ap (prefixed (comma ∷ [])) (record_passed s more))
    ∙ rw append_assoc

-- the first record of a record and a CR LF is that record, and what stands behind the CR LF stands behind it
pub first_record_ended : {text : List ℕ} {values : List (List ℕ)} → Record text values → (rest : List ℕ)
    → first_record (text ++ carriage_return ∷ line_feed ∷ rest) ≡ record { text = text; behind = some rest }
unfolding first_record
first_record_ended r rest = record_passed r (carriage_return ∷ line_feed ∷ rest) ∙ rw append-nil

-- the first record of a record alone is that record, up to the end
pub first_record_last : {text : List ℕ} {values : List (List ℕ)} → Record text values → first_record text ≡ record { text = text; behind = none }
unfolding first_record
first_record_last {text} r = ap (first_from true) (sym (append-nil text)) ∙ record_passed r [] ∙ rw append-nil

-- ---- a record of the grammar is read as its values

pub raw-last : {raw value : List ℕ} → Field raw value → raw_fields raw ≡ raw ∷ []
unfolding raw_fields
raw-last {raw} r = ap (raw_fields_from true) (sym (append-nil raw)) ∙ unbroken_uncut (field_unbroken r) [] ∙ rw append-nil

pub raw-more : {raw value : List ℕ} → Field raw value → (text : List ℕ) → raw_fields (raw ++ comma ∷ text) ≡ raw ∷ raw_fields text
unfolding raw_fields
raw-more r text = unbroken_uncut (field_unbroken r) (comma ∷ text) ∙ rw append-nil

-- every record of the grammar is read as its values
pub record_complete : {text : List ℕ} {values : List (List ℕ)} → Record text values → field_values text ≡ some values
unfolding field_values
record_complete (record_last r) = ap (read_all field_value) (raw-last r) ∙ rw (field_complete r)
record_complete (record_more {text = text} r s) = ap (read_all field_value) (raw-more r text) ∙ ap₂ and_then (field_complete r) (record_complete s)

-- ---- what is read is a record of the grammar

cut-joined : (t : Bool) (b : ℕ) (fields : List (List ℕ)) → NonEmpty fields → (t ≡ true → b ≡ comma) → joined (cut_or t b fields) ≡ b ∷ joined fields
unfolding cut_or joined
cut-joined t b [] n separator = absurd n
cut-joined true b (field ∷ fields) n separator = rw (separator refl)
cut-joined false b (field ∷ []) n separator = refl
cut-joined false b (field ∷ next ∷ fields) n separator = refl

-- the raw fields, with commas between them, are the text
pub joined-raw : (outside : Bool) (text : List ℕ) → joined (raw_fields_from outside text) ≡ text
unfolding raw_fields_from joined
joined-raw outside [] = refl
joined-raw outside (b ∷ rest) =
    cut-joined (outside && eqb b comma) b _ (raw_non_empty (outside_after outside b) rest)
    (λ e. eqb-true b comma ((and-eq-true_iff outside (eqb b comma)).0 e).1)
    ∙ ap (λ (l : List ℕ). b ∷ l) (joined-raw (outside_after outside b) rest)

-- a property of every list that `and_then` gives
pub and-then : {B : Type 0} (X : List B → Type 0) (o : Option B) (os : Option (List B))
    → ((value : B) (values : List B) → o ≡ some value → os ≡ some values → X (value ∷ values))
    → (all : List B) → and_then o os ≡ some all → X all
unfolding and_then
and-then X none os holds all e = absurd (none-ne-some _ e)
and-then X (some value) none holds all e = absurd (none-ne-some _ e)
and-then X (some value) (some values) holds all e = subst X (some_inj.0 e) (holds value values refl refl)

fields_record : (raws : List (List ℕ)) → NonEmpty raws → (values : List (List ℕ)) → read_all field_value raws ≡ some values → Record (joined raws) values
unfolding read_all joined
fields_record [] n values e = absurd n
fields_record (raw ∷ []) n values e =
    and-then (Record raw) (field_value raw) (some [])
    (λ value others p q. rw (← some_inj.0 q) (record_last (field-sound raw value p))) values e
fields_record (raw ∷ next ∷ raws) n values e =
    and-then (Record (joined (raw ∷ next ∷ raws))) (field_value raw) (read_all field_value (next ∷ raws))
    (λ value others p q. record_more (field-sound raw value p) (fields_record (next ∷ raws) tt others q)) values e

-- all values that are read are the values of a record of the grammar
pub record_sound : (text : List ℕ) (values : List (List ℕ)) → field_values text ≡ some values → Record text values
unfolding field_values
record_sound text values e = rw (joined-raw true text) at (fields_record (raw_fields text) (raw_non_empty true text) values e)
