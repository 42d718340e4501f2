-- The spans of records and fields as a reader finds them, one byte after the other. Assumes nothing.
use Rattle.std.specs.Prelude.{◌≡◌, refl, ℕ, suc, ◌+◌, ◌-◌, ◌<◌, ◌≤◌, Bool, true, false, ◌&&◌, List, [], ◌∷◌, eqb, length, drop}
use Rattle.std.proofs.Common.{sym, ap, ◌∙◌, arith, drop_of_length-le, length-drop, length-append, eqb-true}
use Rattle.std.proofs.lemmas.Bool.{false≢true}
use Rattle.std.proofs.Math.Option.{Option, none, some}
use Rattle.csv_fields.specs.declared.RecordSpan.{RecordSpan}
use Rattle.rfc4180.specs.Bytes.{comma, carriage_return, line_feed}
use Rattle.rfc4180.specs.Records.{FirstRecord, outside_after, behind_end, ended_or, first_from}
use Rattle.rfc4180.specs.Fields.{cut_or, raw_fields_from, raw_fields}
use Rattle.rfc4180.specs.Writer.{joined}
use Rattle.rfc4180.proofs.Laws.Quotes.{NonEmpty, raw_non_empty}
use Rattle.rfc4180.proofs.Laws.Records.{joined-raw}
use Rattle.csv_fields.specs.Spans.{span_from, field_from, field_span}
use Rattle.csv_fields.specs.Reader.{begins_with}

-- ---- the record

-- the span of a record whose text so far ends at a place, from what is left of it
abbrev pub span_of : (at : ℕ) → (left : FirstRecord) → RecordSpan
span_of at left = span_from at (length left.text) left.behind

byte_counted : (at n : ℕ) (behind : Option (List ℕ)) → span_from at (suc n) behind ≡ span_from (at + 1) n behind
unfolding span_from
byte_counted at n none = let e : at + suc n ≡ at + 1 + n = omega arith in rw e
byte_counted at n (some rest) = let e : at + suc n ≡ at + 1 + n = omega arith in rw e

-- a byte at which no record ends is one more byte of the text
pub record_passed : (outside : Bool) (b : ℕ) (rest : List ℕ) (at : ℕ) → behind_end outside (b ∷ rest) ≡ none
    → span_of at (first_from outside (b ∷ rest)) ≡ span_of (at + 1) (first_from (outside_after outside b) rest)
unfolding first_from
record_passed outside b rest at e = rw (e, ended_or) (byte_counted at _ _)

-- no record ends at a byte that is no CR outside quotes
pub no_end : (outside : Bool) (b : ℕ) (rest : List ℕ) → (outside && eqb b carriage_return) ≡ false → behind_end outside (b ∷ rest) ≡ none
unfolding behind_end
no_end outside b [] e = refl
no_end true b (c ∷ rest) e = rw e
no_end false b (c ∷ rest) e = refl

-- a record ends at a CR outside quotes that LF follows
pub record_ended : (b : ℕ) (rest : List ℕ) (at : ℕ) → b ≡ carriage_return → begins_with line_feed rest ≡ true
    → span_of at (first_from true (b ∷ rest)) ≡ record { end = at; next = at + 2; ended = true }
unfolding first_from span_from behind_end ended_or begins_with
record_ended b [] at p e = absurd (false≢true e)
record_ended b (c ∷ rest) at p e = let z : at + 0 ≡ at = omega arith in rw (p, eqb-true c line_feed e, z)

-- any other CR leaves it outside quotes
pub cr_passed : (b : ℕ) (rest : List ℕ) (at : ℕ) → b ≡ carriage_return → begins_with line_feed rest ≡ false
    → span_of at (first_from true (b ∷ rest)) ≡ span_of (at + 1) (first_from true rest)
unfolding outside_after behind_end begins_with
cr_passed b [] at p e = record_passed true b [] at refl ∙ rw p
cr_passed b (c ∷ rest) at p e = record_passed true b (c ∷ rest) at (rw (p, e)) ∙ rw p

ended_here : (outside : Bool) (at : ℕ) (rest : List ℕ) → rest ≡ []
    → span_of at (first_from outside rest) ≡ record { end = at; next = at; ended = false }
unfolding first_from span_from
ended_here outside at [] e = let z : at + 0 ≡ at = omega arith in rw z
ended_here outside at (b ∷ rest) e = absurd (cc)

-- the file ends here
pub record_unended : (outside : Bool) (file : List ℕ) (at : ℕ) → length file ≤ at
    → span_of at (first_from outside (drop at file)) ≡ record { end = at; next = at; ended = false }
record_unended outside file at h = ended_here outside at (drop at file) (drop_of_length-le file {i = at} h)

-- ---- the field

byte_kept : (b at : ℕ) (fields : List (List ℕ)) → NonEmpty fields → field_from at (cut_or false b fields) ≡ field_from (at + 1) fields
unfolding field_from cut_or
byte_kept b at [] n = absurd n
byte_kept b at (field ∷ []) n = let e : at + suc (length field) ≡ at + 1 + length field = omega arith in rw e
byte_kept b at (field ∷ next ∷ fields) n = let e : at + suc (length field) ≡ at + 1 + length field = omega arith in rw e

-- a byte at which no field ends is one more byte of the field
pub field-passed : (outside : Bool) (b : ℕ) (rest : List ℕ) (at : ℕ) → (outside && eqb b comma) ≡ false
    → field_from at (raw_fields_from outside (b ∷ rest)) ≡ field_from (at + 1) (raw_fields_from (outside_after outside b) rest)
unfolding raw_fields_from
field-passed outside b rest at e = rw e (byte_kept b at _ (raw_non_empty (outside_after outside b) rest))

comma-cuts : (b at : ℕ) (fields : List (List ℕ)) → NonEmpty fields → field_from at (cut_or true b fields) ≡ record { end = at; more = true }
unfolding field_from cut_or
comma-cuts b at [] n = absurd n
comma-cuts b at (field ∷ fields) n = let z : at + 0 ≡ at = omega arith in rw z

-- a field ends here, and a further one follows
pub field-ended : (outside : Bool) (b : ℕ) (rest : List ℕ) (at : ℕ) → (outside && eqb b comma) ≡ true
    → field_from at (raw_fields_from outside (b ∷ rest)) ≡ record { end = at; more = true }
unfolding raw_fields_from
field-ended outside b rest at e = rw e (comma-cuts b at _ (raw_non_empty (outside_after outside b) rest))

-- ---- the field stands in the text

within_by : (text : List ℕ) (from : ℕ) (fields : List (List ℕ)) → from ≤ length text → NonEmpty fields → joined fields ≡ drop from text
    → let span = field_from from fields in
    (from ≤ span.end) × (span.end ≤ length text) × (span.more ≡ true → span.end < length text)
unfolding field_from joined
within_by text from [] h n e = absurd n
within_by text from (field ∷ []) h n e =
    let total : length field ≡ length text - from = ap length e ∙ length-drop from text in
    (omega arith, omega arith, λ more. absurd (false≢true more))
within_by text from (field ∷ next ∷ fields) h n e =
    let total : length field + suc (length (joined (next ∷ fields))) ≡ length text - from =
    sym (length-append field (comma ∷ joined (next ∷ fields))) ∙ ap length e ∙ length-drop from text in
    (omega arith, omega arith, λ more. omega arith)

-- a field that begins in the text ends in it, and a comma that ends it stands in it
pub field-within : (text : List ℕ) (from : ℕ) → from ≤ length text → let span = field_span text from in
    (from ≤ span.end) × (span.end ≤ length text) × (span.more ≡ true → span.end < length text)
unfolding field_span raw_fields
field-within text from h =
    within_by text from (raw_fields (drop from text)) h (raw_non_empty true (drop from text)) (joined-raw true (drop from text))
