-- What the public functions promise, in terms of RFC 4180's grammar. Each promise opens with the definition that the result equals, for all
-- input; the other clauses say what that means.
-- Assumes nothing.
use Rattle.std.specs.Prelude.{◌≡◌, ◌↔◌, true, false, List, [], ◌∷◌, ◌++◌, ℕ, ◌+◌, ◌≤◌, ◌<◌, length, drop, Some, None, IsSome, Ok, Err}
use Rattle.csv_fields.specs.declared.FieldEnd.{FieldEnd}
use Rattle.csv_fields.specs.declared.FieldEnd.TheVariants.{Comma, RecordEnd, FileEnd}
use Rattle.csv_fields.specs.declared.FieldForm.TheVariants.{Part, Doubled}
use Rattle.csv_fields.specs.declared.FieldRead.{FieldRead}
use Rattle.csv_fields.specs.declared.FieldSpan.{FieldSpan}
use Rattle.csv_fields.specs.declared.RecordSpan.{RecordSpan}
use Rattle.csv_fields.specs.declared.UndoError.TheVariants.{TooLong, Broken}
use Rattle.rfc4180.specs.Bytes.{quote, comma, carriage_return, line_feed}
use Rattle.rfc4180.specs.Grammar.{Field, Record}
use Rattle.csv_fields.specs.Results.{Reading, Form, Undone}
use Rattle.csv_fields.specs.Spans.{record_span, field_span, field_read, sound_field, broken_field, holds_quote, value_form, inside_of, form_of, undone, undone_on_exit}

-- what may stand behind a field in a file, how many bytes separate it from what follows, and what so ends the field: the file ends, a comma
-- follows, and behind it a further field of the record, or CR LF
pub data Separator : (behind : List ℕ) → (size : ℕ) → (ended_by : FieldEnd) → Type 0 where
  file-ends : Separator [] 0 FileEnd
  comma-follows : {rest : List ℕ} → Separator (comma ∷ rest) 1 Comma
  record_ends : {rest : List ℕ} → Separator (carriage_return ∷ line_feed ∷ rest) 2 RecordEnd

-- a field of the grammar that stands at a place of a file
pub record FieldAt (file : List ℕ) (from : ℕ) : Type 0 where
  pub raw : List ℕ
  pub value : List ℕ
  pub behind : List ℕ
  pub size : ℕ
  pub ended_by : FieldEnd
  pub bytes : drop from file ≡ raw ++ behind
  pub field : Field raw value
  pub follows : Separator behind size ended_by

-- a doubled quote stands inside a raw field
abbrev pub DoubledQuote : (raw : List ℕ) → Type 0
DoubledQuote raw = (front : List ℕ) × (back : List ℕ) × (inside_of raw ≡ front ++ quote ∷ quote ∷ back)

-- `field_read` finds a field exactly where one stands, and tells where it ends, where what follows begins, what ends it, and what
-- form it has: whether it holds a doubled quote. Only that stands for a quote, so its value has one exactly then. A field that begins in the file ends
-- in it, and what follows begins behind it.
pub record ReadsField (file : List ℕ) (from : ℕ) (r : Reading) : Type 0 where
  pub equals : r ≡ field_read file from
  pub sound : IsSome r ↔ FieldAt file from
  pub told : (f : FieldAt file from)
      → r ≡ sound_field (from + length f.raw) (from + length f.raw + f.size) f.ended_by (value_form f.value)
  pub doubled : (f : FieldAt file from) → (read : FieldRead) → r ≡ Some read → (read.form ≡ Doubled) ↔ DoubledQuote f.raw
  pub broken : (r ≡ broken_field) ↔ (FieldAt file from → ⊥)
  pub within : from ≤ length file → (read : FieldRead) → r ≡ Some read
      → (from ≤ read.end) × (read.end ≤ read.next) × (read.next ≤ length file)
      × (read.ended_by ≡ Comma → read.end < read.next)
      × (from < length file → from < read.next)

-- `record_at`: a record of the grammar is found up to the CR LF behind it, or up to the end of the file. Any record that begins in the file
-- ends in it, and the next one begins behind it.
pub record EndsRecord (file : List ℕ) (from : ℕ) (r : RecordSpan) : Type 0 where
  pub equals : r ≡ record_span file from
  pub before-end : {text : List ℕ} {values : List (List ℕ)} (rest : List ℕ)
      → Record text values → drop from file ≡ text ++ carriage_return ∷ line_feed ∷ rest
      → r ≡ record { end = from + length text; next = from + length text + 2; ended = true }
  pub with-file : {text : List ℕ} {values : List (List ℕ)}
      → Record text values → drop from file ≡ text → r ≡ record { end = from + length text; next = from + length text; ended = false }
  pub within : from ≤ length file
      → (from ≤ r.end) × (r.end ≤ r.next) × (r.next ≤ length file) × (from < length file → from < r.next)

-- `field_at`: a field of the grammar is found up to the comma behind it, or up to the end of the record's text. Any raw field that begins in
-- the text ends in it.
pub record EndsField (text : List ℕ) (from : ℕ) (r : FieldSpan) : Type 0 where
  pub equals : r ≡ field_span text from
  pub before-comma : {raw value : List ℕ} (rest : List ℕ)
      → Field raw value → drop from text ≡ raw ++ comma ∷ rest → r ≡ record { end = from + length raw; more = true }
  pub with_text : {raw value : List ℕ} → Field raw value → drop from text ≡ raw → r ≡ record { end = from + length raw; more = false }
  pub within : from ≤ length text → (from ≤ r.end) × (r.end ≤ length text) × (r.more ≡ true → r.end < length text)

-- `form_of`: none exactly where no value is that of a field, and else by whether the field holds a doubled quote
pub record HasForm (raw : List ℕ) (r : Form) : Type 0 where
  pub equals : r ≡ form_of raw
  pub broken : (r ≡ None) ↔ ((value : List ℕ) → Field raw value → ⊥)
  pub part : (r ≡ Some Part) ↔ ((value : List ℕ) × Field raw value × (holds_quote value ≡ false))
  pub doubled : (r ≡ Some Doubled) ↔ ((value : List ℕ) × Field raw value × (holds_quote value ≡ true))

-- `part_of`: a part of the raw field whatever it is, and the value of every field that holds no doubled quote
pub record HandsPart (raw part : List ℕ) : Type 0 where
  pub equals : part ≡ inside_of raw
  pub value : {value : List ℕ} → Field raw value → holds_quote value ≡ false → part ≡ value

-- `undo`: the value of a field that fits stands at the front of the buffer, and otherwise the buffer is kept
pub record Undoes (raw lent : List ℕ) (r : Undone) (left : List ℕ) : Type 0 where
  pub equals : r ≡ undone raw (length lent)
  pub leaves : left ≡ undone_on_exit raw lent
  pub fits : {value : List ℕ} → Field raw value → length value ≤ length lent
      → (r ≡ Ok (length value)) × (left ≡ value ++ drop (length value) lent)
  pub too_long : {value : List ℕ} → Field raw value → length lent < length value → (r ≡ Err TooLong) × (left ≡ lent)
  pub broken : ((value : List ℕ) → Field raw value → ⊥) → (r ≡ Err Broken) × (left ≡ lent)
  pub within : (n : ℕ) → r ≡ Ok n → n ≤ length lent
