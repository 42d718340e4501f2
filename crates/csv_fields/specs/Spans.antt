-- What the functions on slices return and leave, in terms of RFC 4180's reading.
-- Assumes nothing.
use Rattle.std.specs.Prelude.{Bool, true, false, cond, ◌||◌, ◌&&◌, List, [], ◌∷◌, ◌++◌, ℕ, ◌+◌, ◌-◌, leb, eqb, length, take, drop, get_or, Some, None, Ok, Err}
use Rattle.std.proofs.Math.Option.{Option, none, some, map}
use Rattle.csv_fields.specs.declared.FieldEnd.{FieldEnd}
use Rattle.csv_fields.specs.declared.FieldEnd.TheVariants.{Comma, RecordEnd, FileEnd}
use Rattle.csv_fields.specs.declared.FieldForm.{FieldForm}
use Rattle.csv_fields.specs.declared.FieldForm.TheVariants.{Part, Doubled}
use Rattle.csv_fields.specs.declared.FieldRead.{FieldRead}
use Rattle.csv_fields.specs.declared.FieldSpan.{FieldSpan}
use Rattle.csv_fields.specs.declared.RecordSpan.{RecordSpan}
use Rattle.csv_fields.specs.declared.UndoError.TheVariants.{TooLong, Broken}
use Rattle.rfc4180.specs.Bytes.{quote}
use Rattle.rfc4180.specs.Fields.{raw_fields, field_value}
use Rattle.rfc4180.specs.Records.{first_record}
use Rattle.csv_fields.specs.Results.{Reading, Form, Undone}

-- the record that begins at a place of a file: its text ends where the first record of the bytes from there on does
unfoldable pub span_from : (from : ℕ) → (text_length : ℕ) → (behind : Option (List ℕ)) → RecordSpan
span_from from n none = record { end = from + n; next = from + n; ended = false }
span_from from n (some rest) = record { end = from + n; next = from + n + 2; ended = true }

unfoldable pub record_span : (file : List ℕ) → (from : ℕ) → RecordSpan
record_span file from = span_from from (length (first_record (drop from file)).text) (first_record (drop from file)).behind

-- the raw field that begins at a place of a record's text: the first of the raw fields from there on
unfoldable pub field_from : (from : ℕ) → (fields : List (List ℕ)) → FieldSpan
field_from from [] = record { end = from; more = false }
field_from from (field ∷ []) = record { end = from + length field; more = false }
field_from from (field ∷ next ∷ fields) = record { end = from + length field; more = true }

unfoldable pub field_span : (text : List ℕ) → (from : ℕ) → FieldSpan
field_span text from = field_from from (raw_fields (drop from text))

-- a field of the grammar that was read where it begins: it ends before a comma, before a record end, or with the file
abbrev pub told_field : (end next : ℕ) → (ended_by : FieldEnd) → (form : FieldForm) → FieldRead
told_field end next ended_by form = record { end = end; next = next; ended_by = ended_by; form = form }

abbrev pub sound_field : (end next : ℕ) → (ended_by : FieldEnd) → (form : FieldForm) → Reading
sound_field end next ended_by form = Some (told_field end next ended_by form)

abbrev pub before_comma : (end : ℕ) → (form : FieldForm) → Reading
before_comma end form = sound_field end (end + 1) Comma form

abbrev pub before_record_end : (end : ℕ) → (form : FieldForm) → Reading
before_record_end end form = sound_field end (end + 2) RecordEnd form

abbrev pub with_file : (end : ℕ) → (form : FieldForm) → Reading
with_file end form = sound_field end end FileEnd form

-- no field of the grammar
abbrev pub broken_field : Reading
broken_field = None

-- whether a quote stands among some bytes
unfoldable pub holds_quote : List ℕ → Bool
holds_quote [] = false
holds_quote (b ∷ bs) = eqb b quote || holds_quote bs

-- document 01: a field "that holds no doubled quote". Only a doubled quote stands for a quote, so a field of the grammar holds one exactly
-- where its value has a quote.
unfoldable pub form_by : (has_quote : Bool) → FieldForm
form_by true = Doubled
form_by false = Part

abbrev pub value_form : (value : List ℕ) → FieldForm
value_form value = form_by (holds_quote value)

-- none where a raw field is no field of the grammar
unfoldable pub form_in : (raw : List ℕ) → Option FieldForm
form_in raw = map value_form (field_value raw)

-- the first raw field of a record, by its form, by the fields behind it and by what stands behind the record
unfoldable pub read_by : (form : Option FieldForm) → (end : ℕ) → (others : List (List ℕ)) → (behind : Option (List ℕ)) → Reading
read_by none end others behind = broken_field
read_by (some form) end (next ∷ others) behind = before_comma end form
read_by (some form) end [] (some rest) = before_record_end end form
read_by (some form) end [] none = with_file end form

unfoldable pub first_read : (form : List ℕ → Option FieldForm) → (from : ℕ) → (raws : List (List ℕ)) → (behind : Option (List ℕ)) → Reading
first_read form from [] behind = broken_field
first_read form from (raw ∷ others) behind = read_by (form raw) (from + length raw) others behind

-- the field that begins at a place of a file: the first raw field of the record from there on
unfoldable pub field_read : (file : List ℕ) → (from : ℕ) → Reading
field_read file from =
    let front = first_record (drop from file) in
    first_read form_in from (raw_fields front.text) front.behind

-- the part of a raw field between its quotes, or all of it where it does not begin with a quote or is shorter than two bytes
unfoldable pub inside_of : List ℕ → List ℕ
inside_of raw = cond (leb 2 (length raw) && eqb (get_or raw 0 0) quote) (take (length raw - 2) (drop 1 raw)) raw

-- what a raw field is
unfoldable pub form_told : Option FieldForm → Form
form_told none = None
form_told (some form) = Some form

unfoldable pub form_of : (raw : List ℕ) → Form
form_of raw = form_told (form_in raw)

-- undoing a field into a buffer with that much space, and what the buffer then holds
unfoldable pub undone_by : Option (List ℕ) → (space : ℕ) → Undone
undone_by none space = Err Broken
undone_by (some value) space = cond (leb (length value) space) (Ok (length value)) (Err TooLong)

unfoldable pub undone : (raw : List ℕ) → (space : ℕ) → Undone
undone raw space = undone_by (field_value raw) space

unfoldable pub undone_on_exit_by : Option (List ℕ) → (lent : List ℕ) → List ℕ
undone_on_exit_by none lent = lent
undone_on_exit_by (some value) lent = cond (leb (length value) (length lent)) (value ++ drop (length value) lent) lent

unfoldable pub undone_on_exit : (raw lent : List ℕ) → List ℕ
undone_on_exit raw lent = undone_on_exit_by (field_value raw) lent
