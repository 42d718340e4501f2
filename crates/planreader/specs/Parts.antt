-- What the functions on fields, names and numbers return, in terms of the definitions of RFC 4180 and of the plan file.
-- Assumes nothing.
use Rattle.std.specs.Prelude.{◌≡◌, ◌⊎◌, true, false, cond, None, Some, Ok, Err, List, [], ℕ, ◌^◌, ◌≤◌, ◌<◌, drop, get_or}
use Rattle.std.specs.Range.{range_inclusive_start, range_inclusive_end, range_inclusive_exhausted}
use Rattle.std.specs.declared.ops.RangeInclusive.{RangeInclusive}
use Rattle.std.proofs.Math.Option.{Option, none, some}
use Rattle.rfc4180.specs.Fields.{raw_fields, field_value}
use Rattle.rfc4180.specs.Records.{first_record}
use Rattle.csv_fields.specs.Spans.{record_span}
use Rattle.planning.specs.Numbers.{within}
use Rattle.planfile.specs.Numerals.{value_behind, all_digits, number_of}
use Rattle.planfile.specs.Reading.{accepted, fault, FourFields, fields_of}
use Rattle.planreader.specs.declared.entry.Entry.{Entry}
use Rattle.planreader.specs.Results.{Ranged, Cutting}

-- a number within its range, or none
unfoldable pub ranged_by : (low high : ℕ) → Option ℕ → Ranged
ranged_by low high none = None
ranged_by low high (some n) = cond (within low high n) (Some n) None

unfoldable pub ranged_of : (low high : ℕ) → (text : List ℕ) → Ranged
ranged_of low high text = ranged_by low high (number_of text)

-- a range none of whose values was taken, and whose end fits 64 bits
pub record Whole (range : RangeInclusive ℕ) : Type 0 where
  pub fresh : range_inclusive_exhausted range ≡ false
  pub fits : range_inclusive_end range < 2 ^ 64

abbrev pub ranged_in : RangeInclusive ℕ → (text : List ℕ) → Ranged
ranged_in range text = ranged_of (range_inclusive_start range) (range_inclusive_end range) text

-- the value of digits; none where a byte is no digit, or where it does not fit 64 bits
unfoldable pub value_read : (text : List ℕ) → Ranged → Type 0
value_read text (Some n) = (all_digits text ≡ true) × (n ≡ value_behind 0 text)
value_read text None = (all_digits text ≡ false) ⊎ (2 ^ 64 ≤ value_behind 0 text)

-- four raw fields of a record's text, and their values
pub record Valued (text : List ℕ) (x : FourFields) : Type 0 where
  pub read : (r : ℕ) → fields_of r text ≡ accepted x
  pub first : field_value (get_or (raw_fields text) 0 []) ≡ some x.first
  pub second : field_value (get_or (raw_fields text) 1 []) ≡ some x.second
  pub third : field_value (get_or (raw_fields text) 2 []) ≡ some x.third
  pub fourth : field_value (get_or (raw_fields text) 3 []) ≡ some x.fourth

-- the record that begins at a place of a file, cut, and where the next one begins
pub record RecordCut (file : List ℕ) (from : ℕ) (e : Entry) (next : ℕ) : Type 0 where
  pub text : e.text.now ≡ (first_record (drop from file)).text
  pub behind : next ≡ (record_span file from).next

-- or it breaks the grammar or has not four fields, as the reading has it
unfoldable pub CutAt : (file : List ℕ) → (from : ℕ) → Cutting → Type 0
CutAt file from (Err what) = (r : ℕ) → fields_of r (first_record (drop from file)).text ≡ fault what r
CutAt file from (Ok (e, next)) = RecordCut file from e next
