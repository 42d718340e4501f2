-- Where the fields of a record's text stand, and the text that a name is taken from.
-- Assumes nothing.
use Rattle.std.specs.Prelude.{◌≡◌, List, [], ℕ, ◌-◌, ◌≤◌, ◌<◌, length, take, drop, get_or}
use Rattle.std.proofs.Math.Option.{none, some}
use Rattle.rfc4180.specs.Fields.{raw_fields, field_value, field_values}
use Rattle.csv_fields.specs.declared.FieldForm.TheVariants.{Part}
use Rattle.csv_fields.specs.Spans.{value_form}
use Rattle.planfile.specs.Bounds.{most_name_bytes}
use Rattle.planreader.specs.declared.entry.FieldPlace.{FieldPlace}

-- the text that a field's value is taken from as a name: the value, or both are longer than any name
pub record NameFor (value name : List ℕ) : Type 0 where
  pub short : length value ≤ most_name_bytes → name ≡ value
  pub long : most_name_bytes < length value → most_name_bytes < length name

-- where no field stands
abbrev pub nowhere : FieldPlace
nowhere = record { start = 0; end = 0; form = Part }

-- a field stands at a place of a text, and its form is told there
pub record Place (text : List ℕ) (place : FieldPlace) (field : List ℕ) : Type 0 where
  pub begins : place.start ≤ place.end
  pub ends : place.end ≤ length text
  pub stands : take (place.end - place.start) (drop place.start text) ≡ field
  pub formed : {value : List ℕ} → field_value field ≡ some value → place.form ≡ value_form value

-- the first four of so many fields stand at these places of a text
abbrev pub Places : (text : List ℕ) → List FieldPlace → (count : ℕ) → (fields : List (List ℕ)) → Type 0
Places text places count fields = (j : ℕ) → j < count → j < 4 → Place text (get_or places j nowhere) (get_or fields j [])

-- a record's text that keeps the grammar and has four fields, and where they stand
pub record IsCut (text : List ℕ) (places : List FieldPlace) : Type 0 where
  pub whole : length places ≡ 4
  pub sound : field_values text ≡ none → ⊥
  pub counted : length (raw_fields text) ≡ 4
  pub stand : Places text places 4 (raw_fields text)
