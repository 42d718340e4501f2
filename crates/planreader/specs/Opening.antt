-- What the functions on a file's beginning, its size and record 1, return, in terms of the reading.
-- Assumes nothing.
use Rattle.std.specs.Prelude.{◌≡◌, Bool, true, false, nat_eq, Option, None, Some, Result, Ok, Err, List, ℕ, ◌≤◌, length}
use Rattle.std.specs.Cmp.Lexicographic.{pointwise}
use Rattle.rfc4180.specs.Text.{ascii}
use Rattle.rfc4180.specs.Records.{first_record}
use Rattle.csv_fields.specs.Spans.{record_span}
use Rattle.planning.specs.declared.Fault.{Fault}
use Rattle.planning.specs.declared.Fault.TheVariants.{Value}
use Rattle.planning.specs.declared.Mode.{Mode}
use Rattle.planning.specs.declared.Mode.TheVariants.{Fixed, Shortest}
use Rattle.planning.specs.declared.Refusal.{Refusal}
use Rattle.planfile.specs.Bounds.{most_bytes}
use Rattle.planfile.specs.FilePlan.{FilePlan, begun}
use Rattle.planfile.specs.Reading.{Read, refused, accepted, fault, fields_of, read_plan, read_file, ◌>>=◌}
use Rattle.planreader.specs.declared.opening.Opening.{Opening}
use Rattle.planreader.specs.Records.{read_behind}

-- the mode of a word
unfoldable pub mode_by : (fixed shortest : Bool) → Option Mode
mode_by true shortest = Some Fixed
mode_by false true = Some Shortest
mode_by false false = None

unfoldable pub mode_named : (text : List ℕ) → Option Mode
mode_named text = mode_by (pointwise nat_eq text (ascii "fixed")) (pointwise nat_eq text (ascii "shortest"))

unfoldable pub mode_read : Option Mode → Read Mode
mode_read (Some mode) = accepted mode
mode_read None = fault Value 1

-- the plan behind record 1
abbrev pub opened : Opening → FilePlan
opened o = begun o.mode o.minutes o.allowance

unfoldable pub opening_read : Result Opening Fault → Read FilePlan
opening_read (Ok o) = accepted (opened o)
opening_read (Err what) = fault what 1

-- record 1 by its text
unfoldable pub read_opening : (text : List ℕ) → Read FilePlan
read_opening text = do
  x ← fields_of 1 text
  read_plan x

-- record 1 of a file is read so, and behind it record 2 begins; or it has that fault
unfoldable pub FirstRead : (file : List ℕ) → Result (Opening × ℕ) Fault → Type 0
FirstRead file (Ok (o, next)) = (read_opening (first_record file).text ≡ accepted (opened o)) × (next ≡ (record_span file 0).next)
FirstRead file (Err what) = read_opening (first_record file).text ≡ fault what 1

-- how a file begins: with a refusal, which is the file's; or so that it is read as its other records are behind record 1
unfoldable pub BeginsBy : (file : List ℕ) → Result (Opening × ℕ) Refusal → Type 0
BeginsBy file (Err refusal) = read_file file ≡ refused refusal
BeginsBy file (Ok (o, start)) = (length file ≤ most_bytes) × (read_file file ≡ read_behind file start (opened o))
