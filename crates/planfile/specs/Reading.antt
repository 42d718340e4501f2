-- The refusal of a file (document 01, "Turned down"): number and record at fault, in document 01's order of checks, or the plan.
-- "Order: 1; then records from the front, the first faulty one deciding; within a record 2, 3, 4, 7, then its fields from the left
-- (5 or 6); after the last record 8." In a quiet record (document 02, K1) 10 is "in the place of 5", and 11 comes "after all fields".
-- Assumes nothing.
use Rattle.std.specs.Prelude.{ℕ, suc, ◌+◌, Bool, true, false, cond, not, ◌&&◌, List, [], ◌∷◌, length, leb, ltb, eqb}
use Rattle.std.proofs.Math.Option.{Option, none, some}
use Rattle.rfc4180.specs.Fields.{field_values}
use Rattle.rfc4180.specs.Records.{records}
use Rattle.rfc4180.specs.Text.{ascii}
use Rattle.planning.specs.declared.Fault.{Fault}
use Rattle.planning.specs.declared.Fault.TheVariants.{Size, Grammar, Fields, Kind, Name, Value, Count, NoEngine, UnknownEngine, QuietSpan}
use Rattle.planning.specs.declared.Mode.{Mode}
use Rattle.planning.specs.declared.Mode.TheVariants.{Fixed, Shortest}
use Rattle.planning.specs.declared.Refusal.{Refusal}
use Rattle.planning.specs.Bounds.{most_engines, most_deliveries, most_minutes, most_tries, most_watts, most_fuel, most_energy, most_limit}
use Rattle.planning.specs.Numbers.{within}
use Rattle.planning.specs.Quiet.{spans_of, fits}
use Rattle.planfile.specs.Bounds.{most_bytes, most_name_bytes, least_name_byte, most_name_byte}
use Rattle.planfile.specs.FilePlan.{FilePlan, engine_names, delivery_names, engine_of, delivery_of, begun, with_engine, with_quiet, with_delivery}
use Rattle.planfile.specs.Numerals.{number_of}

-- what reading comes to: a value, or a refusal
pub data Read (A : Type 0) : Type 0 where
  refused : Refusal → Read A
  accepted : A → Read A

-- one reading after another: the first refusal decides
infixl 1 ◌>>=◌
unfoldable pub ◌>>=◌ : {A B : Type 0} → Read A → (A → Read B) → Read B
◌>>=◌ (refused refusal) next = refused refusal
◌>>=◌ (accepted value) next = next value

-- a fault at record r
unfoldable pub fault : {A : Type 0} → Fault → (r : ℕ) → Read A
fault what r = refused (record { fault = what; place = r })

-- a check: a fault at record r where the test fails
unfoldable pub require : Bool → Fault → (r : ℕ) → Read (Unit {0})
require true what r = accepted tt
require false what r = fault what r

-- two texts are the same
unfoldable pub same : List ℕ → List ℕ → Bool
same [] [] = true
same [] (b ∷ bs) = false
same (a ∷ as') [] = false
same (a ∷ as') (b ∷ bs) = eqb a b && same as' bs

-- 2 and 3: the four fields of record r
pub record FourFields : Type 0 where
  pub first : List ℕ
  pub second : List ℕ
  pub third : List ℕ
  pub fourth : List ℕ

-- "not four fields"
unfoldable pub four_of : (r : ℕ) → List (List ℕ) → Read FourFields
four_of r [] = fault Fields r
four_of r (a ∷ []) = fault Fields r
four_of r (a ∷ b ∷ []) = fault Fields r
four_of r (a ∷ b ∷ c ∷ []) = fault Fields r
four_of r (a ∷ b ∷ c ∷ d ∷ []) = accepted (record { first = a; second = b; third = c; fourth = d })
four_of r (a ∷ b ∷ c ∷ d ∷ e ∷ more) = fault Fields r

-- "record breaks RFC 4180"
unfoldable pub unless_broken : (r : ℕ) → Option (List (List ℕ)) → Read FourFields
unless_broken r none = fault Grammar r
unless_broken r (some values) = four_of r values

unfoldable pub fields_of : (r : ℕ) → (text : List ℕ) → Read FourFields
fields_of r text = unless_broken r (field_values text)

-- 6: "MODE is `fixed` or `shortest`."
unfoldable pub mode_by : (fixed shortest : Bool) → (r : ℕ) → Read Mode
mode_by true shortest r = accepted Fixed
mode_by false true r = accepted Shortest
mode_by false false r = fault Value r

unfoldable pub read_mode : (r : ℕ) → (text : List ℕ) → Read Mode
read_mode r text = mode_by (same text (ascii "fixed")) (same text (ascii "shortest")) r

-- 6: a number in its form, low to high
unfoldable pub number_by : (low high r : ℕ) → Option ℕ → Read ℕ
number_by low high r none = fault Value r
number_by low high r (some n) = do
  _ ← require (within low high n) Value r
  accepted n

unfoldable pub read_number : (low high r : ℕ) → (text : List ℕ) → Read ℕ
read_number low high r text = number_by low high r (number_of text)

-- 5: "A name has 1 to 16 bytes, each hex 20 to 7E, and is used once among engines and once among deliveries."
unfoldable pub name_bytes : List ℕ → Bool
name_bytes [] = true
name_bytes (b ∷ bs) = within least_name_byte most_name_byte b && name_bytes bs

unfoldable pub sound_name : List ℕ → Bool
sound_name name = within 1 most_name_bytes (length name) && name_bytes name

unfoldable pub unused : (name : List ℕ) → (names : List (List ℕ)) → Bool
unused name [] = true
unused name (other ∷ names) = not (same name other) && unused name names

-- the place of a name among names: of the first that is it, or how many there are where none is
unfoldable pub place_of : (name : List ℕ) → (names : List (List ℕ)) → ℕ
place_of name [] = 0
place_of name (other ∷ names) = cond (same name other) 0 (suc (place_of name names))

-- record 1: 4 where it is no plan, then its fields from the left
unfoldable pub read_plan : FourFields → Read FilePlan
read_plan x = do
  _ ← require (same x.first (ascii "plan")) Kind 1
  mode ← read_mode 1 x.second
  minutes ← read_number 1 most_minutes 1 x.third
  allowance ← read_number 0 most_tries 1 x.fourth
  accepted (begun mode minutes allowance)

-- the two numbers of an engine or of a delivery
pub record Figures : Type 0 where
  pub first : ℕ
  pub second : ℕ

-- an item of a name and two numbers, behind items of these names: 7 where there are the most of them, then its fields from the left
unfoldable pub read_item : (most low high low' high' : ℕ) → (names : List (List ℕ)) → (r : ℕ) → FourFields → Read Figures
read_item most low high low' high' names r x = do
  _ ← require (ltb (length names) most) Count r
  _ ← require (sound_name x.second && unused x.second names) Name r
  n ← read_number low high r x.third
  m ← read_number low' high' r x.fourth
  accepted (record { first = n; second = m })

-- an engine, and 7 for "a 13th engine"
unfoldable pub read_engine : FilePlan → (r : ℕ) → FourFields → Read FilePlan
read_engine f r x = do
  v ← read_item most_engines 0 most_watts 0 most_fuel (engine_names f) r x
  accepted (with_engine f (engine_of x.second v.first v.second))

-- a delivery, and 7 for a 38th (document 02, K7)
unfoldable pub read_delivery : FilePlan → (r : ℕ) → FourFields → Read FilePlan
read_delivery f r x = do
  v ← read_item most_deliveries 1 most_energy 1 most_limit (delivery_names f) r x
  accepted (with_delivery f (delivery_of x.second v.first v.second))

-- a quiet span of the engine with that number, behind the spans so far: its fields from the left, then 11
unfoldable pub read_span : (engine : ℕ) → FilePlan → (r : ℕ) → FourFields → Read FilePlan
read_span engine f r x = do
  from ← read_number 0 most_minutes r x.third
  to ← read_number 0 most_minutes r x.fourth
  _ ← require (fits (record { from = from; to = to }) (spans_of engine f.quiet)) QuietSpan r
  accepted (with_quiet f (record { engine = engine; span = record { from = from; to = to } }))

-- a quiet span, and 10 where "the named engine isn't earlier in the file"
unfoldable pub read_quiet : FilePlan → (r : ℕ) → FourFields → Read FilePlan
read_quiet f r x = do
  _ ← require (ltb (place_of x.second (engine_names f)) (length (engine_names f))) UnknownEngine r
  read_span (suc (place_of x.second (engine_names f))) f r x

-- a record after record 1, by its first field: 4 for "first field unknown" and for "a plan later"
unfoldable pub record_by : (engine quiet delivery : Bool) → FilePlan → (r : ℕ) → FourFields → Read FilePlan
record_by true quiet delivery f r x = read_engine f r x
record_by false true delivery f r x = read_quiet f r x
record_by false false true f r x = read_delivery f r x
record_by false false false f r x = fault Kind r

unfoldable pub read_record : FilePlan → (r : ℕ) → FourFields → Read FilePlan
read_record f r x =
    record_by (same x.first (ascii "engine")) (same x.first (ascii "quiet")) (same x.first (ascii "delivery")) f r x

-- the records from record r on, behind the plan so far
unfoldable pub read_records : FilePlan → (r : ℕ) → (texts : List (List ℕ)) → Read FilePlan
read_records f r [] = accepted f
read_records f r (text ∷ texts) = do
  x ← fields_of r text
  g ← read_record f r x
  read_records g (r + 1) texts

-- all records; a file has one or more
unfoldable pub read_texts : (texts : List (List ℕ)) → Read FilePlan
read_texts [] = fault Kind 1
read_texts (text ∷ texts) = do
  x ← fields_of 1 text
  f ← read_plan x
  read_records f 2 texts

-- a whole file
unfoldable pub read_file : List ℕ → Read FilePlan
read_file bytes = do
  _ ← require (within 1 most_bytes (length bytes)) Size 0
  f ← read_texts (records bytes)
  _ ← require (leb 1 (length f.engines)) NoEngine 0
  accepted f
