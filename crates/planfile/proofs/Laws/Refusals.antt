-- Which refusals the reading of a file ends in: their faults, and the place that goes with each fault.
-- Assumes nothing.
use Rattle.std.specs.Prelude.{◌≡◌, refl, ℕ, ◌+◌, ◌≤◌, Bool, List, [], ◌∷◌, length}
use Rattle.std.proofs.Common.{subst, arith}
use Rattle.std.proofs.Math.Bool.{true, false}
use Rattle.std.proofs.Math.Option.{Option, none, some}
use Rattle.rfc4180.specs.Fields.{field_values}
use Rattle.rfc4180.specs.Records.{records}
use Rattle.planning.specs.declared.Fault.{Fault}
use Rattle.planning.specs.declared.Fault.TheVariants.{Size, Grammar, Fields, Kind, Name, Value, Count, NoEngine, Space, UnknownEngine, QuietSpan}
use Rattle.planning.specs.declared.Refusal.{Refusal}
use Rattle.planning.specs.Plan.{Within}
use Rattle.planfile.specs.FilePlan.{FilePlan, engine_names, delivery_names}
use Rattle.planfile.specs.Numerals.{number_of}
use Rattle.planfile.specs.Reading.{Read, refused, accepted, ◌>>=◌, fault, require, FourFields, four_of, unless_broken, fields_of, mode_by, read_mode}
use Rattle.planfile.specs.Reading.{number_by, read_number, read_plan, read_item, read_engine, read_span, read_quiet, read_delivery, record_by}
use Rattle.planfile.specs.Reading.{read_record, read_records, read_texts, read_file}

-- "Each refusal returns its number and the record counted from 1 (0 for 1, 8 and 9)": the places that a fault may have in a file of
-- so many records; no place for 9, which is not a file's fault
abbrev pub PlaceOf : (count : ℕ) → Fault → (place : ℕ) → Type 0
PlaceOf count Size place = place ≡ 0
PlaceOf count Grammar place = Within 1 count place
PlaceOf count Fields place = Within 1 count place
PlaceOf count Kind place = Within 1 count place
PlaceOf count Name place = Within 1 count place
PlaceOf count Value place = Within 1 count place
PlaceOf count Count place = Within 1 count place
PlaceOf count NoEngine place = place ≡ 0
PlaceOf count Space place = ⊥
PlaceOf count UnknownEngine place = Within 1 count place
PlaceOf count QuietSpan place = Within 1 count place

-- a reading that ends, where it is refused, in a refusal with its place
abbrev Placed : (count : ℕ) → {A : Type 0} → Read A → Type 0
Placed count (refused refusal) = PlaceOf count refusal.fault refusal.place
Placed count (accepted value) = Unit {0}

bind_placed : (count : ℕ) {A B : Type 0} (m : Read A) (next : A → Read B)
    → Placed count m → ((a : A) → Placed count (next a)) → Placed count (◌>>=◌ m next)
unfolding ◌>>=◌
bind_placed count (refused refusal) next p q = p
bind_placed count (accepted value) next p q = q value

require-placed : (count : ℕ) (t : Bool) (what : Fault) (r : ℕ) → PlaceOf count what r → Placed count (require t what r)
unfolding require fault
require-placed count true what r p = tt
require-placed count false what r p = p

-- ---- one record

module _ (count r : ℕ) (here : Within 1 count r) where
  fields-placed : (o : Option (List (List ℕ))) → Placed count (unless_broken r o)
  unfolding unless_broken four_of fault
  fields-placed none = here
  fields-placed (some []) = here
  fields-placed (some (a ∷ [])) = here
  fields-placed (some (a ∷ b ∷ [])) = here
  fields-placed (some (a ∷ b ∷ c ∷ [])) = here
  fields-placed (some (a ∷ b ∷ c ∷ d ∷ [])) = tt
  fields-placed (some (a ∷ b ∷ c ∷ d ∷ more ∷ others)) = here

  mode-placed : (fixed shortest : Bool) → Placed count (mode_by fixed shortest r)
  unfolding mode_by fault
  mode-placed true shortest = tt
  mode-placed false true = tt
  mode-placed false false = here

  number-placed : (low high : ℕ) (o : Option ℕ) → Placed count (number_by low high r o)
  unfolding number_by fault
  number-placed low high none = here
  number-placed low high (some n) = bind_placed count _ _ (require-placed count _ Value r here) (λ u. tt)

  item_placed : (most low high low' high' : ℕ) (names : List (List ℕ)) (x : FourFields) → Placed count (read_item most low high low' high' names r x)
  unfolding read_item read_number
  item_placed most low high low' high' names x =
      bind_placed count _ _ (require-placed count _ Count r here) λ u.
      bind_placed count _ _ (require-placed count _ Name r here) λ u.
      bind_placed count _ _ (number-placed low high (number_of x.third)) λ n.
      bind_placed count _ _ (number-placed low' high' (number_of x.fourth)) λ m. tt

  span-placed : (engine : ℕ) (f : FilePlan) (x : FourFields) → Placed count (read_span engine f r x)
  unfolding read_span read_number
  span-placed engine f x =
      bind_placed count _ _ (number-placed _ _ (number_of x.third)) λ from.
      bind_placed count _ _ (number-placed _ _ (number_of x.fourth)) λ to.
      bind_placed count _ _ (require-placed count _ QuietSpan r here) λ u. tt

  record_placed : (engine quiet delivery : Bool) (f : FilePlan) (x : FourFields) → Placed count (record_by engine quiet delivery f r x)
  unfolding record_by read_engine read_quiet read_delivery fault
  record_placed true quiet delivery f x = bind_placed count _ _ (item_placed _ _ _ _ _ (engine_names f) x) λ v. tt
  record_placed false true delivery f x = bind_placed count _ _ (require-placed count _ UnknownEngine r here) λ u. span-placed _ f x
  record_placed false false true f x = bind_placed count _ _ (item_placed _ _ _ _ _ (delivery_names f) x) λ v. tt
  record_placed false false false f x = here

-- ---- all records

plan-placed : (count : ℕ) → 1 ≤ count → (x : FourFields) → Placed count (read_plan x)
unfolding read_plan read_mode read_number
plan-placed count one x =
    let here : Within 1 count 1 = record { least = omega arith; most = one } in
    bind_placed count _ _ (require-placed count _ Kind 1 here) λ u.
    bind_placed count _ _ (mode-placed count 1 here _ _) λ mode.
    bind_placed count _ _ (number-placed count 1 here _ _ (number_of x.third)) λ minutes.
    bind_placed count _ _ (number-placed count 1 here _ _ (number_of x.fourth)) λ allowance. tt

records-placed : (count : ℕ) (f : FilePlan) (r : ℕ) (texts : List (List ℕ))
    → 1 ≤ r → r + length texts ≤ count + 1 → Placed count (read_records f r texts)
unfolding read_records fields_of read_record
records-placed count f r [] least most = tt
records-placed count f r (text ∷ texts) least most =
    let here : Within 1 count r = record { least = least; most = omega arith } in
    bind_placed count _ _ (fields-placed count r here (field_values text)) λ x.
    bind_placed count _ _ (record_placed count r here _ _ _ f x) λ g.
    records-placed count g (r + 1) texts (omega arith) (omega arith)

texts-placed : (text : List ℕ) (texts : List (List ℕ)) → Placed (length (text ∷ texts)) (read_texts (text ∷ texts))
unfolding read_texts fields_of
texts-placed text texts =
    let count = length (text ∷ texts) in
    bind_placed count _ _ (fields-placed count 1 (record { least = omega arith; most = omega arith }) (field_values text)) λ x.
    bind_placed count _ _ (plan-placed count (omega arith) x) λ f.
    records-placed count f 2 texts (omega arith) (omega arith)

file-placed : (bytes : List ℕ) → Placed (length (records bytes)) (read_file bytes)
unfolding read_file records
file-placed bytes =
    let count = length (records bytes) in
    bind_placed count _ _ (require-placed count _ Size 0 refl) λ u.
    bind_placed count _ _ (texts-placed _ _) λ f.
    bind_placed count _ _ (require-placed count _ NoEngine 0 refl) λ u. tt

-- a refusal has a file's fault, 1 to 8, and points at a record of the file, or nowhere for 1 and 8
pub refusal-placed : (bytes : List ℕ) (refusal : Refusal) → read_file bytes ≡ refused refusal
    → PlaceOf (length (records bytes)) refusal.fault refusal.place
refusal-placed bytes refusal e = subst (Placed (length (records bytes))) e (file-placed bytes)

-- 9 is never a file's fault
pub never-space : (bytes : List ℕ) (refusal : Refusal) → read_file bytes ≡ refused refusal → refusal.fault ≡ Space → ⊥
never-space bytes refusal e space =
    subst (λ (what : Fault). PlaceOf (length (records bytes)) what refusal.place) space (refusal-placed bytes refusal e)
