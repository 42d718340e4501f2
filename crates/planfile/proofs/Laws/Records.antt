-- What it means that the fields of a record are read, and that a record after record 1 is read behind the plan so far.
-- Assumes nothing.
use Rattle.std.specs.Prelude.{◌≡◌, refl, ◌↔◌, ℕ, suc, ◌<◌, Bool, true, false, List, [], ◌∷◌, ◌++◌, length}
use Rattle.std.proofs.Common.{sym, ap, ◌∙◌, subst}
use Rattle.std.proofs.Math.Logic.Iff
use Rattle.std.proofs.Math.Option.{Option, none, some, none-ne-some}
use Rattle.std.proofs.lemmas.List.{length-map}
use Rattle.rfc4180.specs.Fields.{field_values}
use Rattle.rfc4180.specs.Text.{ascii}
use Rattle.planning.specs.Bounds.{most_engines, most_deliveries, most_minutes, most_tries, most_watts, most_fuel, most_energy, most_limit}
use Rattle.planning.proofs.Laws.Numbers.{ltb_iff}
use Rattle.planning.proofs.Laws.Quiet.{ranges_more}
use Rattle.planning.specs.Plan.{Within, QuietInRange, DeliveryInRange}
use Rattle.planning.specs.Quiet.{Quiet, spans_of, fits}
use Rattle.planfile.specs.FilePlan.{FilePlan, NamedEngine, NamedDelivery, engine_of, delivery_of, with_engine, with_quiet, with_delivery, engine_names, name_at}
use Rattle.planfile.specs.Numerals.{Numeral}
use Rattle.planfile.specs.Reading.{accepted, fault, same, FourFields, four_of, unless_broken, fields_of, place_of, Figures, read_engine, read_span}
use Rattle.planfile.specs.Reading.{read_quiet, read_delivery, record_by, read_record}
use Rattle.planfile.proofs.Laws.Listed.{Listed, item_iff}
use Rattle.planfile.proofs.Laws.Tests.{same-iff, place-named, place-only, refused-not-accepted, accepted-iff, bind_iff, then-iff, require-iff, read-number-iff}

-- ---- four fields

-- the values of four fields as a list
abbrev pub field_list : FourFields → List (List ℕ)
field_list x = x.first ∷ x.second ∷ x.third ∷ x.fourth ∷ []

four_sound : (r : ℕ) (values : List (List ℕ)) (x : FourFields) → four_of r values ≡ accepted x → values ≡ field_list x
unfolding four_of fault
four_sound r [] x e = absurd (refused-not-accepted e)
four_sound r (a ∷ []) x e = absurd (refused-not-accepted e)
four_sound r (a ∷ b ∷ []) x e = absurd (refused-not-accepted e)
four_sound r (a ∷ b ∷ c ∷ []) x e = absurd (refused-not-accepted e)
four_sound r (a ∷ b ∷ c ∷ d ∷ []) x e = ap field_list ((accepted-iff _ x).0 e)
four_sound r (a ∷ b ∷ c ∷ d ∷ more ∷ others) x e = absurd (refused-not-accepted e)

fields-by : (r : ℕ) (o : Option (List (List ℕ))) (x : FourFields) → (unless_broken r o ≡ accepted x) ↔ (o ≡ some (field_list x))
unfolding unless_broken four_of fault
fields-by r none x = (λ e. absurd (refused-not-accepted e), λ e. absurd (none-ne-some _ e))
fields-by r (some values) x = (λ e. ap some (four_sound r values x e), λ e. ap (unless_broken r) e)

-- the fields of a record are read where the text is a record of the grammar with these four values
pub fields-iff : (r : ℕ) (text : List ℕ) (x : FourFields) → (fields_of r text ≡ accepted x) ↔ (field_values text ≡ some (field_list x))
unfolding fields_of
fields-iff r text x = fields-by r (field_values text) x

-- ---- the plan so far

-- what the engines, apart from their spans, and the deliveries have to keep
abbrev pub Figured : NamedEngine → Type 0
Figured e = Within 0 most_watts e.watts × Within 0 most_fuel e.fuel

abbrev pub Engines : List NamedEngine → Type 0
Engines items = Listed (λ (e : NamedEngine). e.name) (λ (e : NamedEngine). e) Figured most_engines items

abbrev pub Deliveries : List NamedDelivery → Type 0
Deliveries items = Listed (λ (d : NamedDelivery). d.name) (λ (d : NamedDelivery). d.delivery) DeliveryInRange most_deliveries items

-- what is true of the plan behind every record: all that a plan has to keep, but that it has an engine
pub record SoFar (f : FilePlan) : Type 0 where
  pub minutes : Within 1 most_minutes f.minutes
  pub allowance : Within 0 most_tries f.allowance
  pub engines : Engines f.engines
  pub quiet : (n : ℕ) → QuietInRange (spans_of n f.quiet)
  pub deliveries : Deliveries f.deliveries

-- ---- an engine or a delivery

-- an engine is read where its numbers are numerals and the engines with it keep what they have to keep; a delivery likewise
pub read-engine-iff : (f : FilePlan) (r : ℕ) (x : FourFields) (g : FilePlan) → SoFar f → (read_engine f r x ≡ accepted g)
    ↔ ((v : Figures) × (Numeral x.third v.first × Numeral x.fourth v.second
    × Engines (f.engines ++ engine_of x.second v.first v.second ∷ []))
    × (with_engine f (engine_of x.second v.first v.second) ≡ g))
unfolding read_engine
read-engine-iff f r x g s =
    then-iff _ _ g λ v.
    item_iff (λ (e : NamedEngine). e.name) (λ (e : NamedEngine). e) Figured most_engines 0 most_watts 0 most_fuel engine_of
    (λ text n m. refl) (λ text n m. Iff.rfl) f.engines r x v s.engines

pub read-delivery-iff : (f : FilePlan) (r : ℕ) (x : FourFields) (g : FilePlan) → SoFar f → (read_delivery f r x ≡ accepted g)
    ↔ ((v : Figures) × (Numeral x.third v.first × Numeral x.fourth v.second
    × Deliveries (f.deliveries ++ delivery_of x.second v.first v.second ∷ []))
    × (with_delivery f (delivery_of x.second v.first v.second) ≡ g))
unfolding read_delivery
read-delivery-iff f r x g s =
    then-iff _ _ g λ v.
    item_iff (λ (d : NamedDelivery). d.name) (λ (d : NamedDelivery). d.delivery) DeliveryInRange most_deliveries 1 most_energy 1 most_limit delivery_of
    (λ text n m. refl) (λ text n m. (λ fits. (fits.energy, fits.limit), λ fits. record { energy = fits.0; limit = fits.1 }))
    f.deliveries r x v s.deliveries

-- ---- a quiet span

-- the span of a record, with its engine's number
abbrev span_of : (engine from to : ℕ) → Quiet
span_of engine from to = record { engine = engine; span = record { from = from; to = to } }

-- a span of an engine is read where its numbers are numerals in range and it fits behind those of the engine
read-span-iff : (engine : ℕ) (f : FilePlan) (r : ℕ) (x : FourFields) (g : FilePlan) → (read_span engine f r x ≡ accepted g)
    ↔ ((from : ℕ) × (Numeral x.third from × Within 0 most_minutes from)
    × ((to : ℕ) × (Numeral x.fourth to × Within 0 most_minutes to)
    × ((fits (record { from = from; to = to }) (spans_of engine f.quiet) ≡ true) × (with_quiet f (span_of engine from to) ≡ g))))
unfolding read_span
read-span-iff engine f r x g = simp (require-iff, bind_iff, read-number-iff, accepted-iff) Iff.rfl

-- a quiet span is read where an engine has the name, and its span is read
read-quiet-iff : (f : FilePlan) (r : ℕ) (x : FourFields) (g : FilePlan) → (read_quiet f r x ≡ accepted g)
    ↔ ((place_of x.second (engine_names f) < length (engine_names f)) × (read_span (suc (place_of x.second (engine_names f))) f r x ≡ accepted g))
unfolding read_quiet
read-quiet-iff f r x g = simp (require-iff, ltb_iff) Iff.rfl

-- ---- one record more

-- the plan f with the engine, the quiet span or the delivery of a record behind its own
pub data Added (f : FilePlan) (x : FourFields) : FilePlan → Type 0 where
  added-engine : {watts fuel : ℕ} → x.first ≡ ascii "engine" → Numeral x.third watts → Numeral x.fourth fuel
      → Added f x (with_engine f (engine_of x.second watts fuel))
  added-quiet : (i : ℕ) {from to : ℕ} → x.first ≡ ascii "quiet" → i < length f.engines → x.second ≡ name_at (engine_names f) i
      → Numeral x.third from → Numeral x.fourth to → Added f x (with_quiet f (record { engine = suc i; span = record { from = from; to = to } }))
  added-delivery : {energy limit : ℕ} → x.first ≡ ascii "delivery" → Numeral x.third energy → Numeral x.fourth limit
      → Added f x (with_delivery f (delivery_of x.second energy limit))

record_sound : (engine quiet delivery : Bool) (f : FilePlan) (r : ℕ) (x : FourFields) (g : FilePlan) → SoFar f
    → same x.first (ascii "engine") ≡ engine → same x.first (ascii "quiet") ≡ quiet → same x.first (ascii "delivery") ≡ delivery
    → record_by engine quiet delivery f r x ≡ accepted g → Added f x g × SoFar g
unfolding record_by fault
record_sound true quiet delivery f r x g s is-engine is-quiet is-delivery e =
    let (v, (p, q, engines), found) = (read-engine-iff f r x g s).0 e in
    subst (λ (g : FilePlan). Added f x g × SoFar g) found (
      added-engine ((same-iff _ _).0 is-engine) p q,
      record { minutes = s.minutes; allowance = s.allowance; engines = engines; quiet = s.quiet; deliveries = s.deliveries },
    )
record_sound false true delivery f r x g s is-engine is-quiet is-delivery e =
    let (named, span) = (read-quiet-iff f r x g).0 e in
    let (from, (p, a), (to, (q, b), (fit, found))) = (read-span-iff _ f r x g).0 span in
    subst (λ (g : FilePlan). Added f x g × SoFar g) found (
      added-quiet (place_of x.second (engine_names f)) ((same-iff _ _).0 is-quiet) (rw length-map at named)
          (sym (place-named x.second (engine_names f) named)) p q,
      record {
        minutes = s.minutes;
        allowance = s.allowance;
        engines = s.engines;
        quiet = (ranges_more f.quiet (span_of _ from to)).1 (s.quiet, ((a, b), fit));
        deliveries = s.deliveries;
      },
    )
record_sound false false true f r x g s is-engine is-quiet is-delivery e =
    let (v, (p, q, deliveries), found) = (read-delivery-iff f r x g s).0 e in
    subst (λ (g : FilePlan). Added f x g × SoFar g) found (
      added-delivery ((same-iff _ _).0 is-delivery) p q,
      record { minutes = s.minutes; allowance = s.allowance; engines = s.engines; quiet = s.quiet; deliveries = deliveries },
    )
record_sound false false false f r x g s is-engine is-quiet is-delivery e = absurd (refused-not-accepted e)

-- a record by the word that its first field is
by_word : (f : FilePlan) (r : ℕ) (x : FourFields) {word : List ℕ} → x.first ≡ word
    → read_record f r x ≡ record_by (same word (ascii "engine")) (same word (ascii "quiet")) (same word (ascii "delivery")) f r x
unfolding read_record
by_word f r x kind = rw kind

record_complete : {f : FilePlan} {x : FourFields} {g : FilePlan} → (r : ℕ) → SoFar f → Added f x g → SoFar g → read_record f r x ≡ accepted g
unfolding record_by same ascii
record_complete {f = f} {x = x} r s (added-engine {watts = watts} {fuel = fuel} kind p q) after =
    by_word f r x kind ∙ (read-engine-iff f r x _ s).1 (record { first = watts; second = fuel }, (p, q, after.engines), refl)
record_complete {f = f} {x = x} r s (added-quiet i {from = from} {to = to} kind l named p q) after =
    let (ranges, ((a, b), fit)) = (ranges_more f.quiet (span_of (suc i) from to)).0 after.quiet in
    let few : i < length (engine_names f) = rw length-map l in
    let here : place_of x.second (engine_names f) ≡ i = rw named (place-only (engine_names f) i s.engines.unlike few) in
    by_word f r x kind
    ∙ (read-quiet-iff f r x _).1 (rw here few, rw here ((read-span-iff (suc i) f r x _).1 (from, (p, a), (to, (q, b), (fit, refl)))))
record_complete {f = f} {x = x} r s (added-delivery {energy = energy} {limit = limit} kind p q) after =
    by_word f r x kind ∙ (read-delivery-iff f r x _ s).1 (record { first = energy; second = limit }, (p, q, after.deliveries), refl)

-- a record is read behind a plan where it adds an engine, a span or a delivery and the plan with it keeps what a plan has to keep
pub read_record_iff : (f : FilePlan) (r : ℕ) (x : FourFields) (g : FilePlan) → SoFar f → (read_record f r x ≡ accepted g) ↔ (Added f x g × SoFar g)
unfolding read_record
read_record_iff f r x g s = (record_sound _ _ _ f r x g s refl refl refl, λ both. record_complete r s both.0 both.1)
