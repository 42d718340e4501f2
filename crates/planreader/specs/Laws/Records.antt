-- The records of a file one after the other: what each adds to the plan so far and to the plan by value that holds it. Assumes nothing.
use Rattle.std.proofs.Math.Path.{◌≡◌, refl}
use Rattle.std.proofs.Common.{sym, ap, ◌∙◌, arith, length-append}
use Rattle.std.specs.Prelude.{Bool, true, false, Option, None, Some, Result, Ok, Err, List, [], ◌∷◌, map, ℕ, ◌+◌, ◌≤◌, length, get_or}
use Rattle.std.proofs.lemmas.Simd.{map-map}
use Rattle.std.proofs.lemmas.List.{length-map, map-append}
use Rattle.rfc4180.specs.Fields.{raw_fields}
use Rattle.rfc4180.specs.Text.{ascii}
use Rattle.csv_fields.specs.Spans.{inside_of, holds_quote}
use Rattle.planning.specs.declared.Fault.{Fault}
use Rattle.planning.specs.declared.Fault.TheVariants as what
use Rattle.planning.specs.Bounds.{most_engines, most_deliveries, most_watts, most_fuel, most_energy, most_limit}
use Rattle.planfile.specs.FilePlan.{FilePlan, NamedEngine, NamedDelivery, engine_of, delivery_of, with_engine, with_quiet, with_delivery}
use Rattle.planfile.specs.Reading.{Read, refused, accepted, ◌>>=◌, fault as fault_at, same, FourFields, fields_of, read_engine, read_quiet}
use Rattle.planfile.specs.Reading.{read_delivery, record_by, read_record, read_records}
use Rattle.planreader.specs.declared.FilePlan.{FilePlan as ByValue}
use Rattle.planreader.specs.declared.items.Items.{Items}
use Rattle.planreader.specs.declared.items.Rule.{Rule}
use Rattle.planreader.specs.declared.records.Kind.{Kind}
use Rattle.planreader.specs.declared.records.Kind.TheVariants as kind
use Rattle.planreader.specs.Columns.{Item, engine_item, delivery_item}
use Rattle.planreader.specs.Items.{RuleOf, Adds}
use Rattle.planreader.specs.Laws.Columns.{filled-names}
use Rattle.planreader.specs.Laws.Items.{item_faulty, item_joined}
use Rattle.planreader.specs.Laws.Quiet.{spans-in, spans-held, spans-engine, spans-more}
use Rattle.planreader.specs.Laws.Names.{pointwise-same}
use Rattle.planreader.specs.Laws.Words.{word_same}
use Rattle.planreader.specs.Parts.{Valued}
use Rattle.planreader.specs.Plans.{names_in, QuietHeld}
use Rattle.planreader.specs.Quiet.{quiet_by, SpanRead, plan_with_span, AddsQuiet}
use Rattle.planreader.specs.Records.{kind_by, kind_named, EnginesIn, PlanIn, read_text, AddsBehind, AddsRecord}

-- the rules of the two kinds
abbrev pub EngineRule : Rule → Type 0
EngineRule rule = RuleOf rule 0 most_watts 0 most_fuel

abbrev pub DeliveryRule : Rule → Type 0
DeliveryRule rule = RuleOf rule 1 most_energy 1 most_limit

-- a plan by value with other engines or deliveries
abbrev pub with_engines : Items most_engines → ByValue → ByValue
with_engines e p =
    record {
      mode = p.mode;
      minutes = p.minutes;
      allowance = p.allowance;
      engines = e;
      spans = p.spans;
      quiet = p.quiet;
      deliveries = p.deliveries;
    }

abbrev pub with_deliveries : Items most_deliveries → ByValue → ByValue
with_deliveries d p =
    record {
      mode = p.mode;
      minutes = p.minutes;
      allowance = p.allowance;
      engines = p.engines;
      spans = p.spans;
      quiet = p.quiet;
      deliveries = d;
    }

-- the names of the items of engines are the engines', and with one more
engine-names : (es : List NamedEngine) → map (λ (i : Item). i.name) (map engine_item es) ≡ map (λ (e : NamedEngine). e.name) es
engine-names es = map-map (λ (i : Item). i.name) engine_item es

delivery-names : (ds : List NamedDelivery) → map (λ (i : Item). i.name) (map delivery_item ds) ≡ map (λ (d : NamedDelivery). d.name) ds
delivery-names ds = map-map (λ (i : Item). i.name) delivery_item ds

-- the names in the columns that hold engines
names_of : (es : List NamedEngine) {e : Items most_engines} → EnginesIn es e → names_in e ≡ map (λ (e : NamedEngine). e.name) es
names_of es in_e = filled-names in_e ∙ engine-names es

-- the quiet spans of a plan so far, by how many engines there are
pub plan-held : {f : FilePlan} {p : ByValue} → PlanIn f p → QuietHeld (length (names_in p.engines)) p.spans p.quiet
plan-held {f} {p} held =
    let engines = ap length (names_of f.engines held.engines) ∙ length-map f.engines (λ (e : NamedEngine). e.name) in
    spans-held (spans-engine held.spans (omega (arith, engines)))

-- ---- one record

-- a text that is no record of four fields
module _ (text : List ℕ) (what : Fault) (h : (r : ℕ) → fields_of r text ≡ fault_at what r) where
  pub text_faulty : (f : FilePlan) (r : ℕ) → read_text f r text ≡ fault_at what r
  unfolding read_text ◌>>=◌ fault_at
  text_faulty f r = rw (h r)

  pub record_faulty : (before : ByValue) → AddsRecord text before before (Err what)
  unfolding AddsRecord AddsBehind
  record_faulty before f held = (text_faulty f, held)

-- what is read of a record of that kind
unfoldable pub read_kind : Option Kind → FilePlan → (r : ℕ) → FourFields → Read FilePlan
read_kind (Some kind.Engine) f r x = read_engine f r x
read_kind (Some kind.Quiet) f r x = read_quiet f r x
read_kind (Some kind.Delivery) f r x = read_delivery f r x
read_kind None f r x = fault_at what.Kind r

module _ {text : List ℕ} {x : FourFields} (v : Valued text x) {kind' : Option Kind} (is : kind' ≡ kind_named (inside_of (get_or (raw_fields text) 0 []))) where
  -- a record of four fields by its kind, which is what stands inside the first
  kind-read : (f : FilePlan) (r : ℕ) → read_text f r text ≡ read_kind kind' f r x
  unfolding read_text ◌>>=◌ read_record kind_named ascii holds_quote
  kind-read f r =
      let inside = inside_of (get_or (raw_fields text) 0 []) in
      rw (
        v.read r,
        is,
        pointwise-same inside (ascii "engine"),
        pointwise-same inside (ascii "quiet"),
        pointwise-same inside (ascii "delivery"),
        word_same _ x.first (ascii "engine") v.first refl,
        word_same _ x.first (ascii "quiet") v.first refl,
        word_same _ x.first (ascii "delivery") v.first refl,
      )
      (chosen (same x.first (ascii "engine")) (same x.first (ascii "quiet")) (same x.first (ascii "delivery")))
    where
      chosen : (engine quiet delivery : Bool) → record_by engine quiet delivery f r x ≡ read_kind (kind_by engine quiet delivery) f r x
      chosen true quiet delivery = unfold record_by kind_by read_kind in refl
      chosen false true delivery = unfold record_by kind_by read_kind in refl
      chosen false false true = unfold record_by kind_by read_kind in refl
      chosen false false false = unfold record_by kind_by read_kind in refl

module _ {text : List ℕ} {x : FourFields} (v : Valued text x) (p : ByValue) where
  -- none of them
  pub record_unknown : None ≡ kind_named (inside_of (get_or (raw_fields text) 0 [])) → AddsRecord text p p (Err what.Kind)
  unfolding AddsRecord AddsBehind read_kind
  record_unknown is f held = (kind-read v is f, held)

  -- an engine
  pub record_engine : Some kind.Engine ≡ kind_named (inside_of (get_or (raw_fields text) 0 [])) → {rule : Rule} → EngineRule rule → (e : Items most_engines)
      (how : Result (Unit {0}) Fault) → Adds rule x p.engines e how → AddsRecord text p (with_engines e p) how
  unfolding AddsRecord AddsBehind Adds read_kind read_engine ◌>>=◌ fault_at
  record_engine is rule e (Err what) h f held = (
    λ r. kind-read v is f r ∙ rw (← engine-names f.engines, item_faulty rule x held.engines e what h r),
    rw h.1 held,
  )
  record_engine is rule e (Ok done) h f held =
      let j = item_joined rule x held.engines e h in
      let one = engine_of x.second j.figures.first j.figures.second in (
        with_engine f one,
        λ r. kind-read v is f r ∙ rw (← engine-names f.engines, j.read r),
        record {
          mode = held.mode;
          minutes = held.minutes;
          allowance = held.allowance;
          engines = rw (map-append engine_item f.engines (one ∷ [])) j.filled;
          spans = spans-engine held.spans (omega (arith, length-append f.engines (one ∷ [])));
          deliveries = held.deliveries;
        },
      )

  -- a quiet span
  pub record_quiet : Some kind.Quiet ≡ kind_named (inside_of (get_or (raw_fields text) 0 [])) → (after : ByValue) (how : Result (Unit {0}) Fault)
      → AddsQuiet x p after how → AddsRecord text p after how
  unfolding AddsRecord AddsBehind read_kind AddsQuiet SpanRead plan_with_span
  record_quiet is after (Err what) h f held = (
    λ r. kind-read v is f r ∙ h.0 f (sym (names_of f.engines held.engines)) (sym (spans-in held.spans)) r,
    rw h.1 held,
  )
  record_quiet is after (Ok done) (s, (sound, reads), stored) f held =
      let engines = ap length (names_of f.engines held.engines) ∙ length-map f.engines (λ (e : NamedEngine). e.name) in
      let few : length f.engines ≤ most_engines = omega (arith, length-map f.engines engine_item, held.engines.room) in
      let fits = rw (engines, spans-in held.spans) at sound in (
        with_quiet f (quiet_by s),
        λ r. kind-read v is f r ∙ reads f (sym (names_of f.engines held.engines)) (sym (spans-in held.spans)) r,
        rw stored
            (record {
              mode = held.mode;
              minutes = held.minutes;
              allowance = held.allowance;
              engines = held.engines;
              spans = spans-more held.spans s few fits;
              deliveries = held.deliveries;
            }),
      )

  -- a delivery
  pub record_delivery : Some kind.Delivery ≡ kind_named (inside_of (get_or (raw_fields text) 0 [])) → {rule : Rule} → DeliveryRule rule
      → (d : Items most_deliveries) (how : Result (Unit {0}) Fault) → Adds rule x p.deliveries d how → AddsRecord text p (with_deliveries d p) how
  unfolding AddsRecord AddsBehind Adds read_kind read_delivery ◌>>=◌ fault_at
  record_delivery is rule d (Err what) h f held = (
    λ r. kind-read v is f r ∙ rw (← delivery-names f.deliveries, item_faulty rule x held.deliveries d what h r),
    rw h.1 held,
  )
  record_delivery is rule d (Ok done) h f held =
      let j = item_joined rule x held.deliveries d h in
      let one = delivery_of x.second j.figures.first j.figures.second in (
        with_delivery f one,
        λ r. kind-read v is f r ∙ rw (← delivery-names f.deliveries, j.read r),
        record {
          mode = held.mode;
          minutes = held.minutes;
          allowance = held.allowance;
          engines = held.engines;
          spans = held.spans;
          deliveries = rw (map-append delivery_item f.deliveries (one ∷ [])) j.filled;
        },
      )

-- ---- all records

-- the records from record r on: the first of them decides, or goes before the others
module _ (f : FilePlan) (r : ℕ) (text : List ℕ) (texts : List (List ℕ)) where
  by_first : (m : Read FourFields) → ◌>>=◌ m (λ x. ◌>>=◌ (read_record f r x) (λ g. read_records g (r + 1) texts))
      ≡ ◌>>=◌ (◌>>=◌ m (read_record f r)) (λ g. read_records g (r + 1) texts)
  unfolding ◌>>=◌
  by_first (refused refusal) = refl
  by_first (accepted x) = refl

  first_of : read_records f r (text ∷ texts) ≡ ◌>>=◌ (read_text f r text) (λ g. read_records g (r + 1) texts)
  unfolding read_records read_text
  first_of = by_first (fields_of r text)

  pub records-refused : (what : Fault) → read_text f r text ≡ fault_at what r → read_records f r (text ∷ texts) ≡ fault_at what r
  unfolding ◌>>=◌ fault_at
  records-refused what e = first_of ∙ rw e

  pub records-added : {g : FilePlan} → read_text f r text ≡ accepted g → read_records f r (text ∷ texts) ≡ read_records g (r + 1) texts
  unfolding ◌>>=◌
  records-added e = first_of ∙ rw e
