-- What it means that all records of a file are read: record 1, the records behind it, and both together.
-- Assumes nothing.
use Rattle.std.specs.Prelude.{◌≡◌, refl, ◌↔◌, ℕ, ◌+◌}
use Rattle.std.proofs.Common.{sym, ap, ap₂, ◌∙◌, subst, arith}
use Rattle.std.proofs.Math.Logic.Iff
use mathlib.Core.List.{List, [], ◌∷◌, ◌++◌, map, append-nil, append_assoc, nil≢cons, cons≢nil, head-eq_of_cons-eq, tail-eq_of_cons-eq}
use Rattle.std.proofs.Math.Option.{some, some_inj}
use Rattle.rfc4180.specs.Fields.{read_all, and_then, field_values}
use Rattle.rfc4180.specs.Text.{ascii}
use Rattle.rfc4180.proofs.Laws.Records.{and-then}
use Rattle.planning.specs.declared.Mode.{Mode}
use Rattle.planning.specs.Bounds.{most_minutes, most_tries}
use Rattle.planning.proofs.Laws.Quiet.{quiet_none, ranges_more}
use Rattle.planning.specs.Plan.{Within}
use Rattle.planning.specs.Quiet.{Quiet, spans_of}
use Rattle.planfile.specs.FilePlan.{FilePlan, NamedEngine, NamedDelivery, begun, name_at}
use Rattle.planfile.specs.Holding.{mode_word, PlanRecord, plan-record, Mixture, mixture-none, mixture-engine, mixture-quiet, mixture-delivery}
use Rattle.planfile.specs.Numerals.{Numeral}
use Rattle.planfile.specs.Reading.{accepted, fault, FourFields, read_plan, read_records, read_texts}
use Rattle.planfile.proofs.Laws.Listed.{listed-front}
use Rattle.planfile.proofs.Laws.Records.{field_list, fields-iff, SoFar, Added, added-engine, added-quiet, added-delivery, read_record_iff}
use Rattle.planfile.proofs.Laws.Tests.{same-iff, refused-not-accepted, accepted-iff, bind_iff, require-iff, read-number-iff, read-mode-iff}

-- ---- the records behind a plan

-- records, by their values, that are added to f one after the other and make g
pub data Steps : FilePlan → List (List (List ℕ)) → FilePlan → Type 0 where
  steps-none : {f : FilePlan} → Steps f [] f
  steps_first : {f h g : FilePlan} {x : FourFields} {others : List (List (List ℕ))} → Added f x h → Steps h others g → Steps f (field_list x ∷ others) g

-- one record more behind them
steps-last : {f h g : FilePlan} {x : FourFields} {others : List (List (List ℕ))} → Steps f others h → Added h x g → Steps f (others ++ field_list x ∷ []) g
steps-last steps-none a = steps_first a steps-none
steps-last (steps_first b s) a = steps_first b (steps-last s a)

-- they add engines, spans and deliveries alone
record SameOpening (f g : FilePlan) : Type 0 where
  mode : f.mode ≡ g.mode
  minutes : f.minutes ≡ g.minutes
  allowance : f.allowance ≡ g.allowance

steps_opening : {f g : FilePlan} {others : List (List (List ℕ))} → Steps f others g → SameOpening f g
steps_opening steps-none = record { mode = refl; minutes = refl; allowance = refl }
steps_opening (steps_first (added-engine kind p q) s) =
    let o = steps_opening s in record { mode = o.mode; minutes = o.minutes; allowance = o.allowance }
steps_opening (steps_first (added-quiet i kind l named p q) s) =
    let o = steps_opening s in record { mode = o.mode; minutes = o.minutes; allowance = o.allowance }
steps_opening (steps_first (added-delivery kind p q) s) =
    let o = steps_opening s in record { mode = o.mode; minutes = o.minutes; allowance = o.allowance }

-- behind a mixture they make a mixture
steps-mixture : {f g : FilePlan} {records others : List (List (List ℕ))} → Mixture records f.engines f.quiet f.deliveries → Steps f others g
    → Mixture (records ++ others) g.engines g.quiet g.deliveries
steps-mixture {records = records} m steps-none = rw (append-nil records) m
steps-mixture {records = records} m (steps_first {x = x} {others = others} (added-engine kind p q) s) =
    rw (← append_assoc records (field_list x ∷ []) others) (steps-mixture {records = records ++ field_list x ∷ []} (rw kind (mixture-engine m _ p q)) s)
steps-mixture {records = records} m (steps_first {x = x} {others = others} (added-quiet i kind l named p q) s) =
    rw (← append_assoc records (field_list x ∷ []) others)
    (steps-mixture {records = records ++ field_list x ∷ []} (rw (kind, named) (mixture-quiet m i l _ p q)) s)
steps-mixture {records = records} m (steps_first {x = x} {others = others} (added-delivery kind p q) s) =
    rw (← append_assoc records (field_list x ∷ []) others) (steps-mixture {records = records ++ field_list x ∷ []} (rw kind (mixture-delivery m _ p q)) s)

-- and each mixture is made by such records from nothing on
mixture-steps : (mode : Mode) (minutes allowance : ℕ) {records : List (List (List ℕ))} {engines : List NamedEngine} {quiet : List Quiet}
    {deliveries : List NamedDelivery}
    → Mixture records engines quiet deliveries
    → Steps (begun mode minutes allowance) records
    (record { mode = mode; minutes = minutes; allowance = allowance; engines = engines; quiet = quiet; deliveries = deliveries })
mixture-steps mode minutes allowance mixture-none = steps-none
mixture-steps mode minutes allowance (mixture-engine {w = w} {f = v} m e p q) =
    steps-last {x = record { first = ascii "engine"; second = e.name; third = w; fourth = v }} (mixture-steps mode minutes allowance m) (added-engine refl p q)
mixture-steps mode minutes allowance (mixture-quiet {engines = engines} {f = w} {t = v} m i l s p q) =
    steps-last {x = record { first = ascii "quiet"; second = name_at (map (λ (e : NamedEngine). e.name) engines) i; third = w; fourth = v }}
    (mixture-steps mode minutes allowance m) (added-quiet i refl l refl p q)
mixture-steps mode minutes allowance (mixture-delivery {e = w} {l = v} m d p q) =
    steps-last {x = record { first = ascii "delivery"; second = d.name; third = w; fourth = v }} (mixture-steps mode minutes allowance m)
    (added-delivery refl p q)

-- the plan before them keeps what the plan behind them keeps
steps_so_far : {f g : FilePlan} {others : List (List (List ℕ))} → Steps f others g → SoFar g → SoFar f
steps_so_far steps-none t = t
steps_so_far {f = f} (steps_first (added-engine {watts = watts} {fuel = fuel} kind p q) s) t =
    let u = steps_so_far s t in
    record {
      minutes = u.minutes;
      allowance = u.allowance;
      engines = listed-front _ _ _ _ f.engines _ u.engines;
      quiet = u.quiet;
      deliveries = u.deliveries;
    }
steps_so_far {f = f} (steps_first (added-quiet i kind l named p q) s) t =
    let u = steps_so_far s t in
    record {
      minutes = u.minutes;
      allowance = u.allowance;
      engines = u.engines;
      quiet = ((ranges_more f.quiet _).0 u.quiet).0;
      deliveries = u.deliveries;
    }
steps_so_far {f = f} (steps_first (added-delivery {energy = energy} {limit = limit} kind p q) s) t =
    let u = steps_so_far s t in
    record {
      minutes = u.minutes;
      allowance = u.allowance;
      engines = u.engines;
      quiet = u.quiet;
      deliveries = listed-front _ _ _ _ f.deliveries _ u.deliveries;
    }

-- The texts are records of the grammar, their values are added to f and make g, and g keeps what a plan has to keep.
pub record Behind (f : FilePlan) (texts : List (List ℕ)) (g : FilePlan) : Type 0 where
  pub others : List (List (List ℕ))
  pub values : read_all field_values texts ≡ some others
  pub steps : Steps f others g
  pub so_far : SoFar g

-- where there is no text, nothing is added
steps-nothing : {f g : FilePlan} {others : List (List (List ℕ))} → Steps f others g → others ≡ [] → f ≡ g
steps-nothing steps-none e = refl
steps-nothing (steps_first a s) e = absurd (cons≢nil e)

behind-nothing : (f g : FilePlan) → SoFar f → (f ≡ g) ↔ Behind f [] g
unfolding read_all
behind-nothing f g s = (
  λ e. record { others = []; values = refl; steps = subst (Steps f []) e steps-none; so_far = subst SoFar e s },
  λ b. steps-nothing b.steps (sym (some_inj.0 b.values)),
)

-- `Behind`, from its first text on: what that adds to f, and the texts behind the plan with what it adds
record FirstBehind (f : FilePlan) (text : List ℕ) (texts : List (List ℕ)) (g : FilePlan) : Type 0 where
  fields : FourFields
  values : field_values text ≡ some (field_list fields)
  after : FilePlan
  added : Added f fields after
  so_far : SoFar after
  behind : Behind after texts g

first-behind : {f g : FilePlan} {text : List ℕ} {texts : List (List ℕ)} {all : List (List (List ℕ))} → Steps f all g → SoFar g
    → (values : List (List ℕ)) (others : List (List (List ℕ))) → field_values text ≡ some values → read_all field_values texts ≡ some others
    → values ∷ others ≡ all → FirstBehind f text texts g
first-behind steps-none t values others p q e = absurd (cons≢nil e)
first-behind (steps_first {x = x} a s) t values others p q e =
    record {
      fields = x;
      values = p ∙ ap some (head-eq_of_cons-eq e);
      after = _;
      added = a;
      so_far = steps_so_far s t;
      behind = record { others = _; values = q ∙ ap some (tail-eq_of_cons-eq e); steps = s; so_far = t };
    }

behind-first : {f : FilePlan} {text : List ℕ} {texts : List (List ℕ)} {g : FilePlan} → FirstBehind f text texts g → Behind f (text ∷ texts) g
unfolding read_all and_then
behind-first first =
    let b = first.behind in
    record {
      others = field_list first.fields ∷ b.others;
      values = ap₂ and_then first.values b.values;
      steps = steps_first first.added b.steps;
      so_far = b.so_far;
    }

behind_more : (f : FilePlan) (text : List ℕ) (texts : List (List ℕ)) (g : FilePlan) → FirstBehind f text texts g ↔ Behind f (text ∷ texts) g
unfolding read_all
behind_more f text texts g = (
  behind-first,
  λ b.
      and-then (λ all. all ≡ b.others → FirstBehind f text texts g) (field_values text) (read_all field_values texts)
      (first-behind b.steps b.so_far) b.others b.values refl,
)

-- records behind a plan are read, and make g, where they are such records
pub read-records-iff : (f : FilePlan) (r : ℕ) (texts : List (List ℕ)) (g : FilePlan) → SoFar f → (read_records f r texts ≡ accepted g) ↔ Behind f texts g
unfolding read_records
read-records-iff f r [] g s = Iff.trans (accepted-iff f g) (behind-nothing f g s)
read-records-iff f r (text ∷ texts) g s =
    Iff.trans (
      λ e.
          let (x, read, then-read) = (bind_iff _ _ g).0 e in
          let (h, added, then-others) = (bind_iff _ _ g).0 then-read in
          let (a, t) = (read_record_iff f r x h s).0 added in
          record {
            fields = x;
            values = (fields-iff r text x).0 read;
            after = h;
            added = a;
            so_far = t;
            behind = (read-records-iff h (r + 1) texts g t).0 then-others;
          },
      λ first.
          (bind_iff _ _ g).1 (
            first.fields,
            (fields-iff r text first.fields).1 first.values,
            (bind_iff _ _ g).1 (
              first.after,
              (read_record_iff f r _ _ s).1 (first.added, first.so_far),
              (read-records-iff first.after (r + 1) texts g first.so_far).1 first.behind,
            ),
          ),
    )
    (behind_more f text texts g)

-- ---- record 1

begun_so_far : (mode : Mode) (minutes allowance : ℕ) → Within 1 most_minutes minutes → Within 0 most_tries allowance → SoFar (begun mode minutes allowance)
begun_so_far mode minutes allowance v w =
    record {
      minutes = v;
      allowance = w;
      engines = record { count = omega arith; in_range = tt; named = tt; unlike = tt };
      quiet = λ n. unfold spans_of in quiet_none;
      deliveries = record { count = omega arith; in_range = tt; named = tt; unlike = tt };
    }

-- record 1 is read where it is a plan, its mode is a word and its numbers are numerals of numbers in range
pub read-plan-iff : (x : FourFields) (f : FilePlan) → (read_plan x ≡ accepted f)
    ↔ ((x.first ≡ ascii "plan") × ((mode : Mode) × (x.second ≡ mode_word mode)
    × ((minutes : ℕ) × (Numeral x.third minutes × Within 1 most_minutes minutes)
    × ((allowance : ℕ) × (Numeral x.fourth allowance × Within 0 most_tries allowance) × (begun mode minutes allowance ≡ f)))))
unfolding read_plan
read-plan-iff x f = simp (require-iff, same-iff, bind_iff, read-mode-iff, read-number-iff, accepted-iff) Iff.rfl

plan-fields : (x : FourFields) (mode : Mode) (minutes allowance : ℕ) → x.first ≡ ascii "plan" → x.second ≡ mode_word mode
    → Numeral x.third minutes → Numeral x.fourth allowance → PlanRecord (field_list x) mode minutes allowance
plan-fields x mode minutes allowance kind word p q = rw (kind, word) (plan-record p q)

plan-sound : (x : FourFields) (f : FilePlan) → read_plan x ≡ accepted f
    → (mode : Mode) × (minutes allowance : ℕ) × PlanRecord (field_list x) mode minutes allowance × SoFar (begun mode minutes allowance)
    × (begun mode minutes allowance ≡ f)
plan-sound x f e =
    let (kind, (mode, word, (minutes, (p, v), (allowance, (q, w), found)))) = (read-plan-iff x f).0 e in
    (mode, minutes, allowance, plan-fields x mode minutes allowance kind word p q, begun_so_far mode minutes allowance v w, found)

plan_complete : {values : List (List ℕ)} {mode : Mode} {minutes allowance : ℕ} → PlanRecord values mode minutes allowance
    → Within 1 most_minutes minutes → Within 0 most_tries allowance
    → (x : FourFields) × (values ≡ field_list x) × (read_plan x ≡ accepted (begun mode minutes allowance))
plan_complete (plan-record {mode = mode} {minutes = minutes} {allowance = allowance} {m = m} {t = t} p q) v w =
    let x : FourFields = record { first = ascii "plan"; second = mode_word mode; third = m; fourth = t } in
    (x, refl, (read-plan-iff x (begun mode minutes allowance)).1 (refl, (mode, refl, (minutes, (p, v), (allowance, (q, w), refl)))))

-- ---- all records

-- the texts are records of the grammar and their values are those of f, which keeps what a plan has to keep
pub record Recorded (texts : List (List ℕ)) (f : FilePlan) : Type 0 where
  pub first : List (List ℕ)
  pub others : List (List (List ℕ))
  pub values : read_all field_values texts ≡ some (first ∷ others)
  pub plan_record : PlanRecord first f.mode f.minutes f.allowance
  pub mixture : Mixture others f.engines f.quiet f.deliveries
  pub so_far : SoFar f

recorded : {text : List ℕ} {x : FourFields} {mode : Mode} {minutes allowance : ℕ} {texts : List (List ℕ)} {f : FilePlan}
    → field_values text ≡ some (field_list x) → PlanRecord (field_list x) mode minutes allowance → Behind (begun mode minutes allowance) texts f
    → Recorded (text ∷ texts) f
unfolding read_all and_then
recorded {x = x} read plan_record b =
    let opening = steps_opening b.steps in
    record {
      first = field_list x;
      others = b.others;
      values = ap₂ and_then read b.values;
      plan_record = rw (← opening.mode, ← opening.minutes, ← opening.allowance) plan_record;
      mixture = steps-mixture mixture-none b.steps;
      so_far = b.so_far;
    }

texts-sound : (texts : List (List ℕ)) (f : FilePlan) → read_texts texts ≡ accepted f → Recorded texts f
unfolding read_texts fault
texts-sound [] f e = absurd (refused-not-accepted e)
texts-sound (text ∷ texts) f e =
    let (x, read, after) = (bind_iff _ _ f).0 e in
    let (h, plan, rest) = (bind_iff _ _ f).0 after in
    let (mode, minutes, allowance, plan_record, s, start) = plan-sound x h plan in
    recorded ((fields-iff 1 text x).0 read) plan_record
    ((read-records-iff _ 2 texts f s).0 (ap (λ (g : FilePlan). read_records g 2 texts) start ∙ rest))

first_complete : (text : List ℕ) (texts : List (List ℕ)) (f : FilePlan) (h : Recorded (text ∷ texts) f)
    → (values : List (List ℕ)) (others : List (List (List ℕ))) → field_values text ≡ some values → read_all field_values texts ≡ some others
    → values ∷ others ≡ h.first ∷ h.others → read_texts (text ∷ texts) ≡ accepted f
unfolding read_texts
first_complete text texts f h values others p q e =
    let s = begun_so_far f.mode f.minutes f.allowance h.so_far.minutes h.so_far.allowance in
    let (x, fields, plan) = plan_complete h.plan_record s.minutes s.allowance in
    let b : Behind (begun f.mode f.minutes f.allowance) texts f =
    record {
      others = h.others;
      values = q ∙ ap some (tail-eq_of_cons-eq e);
      steps = mixture-steps f.mode f.minutes f.allowance h.mixture;
      so_far = h.so_far;
    } in
    (bind_iff _ _ f).1 (
      x,
      (fields-iff 1 text x).1 (p ∙ ap some (head-eq_of_cons-eq e ∙ fields)),
      (bind_iff _ _ f).1 (begun f.mode f.minutes f.allowance, plan, (read-records-iff _ 2 texts f s).1 b),
    )

texts_complete : (texts : List (List ℕ)) (f : FilePlan) → Recorded texts f → read_texts texts ≡ accepted f
unfolding read_all
texts_complete [] f h = absurd (nil≢cons (some_inj.0 h.values))
texts_complete (text ∷ texts) f h =
    and-then (λ all. all ≡ h.first ∷ h.others → read_texts (text ∷ texts) ≡ accepted f) (field_values text) (read_all field_values texts)
    (first_complete text texts f h) (h.first ∷ h.others) h.values refl

-- all records are read where they are the records of such a plan
pub read-texts-iff : (texts : List (List ℕ)) (f : FilePlan) → (read_texts texts ≡ accepted f) ↔ Recorded texts f
read-texts-iff texts f = (texts-sound texts f, texts_complete texts f)
