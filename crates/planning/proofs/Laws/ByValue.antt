-- A plan by value: its lists by their columns, its ranges place by place, and that an accepted call's numbers by value stand for its plan.
-- Assumes nothing.
use Rattle.std.specs.Prelude.{◌≡◌, refl, ℕ, ◌≤◌, ◌<◌, max, length, take, get_or}
use Rattle.std.proofs.Math.Path.{ap₂}
use Rattle.std.proofs.Common.{ap, ◌∙◌, arith}
use mathlib.Core.List.{List, [], ◌∷◌, map}
use Rattle.std.proofs.lemmas.List.{length-map}
use Rattle.planning.specs.declared.Deliveries.{Deliveries}
use Rattle.planning.specs.declared.Engines.{Engines}
use Rattle.planning.specs.declared.Plan.{Plan as ByValue}
use Rattle.planning.specs.declared.QuietSpan.{QuietSpan}
use Rattle.planning.specs.declared.Spans.{Spans}
use Rattle.planning.specs.Bounds.{most_engines, most_deliveries, most_quiet, most_fuel}
use Rattle.planning.specs.ByValue.{quiet_at, quiet_in, engine_in, delivery_in, engines_in, deliveries_in, plan_in}
use Rattle.planning.specs.ByValue.{UsableSpans, UsableEngines, UsableDeliveries, Usable, no_span, no_figures, span_by, spans_by, figures_of, figures_by}
use Rattle.planning.specs.ByValue.{by_value}
use Rattle.planning.specs.Capacity.{capacity, each_capacity}
use Rattle.planning.proofs.Laws.Numbers.{QuietKept, kept-each, engine-count, engines-quiet, delivery-count}
use Rattle.planning.proofs.Laws.Padded.{length-filled, at-filled, length-padded, at-padded}
use Rattle.planning.proofs.Laws.Quiet.{span-ranges, few-spans}
use Rattle.planning.proofs.Laws.Tables.{length-listed, listed_at, at_listed, listed_same, listed-each, listed-take, listed-pairs, map-listed}
use Rattle.planning.specs.Numbers.{Call, Accepted, quiet_of, engines_of, deliveries_of, plan_of}
use Rattle.planning.specs.Plan.{Engine, Delivery, All, Within, SpanInRange, EngineInRange, DeliveryInRange, energies, limits}
use Rattle.planning.specs.Quiet.{Quiet}
use Rattle.planning.specs.Tables.{at, listed, filled}

-- ---- engines

pub count-engines_in : (e : Engines) → length (engines_in e) ≡ e.count
unfolding engines_in
count-engines_in e = length-listed e.count _

-- their capacities, place by place
capacities-listed : (e : Engines) (T : ℕ) → each_capacity (engines_in e) T ≡ listed e.count (λ i. capacity (engine_in e i) T)
unfolding engines_in
capacities-listed e T = map-listed (λ (x : Engine). capacity x T) e.count (λ i. engine_in e i)

pub count-capacities_in : (e : Engines) (T : ℕ) → length (each_capacity (engines_in e) T) ≡ e.count
count-capacities_in e T = ap length (capacities-listed e T) ∙ length-listed e.count _

pub capacity_in : (e : Engines) (T i : ℕ) → i < e.count → at (each_capacity (engines_in e) T) i ≡ capacity (engine_in e i) T
capacity_in e T i l = ap (λ (xs : List ℕ). at xs i) (capacities-listed e T) ∙ at_listed e.count _ i l

module _ {e : Engines} (u : UsableEngines e) where
  pub engine_in_range : (i : ℕ) → i < e.count → EngineInRange (engine_in e i)
  unfolding engines_in
  engine_in_range = listed-each EngineInRange e.count (λ i. engine_in e i) u.ranges

  -- every quiet span is one of an engine, and each engine's are in range
  pub usable-kept : QuietKept e.count (quiet_in e.quiet)
  unfolding engine_in
  usable-kept =
      record {
        known = u.quiet.known;
        ranges = kept-each e.count (quiet_in e.quiet) u.quiet.known (λ i l. (engine_in_range i l).quiet);
      }

  -- no capacity is above the largest fuel
  pub most-capacity_in : (T i : ℕ) → i < e.count → at (each_capacity (engines_in e) T) i ≤ most_fuel
  unfolding capacity
  most-capacity_in T i l = omega (arith, capacity_in e T i l, (engine_in_range i l).fuel.most)

-- ---- deliveries

pub count-deliveries_in : (d : Deliveries) → length (deliveries_in d) ≡ d.count
unfolding deliveries_in
count-deliveries_in d = length-listed d.count _

module _ {d : Deliveries} (u : UsableDeliveries d) where
  pub delivery_in_range : (p : ℕ) → p < d.count → DeliveryInRange (delivery_in d p)
  unfolding deliveries_in
  delivery_in_range = listed-each DeliveryInRange d.count (λ p. delivery_in d p) u.ranges

-- ---- the plan

module _ {p : ByValue} (u : Usable p) where
  -- its energies and limits are the fronts of their columns
  pub energies_in : energies (plan_in p) ≡ take p.deliveries.count p.deliveries.energy
  unfolding plan_in deliveries_in delivery_in
  energies_in =
      map-listed (λ (d : Delivery). d.energy) p.deliveries.count _
      ∙ listed-take p.deliveries.count p.deliveries.energy (omega (arith, u.deliveries.energy, u.deliveries.count.most))

  pub limits_in : limits (plan_in p) ≡ take p.deliveries.count p.deliveries.limit
  unfolding plan_in deliveries_in delivery_in
  limits_in =
      map-listed (λ (d : Delivery). d.limit) p.deliveries.count _
      ∙ listed-take p.deliveries.count p.deliveries.limit (omega (arith, u.deliveries.limit, u.deliveries.count.most))

-- ---- quiet spans

-- the span that is stored stands for itself
abbrev stands : QuietSpan ℕ → Quiet
stands s = record { engine = s.engine; span = record { from = s.from; to = s.to } }

-- each at its place among those that are stored
quiet-listed : (quiet : List Quiet) → listed (length quiet) (λ k. stands (get_or (map span_by quiet) k no_span)) ≡ quiet
unfolding listed
quiet-listed [] = refl
quiet-listed (q ∷ quiet) = ap (λ (others : List Quiet). q ∷ others) (quiet-listed quiet)

pub quiet-by-value : (quiet : List Quiet) → quiet_in (spans_by quiet) ≡ quiet
unfolding quiet_in quiet_at spans_by
quiet-by-value quiet =
    listed_same (length quiet) _ _ (λ k l. ap stands (at-filled no_span most_quiet (map span_by quiet) k)) ∙ quiet-listed quiet

-- what is kept by all holds of the one at each place
module _ (engines : ℕ) (q : Spans) (kept : QuietKept engines (quiet_in q)) where
  pub span-known : (k : ℕ) → k < q.count → Within 1 engines (quiet_at q k).engine
  unfolding quiet_in
  span-known = listed-each (λ (x : Quiet). Within 1 engines x.engine) q.count (λ k. quiet_at q k) kept.known

  pub span_in_range : (k : ℕ) → k < q.count → SpanInRange (quiet_at q k).span
  unfolding quiet_in
  span_in_range =
      listed-each (λ (x : Quiet). SpanInRange x.span) q.count (λ k. quiet_at q k) (span-ranges (quiet_in q) (λ n. (kept.ranges n).each))

spans-usable : (engines : ℕ) (quiet : List Quiet) → length quiet ≤ most_quiet → All (λ (q : Quiet). Within 1 engines q.engine) quiet
    → UsableSpans engines (spans_by quiet)
unfolding spans_by
spans-usable engines quiet few known =
    record {
      count = few;
      known = rw (quiet-by-value quiet) known;
      spans = length-filled no_span most_quiet (map span_by quiet) (omega (arith, length-map quiet span_by));
    }

-- an engine's figures stand at its place
pub figures-by-value : (watts fuels : List ℕ) (i : ℕ) → i < length watts
    → get_or (filled no_figures most_engines (figures_by watts fuels)) i no_figures ≡ figures_of watts fuels i
figures-by-value watts fuels i l =
    at-filled no_figures most_engines (figures_by watts fuels) i
    ∙ listed_at (max (length watts) (length fuels)) i (figures_of watts fuels) no_figures (omega arith)

-- ---- the numbers of an accepted call

module _ (call : Call) (ok : Accepted call) where
  engines-by-value : engines_in (by_value call).engines ≡ engines_of call.watts call.fuels (quiet_of call.quiet)
  unfolding by_value engines_in engine_in engines_of
  engines-by-value =
      listed_same (length call.watts) _ _
      (λ i l. rw (figures-by-value call.watts call.fuels i l, quiet-by-value (quiet_of call.quiet)) refl)

  deliveries-by-value : deliveries_in (by_value call).deliveries ≡ deliveries_of call.energies call.limits
  unfolding by_value deliveries_in delivery_in deliveries_of
  deliveries-by-value =
      listed_same (length call.energies) _ _
      (λ p l. rw (at-padded most_deliveries call.energies p, at-padded most_deliveries call.limits p))
      ∙ listed-pairs (λ (e l : ℕ). record { energy = e; limit = l }) call.energies call.limits ok.delivery_lists

  -- they stand for its plan ..
  pub by-value-plan : plan_in (by_value call) ≡ plan_of call
  unfolding plan_in plan_of by_value
  by-value-plan =
      ap₂ (λ (es : List Engine) (ds : List Delivery).
      record { mode = call.mode; minutes = call.minutes; allowance = call.allowance; engines = es; deliveries = ds })
      engines-by-value deliveries-by-value

  few-engines : length call.watts ≤ most_engines
  unfolding plan_of
  few-engines = omega (arith, ok.in_range.engine_count.most, engine-count call.watts call.fuels (quiet_of call.quiet))

  few-quiet : length (quiet_of call.quiet) ≤ most_quiet
  unfolding plan_of
  few-quiet =
      let spans = engines-quiet call.watts call.fuels (quiet_of call.quiet) ok.in_range.engines ok.quiet_engines in
      omega (arith, few-spans (length call.watts) (quiet_of call.quiet) ok.quiet_engines spans, few-engines)

  few-deliveries : length call.energies ≤ most_deliveries
  unfolding plan_of
  few-deliveries = omega (arith, ok.in_range.delivery_count.most, delivery-count call.energies call.limits ok.delivery_lists)

  -- .. and can be planned
  pub by-value-usable : Usable (by_value call)
  unfolding by_value plan_of
  by-value-usable =
      record {
        minutes = ok.in_range.minutes;
        allowance = ok.in_range.allowance;
        engines =
            record {
              count = rw (engine-count call.watts call.fuels (quiet_of call.quiet)) at ok.in_range.engine_count;
              ranges = rw engines-by-value ok.in_range.engines;
              figures =
                  length-filled no_figures most_engines (figures_by call.watts call.fuels)
                  (omega (arith, few-engines, ok.engine_lists, length-listed (max (length call.watts) (length call.fuels)) (figures_of call.watts call.fuels)));
              quiet = spans-usable (length call.watts) (quiet_of call.quiet) few-quiet ok.quiet_engines;
            };
        deliveries =
            record {
              count = rw (delivery-count call.energies call.limits ok.delivery_lists) at ok.in_range.delivery_count;
              ranges = rw deliveries-by-value ok.in_range.deliveries;
              energy = length-padded most_deliveries call.energies few-deliveries;
              limit = length-padded most_deliveries call.limits (omega (arith, few-deliveries, ok.delivery_lists));
            };
      }
