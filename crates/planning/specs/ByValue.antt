-- A plan by value, as the code has it behind the checks: the plan that it stands for, when it can be planned, and the one that a call's
-- numbers make up.
-- Assumes nothing.
use Rattle.std.specs.Prelude.{◌≡◌, List, map, ℕ, suc, ◌≤◌, max, length, get_or}
use Rattle.planning.specs.declared.Deliveries.{Deliveries}
use Rattle.planning.specs.declared.EngineFigures.{EngineFigures}
use Rattle.planning.specs.declared.Engines.{Engines}
use Rattle.planning.specs.declared.Plan.{Plan as ByValue}
use Rattle.planning.specs.declared.QuietSpan.{QuietSpan}
use Rattle.planning.specs.declared.Spans.{Spans}
use Rattle.planning.specs.Bounds.{most_engines, most_deliveries, most_quiet, most_minutes, most_tries}
use Rattle.planning.specs.Numbers.{Call, quiet_of}
use Rattle.planning.specs.Plan.{Plan, Engine, Delivery, All, Within, EngineInRange, DeliveryInRange}
use Rattle.planning.specs.Quiet.{Quiet, spans_of}
use Rattle.planning.specs.Tables.{at, listed, filled, padded}

-- ---- the plan that it stands for

-- what stands behind those that are counted
abbrev pub no_span : QuietSpan ℕ
no_span = record { engine = 0; from = 0; to = 0 }

abbrev pub no_figures : EngineFigures
no_figures = record { watts = 0; fuel = 0 }

-- the quiet span at a place, and as many as are counted
unfoldable pub quiet_at : Spans → (k : ℕ) → Quiet
quiet_at q k = let s = get_or q.spans k no_span in record { engine = s.engine; span = record { from = s.from; to = s.to } }

unfoldable pub quiet_in : Spans → List Quiet
quiet_in q = listed q.count (λ k. quiet_at q k)

-- the engine with its spans, and the delivery, at a place
unfoldable pub engine_in : Engines → (i : ℕ) → Engine
engine_in e i =
    let f = get_or e.figures i no_figures in record { watts = f.watts; fuel = f.fuel; quiet = spans_of (suc i) (quiet_in e.quiet) }

unfoldable pub delivery_in : Deliveries → (p : ℕ) → Delivery
delivery_in d p = record { energy = at d.energy p; limit = at d.limit p }

-- as many of them as are counted, in file order
unfoldable pub engines_in : Engines → List Engine
engines_in e = listed e.count (λ i. engine_in e i)

unfoldable pub deliveries_in : Deliveries → List Delivery
deliveries_in d = listed d.count (λ p. delivery_in d p)

unfoldable pub plan_in : ByValue → Plan
plan_in p =
    record {
      mode = p.mode;
      minutes = p.minutes;
      allowance = p.allowance;
      engines = engines_in p.engines;
      deliveries = deliveries_in p.deliveries;
    }

-- ---- when it can be planned: counts and ranges are document 01's, and every array is full

pub record UsableSpans (engines : ℕ) (q : Spans) : Type 0 where
  pub count : q.count ≤ most_quiet
  pub known : All (λ (x : Quiet). Within 1 engines x.engine) (quiet_in q)
  pub spans : length q.spans ≡ most_quiet

pub record UsableEngines (e : Engines) : Type 0 where
  pub count : Within 1 most_engines e.count
  pub ranges : All EngineInRange (engines_in e)
  pub figures : length e.figures ≡ most_engines
  pub quiet : UsableSpans e.count e.quiet

pub record UsableDeliveries (d : Deliveries) : Type 0 where
  pub count : Within 0 most_deliveries d.count
  pub ranges : All DeliveryInRange (deliveries_in d)
  pub energy : length d.energy ≡ most_deliveries
  pub limit : length d.limit ≡ most_deliveries

pub record Usable (p : ByValue) : Type 0 where
  pub minutes : Within 1 most_minutes p.minutes
  pub allowance : Within 0 most_tries p.allowance
  pub engines : UsableEngines p.engines
  pub deliveries : UsableDeliveries p.deliveries

-- ---- the numbers of a call by value: what its lists have at each place, zeros behind them

abbrev pub span_by : Quiet → QuietSpan ℕ
span_by q = record { engine = q.engine; from = q.span.from; to = q.span.to }

unfoldable pub spans_by : List Quiet → Spans
spans_by quiet = record { count = length quiet; spans = filled no_span most_quiet (map span_by quiet) }

abbrev pub figures_of : (watts fuels : List ℕ) → (i : ℕ) → EngineFigures
figures_of watts fuels i = record { watts = at watts i; fuel = at fuels i }

abbrev pub figures_by : (watts fuels : List ℕ) → List EngineFigures
figures_by watts fuels = listed (max (length watts) (length fuels)) (figures_of watts fuels)

unfoldable pub by_value : Call → ByValue
by_value call =
    record {
      mode = call.mode;
      minutes = call.minutes;
      allowance = call.allowance;
      engines =
          record {
            count = length call.watts;
            figures = filled no_figures most_engines (figures_by call.watts call.fuels);
            quiet = spans_by (quiet_of call.quiet);
          };
      deliveries =
          record {
            count = length call.energies;
            energy = padded most_deliveries call.energies;
            limit = padded most_deliveries call.limits;
          };
    }
