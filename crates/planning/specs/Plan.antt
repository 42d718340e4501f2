-- A plan: what a file, or a call on numbers, asks for. Names are the file's matter and have no part here.
-- Assumes nothing.
use Rattle.std.specs.Prelude.{ℕ, ◌≤◌, ◌<◌, ◌≡◌, true, List, [], ◌∷◌, map, length}
use Rattle.planning.specs.declared.Mode.{Mode}
use Rattle.planning.specs.Bounds.{most_engines, most_deliveries, most_spans, most_minutes, most_tries, most_watts, most_fuel, most_energy, most_limit}
use Rattle.planning.specs.Quiet.{Span, lies}

-- "engine,NAME,WATTS,FUEL", and its quiet spans (document 02, K1)
pub record Engine : Type 0 where
  pub watts : ℕ
  pub fuel : ℕ
  pub quiet : List Span

-- "delivery,NAME,ENERGY,LIMIT"
pub record Delivery : Type 0 where
  pub energy : ℕ
  pub limit : ℕ

-- "plan,MODE,MINUTES,TRIES" with the engines and the deliveries in file order; TRIES is the allowance
pub record Plan : Type 0 where
  pub mode : Mode
  pub minutes : ℕ
  pub allowance : ℕ
  pub engines : List Engine
  pub deliveries : List Delivery

-- the energies and the limits of the deliveries, in file order
abbrev pub energies : Plan → List ℕ
energies plan = map (λ (d : Delivery). d.energy) plan.deliveries

abbrev pub limits : Plan → List ℕ
limits plan = map (λ (d : Delivery). d.limit) plan.deliveries

-- a predicate of every member of a list
abbrev pub All : {A : Type 0} → (A → Type 0) → List A → Type 0
All P [] = Unit {0}
All P (x ∷ xs) = P x × All P xs

-- n is low to high
pub record Within (low high n : ℕ) : Type 0 where
  pub least : low ≤ n
  pub most : n ≤ high

-- FROM and TO "0 to 10,080" (document 02, K1), and FROM below TO
pub record SpanInRange (s : Span) : Type 0 where
  pub from : Within 0 most_minutes s.from
  pub to : Within 0 most_minutes s.to
  pub below : s.from < s.to

-- two spans do not overlap: no minute lies in both, so touching is fine
abbrev pub Apart : Span → Span → Type 0
Apart s t = (m : ℕ) → lies m s ≡ true → lies m t ≡ true → ⊥

-- no two of a list of spans overlap
abbrev pub AllApart : List Span → Type 0
AllApart [] = Unit {0}
AllApart (s ∷ spans) = All (Apart s) spans × AllApart spans

-- an engine's spans: "at most eight", each in range, none overlapping another
pub record QuietInRange (spans : List Span) : Type 0 where
  pub count : length spans ≤ most_spans
  pub each : All SpanInRange spans
  pub apart : AllApart spans

-- "WATTS 0 to 5,000,000; FUEL .. 0 to 1,000,000,000."
pub record EngineInRange (e : Engine) : Type 0 where
  pub watts : Within 0 most_watts e.watts
  pub fuel : Within 0 most_fuel e.fuel
  pub quiet : QuietInRange e.quiet

-- "ENERGY 1 to 1,000,000,000 Wh; LIMIT .. 1 to 12."
pub record DeliveryInRange (d : Delivery) : Type 0 where
  pub energy : Within 1 most_energy d.energy
  pub limit : Within 1 most_limit d.limit

-- the counts and ranges of document 01's "The file", as a plain predicate: no order of checks in it
pub record InRange (plan : Plan) : Type 0 where
  pub minutes : Within 1 most_minutes plan.minutes
  pub allowance : Within 0 most_tries plan.allowance
  pub engine_count : Within 1 most_engines (length plan.engines)
  pub delivery_count : Within 0 most_deliveries (length plan.deliveries)
  pub engines : All EngineInRange plan.engines
  pub deliveries : All DeliveryInRange plan.deliveries
