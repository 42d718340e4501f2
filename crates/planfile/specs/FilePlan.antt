-- The plan that a file holds, with its names (document 01, "The file"; document 02, K1).
-- Assumes nothing.
use Rattle.std.specs.Prelude.{ℕ, List, [], ◌∷◌, ◌++◌, map, get_or}
use Rattle.planning.specs.declared.Mode.{Mode}
use Rattle.planning.specs.Numbers.{engines_of}
use Rattle.planning.specs.Plan.{Plan, Delivery}
use Rattle.planning.specs.Quiet.{Quiet}

-- "engine,NAME,WATTS,FUEL"
pub record NamedEngine : Type 0 where
  pub name : List ℕ
  pub watts : ℕ
  pub fuel : ℕ

-- "delivery,NAME,ENERGY,LIMIT"
pub record NamedDelivery : Type 0 where
  pub name : List ℕ
  pub delivery : Delivery

-- "plan,MODE,MINUTES,TRIES", the engines, the quiet spans and the deliveries, each in file order. "quiet,ENGINE,FROM,TO": a span with the number of
-- its engine, the first of the file being 1.
pub record FilePlan : Type 0 where
  pub mode : Mode
  pub minutes : ℕ
  pub allowance : ℕ
  pub engines : List NamedEngine
  pub quiet : List Quiet
  pub deliveries : List NamedDelivery

-- an engine or a delivery by its fields
abbrev pub engine_of : (name : List ℕ) → (watts fuel : ℕ) → NamedEngine
engine_of name watts fuel = record { name = name; watts = watts; fuel = fuel }

abbrev pub delivery_of : (name : List ℕ) → (energy limit : ℕ) → NamedDelivery
delivery_of name energy limit = record { name = name; delivery = record { energy = energy; limit = limit } }

-- the plan behind record 1, and behind one engine, quiet span or delivery more
abbrev pub begun : Mode → (minutes allowance : ℕ) → FilePlan
begun mode minutes allowance = record { mode = mode; minutes = minutes; allowance = allowance; engines = []; quiet = []; deliveries = [] }

abbrev pub with_engine : FilePlan → NamedEngine → FilePlan
with_engine f e =
    record {
      mode = f.mode;
      minutes = f.minutes;
      allowance = f.allowance;
      engines = f.engines ++ e ∷ [];
      quiet = f.quiet;
      deliveries = f.deliveries;
    }

abbrev pub with_quiet : FilePlan → Quiet → FilePlan
with_quiet f q =
    record {
      mode = f.mode;
      minutes = f.minutes;
      allowance = f.allowance;
      engines = f.engines;
      quiet = f.quiet ++ q ∷ [];
      deliveries = f.deliveries;
    }

abbrev pub with_delivery : FilePlan → NamedDelivery → FilePlan
with_delivery f d =
    record {
      mode = f.mode;
      minutes = f.minutes;
      allowance = f.allowance;
      engines = f.engines;
      quiet = f.quiet;
      deliveries = f.deliveries ++ d ∷ [];
    }

-- the plan without its names: each engine with its own spans
unfoldable pub unnamed : FilePlan → Plan
unnamed f =
    record {
      mode = f.mode;
      minutes = f.minutes;
      allowance = f.allowance;
      engines = engines_of (map (λ (e : NamedEngine). e.watts) f.engines) (map (λ (e : NamedEngine). e.fuel) f.engines) f.quiet;
      deliveries = map (λ (d : NamedDelivery). d.delivery) f.deliveries;
    }

-- the names in file order
abbrev pub engine_names : FilePlan → List (List ℕ)
engine_names f = map (λ (e : NamedEngine). e.name) f.engines

abbrev pub delivery_names : FilePlan → List (List ℕ)
delivery_names f = map (λ (d : NamedDelivery). d.name) f.deliveries

-- the name at a place in file order
abbrev pub name_at : List (List ℕ) → ℕ → List ℕ
name_at names p = get_or names p []
