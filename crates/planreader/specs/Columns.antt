-- What `read` hands back of a file, as a value: the plan in columns, or a refusal.
-- Assumes nothing.
use Rattle.std.specs.Prelude.{ℕ, ◌-◌, List, [], ◌∷◌, ◌++◌, map, length, replicate, Result, Ok, Err}
use Rattle.planning.specs.declared.Refusal.{Refusal}
use Rattle.planning.specs.Bounds.{most_engines, most_quiet, most_deliveries}
use Rattle.planning.specs.Quiet.{Quiet}
use Rattle.planning.specs.Tables.{filled, padded}
use Rattle.planfile.specs.FilePlan.{FilePlan, NamedEngine, NamedDelivery}
use Rattle.planfile.specs.Reading.{Read, refused, accepted}
use Rattle.planreader.specs.declared.FilePlan.{FilePlan as ByValue}
use Rattle.planreader.specs.declared.items.Items.{Items}

-- an engine or a delivery: a name and two numbers
pub record Item : Type 0 where
  pub name : List ℕ
  pub first : ℕ
  pub second : ℕ

abbrev pub engine_item : NamedEngine → Item
engine_item e = record { name = e.name; first = e.watts; second = e.fuel }

abbrev pub delivery_item : NamedDelivery → Item
delivery_item d = record { name = d.name; first = d.delivery.energy; second = d.delivery.limit }

-- a list of names made n long with names that have no byte
unfoldable pub unnamed_behind : (n : ℕ) → List (List ℕ) → List (List ℕ)
unnamed_behind n names = names ++ replicate (n - length names) []

-- items in columns with places for the most of them: how many there are, their names, and their two numbers; filled from the front, behind them no
-- bytes and 0
unfoldable pub columns_of : (most : ℕ) → List Item → Items most
columns_of most items =
    record {
      count = length items;
      names = unnamed_behind most (map (λ (i : Item). i.name) items);
      firsts = padded most (map (λ (i : Item). i.first) items);
      seconds = padded most (map (λ (i : Item). i.second) items);
    }

-- the three numbers of a quiet span
abbrev pub three_of : Quiet → List ℕ
three_of q = q.engine ∷ q.span.from ∷ q.span.to ∷ []

-- the columns of a plan's engines, of its quiet spans, three numbers each, and of its deliveries
abbrev pub engine_columns_of : List NamedEngine → Items most_engines
engine_columns_of engines = columns_of most_engines (map engine_item engines)

abbrev pub quiet_column_of : List Quiet → List (List ℕ)
quiet_column_of quiet = filled (0 ∷ 0 ∷ 0 ∷ []) most_quiet (map three_of quiet)

abbrev pub delivery_columns_of : List NamedDelivery → Items most_deliveries
delivery_columns_of deliveries = columns_of most_deliveries (map delivery_item deliveries)

-- a plan by value
unfoldable pub by_value : FilePlan → ByValue
by_value f =
    record {
      mode = f.mode;
      minutes = f.minutes;
      allowance = f.allowance;
      engines = engine_columns_of f.engines;
      spans = length f.quiet;
      quiet = quiet_column_of f.quiet;
      deliveries = delivery_columns_of f.deliveries;
    }

-- what a file is read as
unfoldable pub reading_of : Read FilePlan → Result ByValue Refusal
reading_of (refused refusal) = Err refusal
reading_of (accepted f) = Ok (by_value f)
