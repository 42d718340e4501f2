-- The plan that a struct by value stands for, read off its columns, and that it is one to be planned and printed.
-- Assumes nothing.
use Rattle.std.specs.Prelude.{◌≡◌, List, [], ℕ, ◌≤◌, length, take, get_or}
use Rattle.std.specs.List.{flat_map}
use Rattle.planning.specs.Bounds.{most_quiet}
use Rattle.planning.specs.Numbers.{quiet_of}
use Rattle.planning.specs.Plan.{All, Within, QuietInRange, InRange}
use Rattle.planning.specs.Quiet.{Quiet, spans_of}
use Rattle.planning.specs.Tables.{at, listed}
use Rattle.planfile.specs.Bounds.{most_name_bytes}
use Rattle.planfile.specs.FilePlan.{FilePlan, engine_of, delivery_of, engine_names, delivery_names, unnamed}
use Rattle.planfile.specs.Holding.{SoundName, Unlike}
use Rattle.planreader.specs.declared.FilePlan.{FilePlan as ByValue}
use Rattle.planreader.specs.declared.items.Items.{Items}

-- the names of items in columns
abbrev pub names_in : {most : ℕ} → Items most → List (List ℕ)
names_in c = take c.count c.names

-- the items, made of their names and numbers
unfoldable pub items_in : {A : Type 0} {most : ℕ} → (make : List ℕ → ℕ → ℕ → A) → Items most → List A
items_in make c = listed c.count (λ k. make (get_or c.names k []) (at c.firsts k) (at c.seconds k))

-- whole columns, of which so many places are filled
pub record Holding {most : ℕ} (c : Items most) : Type 0 where
  pub room : c.count ≤ most
  pub names : length c.names ≡ most
  pub firsts : length c.firsts ≡ most
  pub seconds : length c.seconds ≡ most
  pub short : All (λ (name : List ℕ). length name ≤ most_name_bytes) (names_in c)

-- the numbers of the first n quiet spans of a column that has three for each, one behind the other, and those spans
abbrev pub numbers_in : (n : ℕ) → (column : List (List ℕ)) → List ℕ
numbers_in n column = flat_map (λ three. three) (take n column)

abbrev pub quiet_in : (n : ℕ) → (column : List (List ℕ)) → List Quiet
quiet_in n column = quiet_of (numbers_in n column)

-- a column with places for the most quiet spans, of which the first n are filled: each is one of so many engines, and each engine's are in range
pub record QuietHeld (engines n : ℕ) (column : List (List ℕ)) : Type 0 where
  pub room : n ≤ most_quiet
  pub whole : length column ≡ most_quiet
  pub threes : All (λ (three : List ℕ). length three ≡ 3) column
  pub known : All (λ (q : Quiet). Within 1 engines q.engine) (quiet_in n column)
  pub ranges : (i : ℕ) → QuietInRange (spans_of i (quiet_in n column))

-- the plan
abbrev pub plan_by : ByValue → FilePlan
plan_by p =
    record {
      mode = p.mode;
      minutes = p.minutes;
      allowance = p.allowance;
      engines = items_in engine_of p.engines;
      quiet = quiet_in p.spans p.quiet;
      deliveries = items_in delivery_of p.deliveries;
    }

-- a plan by value whose columns are whole and whose plan is in range, its names sound, each used once
pub record UsablePlan (p : ByValue) : Type 0 where
  pub engines : Holding p.engines
  pub quiet : QuietHeld p.engines.count p.spans p.quiet
  pub deliveries : Holding p.deliveries
  pub in_range : InRange (unnamed (plan_by p))
  pub engines_named : All SoundName (engine_names (plan_by p))
  pub deliveries_named : All SoundName (delivery_names (plan_by p))
  pub engines_unlike : Unlike (engine_names (plan_by p))
  pub deliveries_unlike : Unlike (delivery_names (plan_by p))
