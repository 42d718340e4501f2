-- What finding a name among items and adding one to their columns comes to, in terms of the reading.
-- Assumes nothing.
use Rattle.std.specs.Prelude.{◌≡◌, Option, Result, Ok, Err, List, [], ℕ, ◌+◌, nat_eq, position, set}
use Rattle.std.specs.Range.{range_inclusive_start, range_inclusive_end}
use Rattle.std.specs.Cmp.Lexicographic.{pointwise}
use Rattle.planning.specs.declared.Fault.{Fault}
use Rattle.planfile.specs.Reading.{Read, accepted, fault, FourFields, Figures, read_item}
use Rattle.planreader.specs.declared.items.ItemFields.{ItemFields}
use Rattle.planreader.specs.declared.items.Items.{Items}
use Rattle.planreader.specs.declared.items.Rule.{Rule}
use Rattle.planreader.specs.Parts.{Whole}
use Rattle.planreader.specs.Plans.{names_in}

-- whole ranges
pub record Ruled (rule : Rule) : Type 0 where
  pub first : Whole rule.first
  pub second : Whole rule.second

-- a rule's ranges go from these numbers to those
pub record RuleOf (rule : Rule) (first last first2 last2 : ℕ) : Type 0 where
  pub low : range_inclusive_start rule.first ≡ first
  pub high : range_inclusive_end rule.first ≡ last
  pub low2 : range_inclusive_start rule.second ≡ first2
  pub high2 : range_inclusive_end rule.second ≡ last2

-- the first place where a name stands among others
abbrev pub place_among : (name : List ℕ) → (names : List (List ℕ)) → Option ℕ
place_among name names = position (λ (other : List ℕ). pointwise nat_eq name other) names

-- the reading of an item by a rule, and by three texts of its record
abbrev pub read_by : (most : ℕ) → Rule → (names : List (List ℕ)) → (r : ℕ) → FourFields → Read Figures
read_by most rule names r x =
    read_item most (range_inclusive_start rule.first) (range_inclusive_end rule.first) (range_inclusive_start rule.second) (range_inclusive_end rule.second)
    names r x

abbrev pub three_fields : (name third fourth : List ℕ) → FourFields
three_fields name third fourth = record { first = []; second = name; third = third; fourth = fourth }

-- those of a record
abbrev pub fields_in : ItemFields → FourFields
fields_in x = three_fields x.name.now x.third.now x.fourth.now

-- the columns with an item stored behind the others
unfoldable pub with_item : {most : ℕ} → (name : List ℕ) → Figures → Items most → Items most
with_item name v c =
    record {
      count = c.count + 1;
      names = set c.names c.count name;
      firsts = set c.firsts c.count v.first;
      seconds = set c.seconds c.count v.second;
    }

-- an item is added as the reading has it, or the reading has that fault and they stay
unfoldable pub Adds : {most : ℕ} → Rule → FourFields → (before after : Items most) → Result (Unit {0}) Fault → Type 0
Adds {most} rule x before after (Ok done) =
    (v : Figures) × ((r : ℕ) → read_by most rule (names_in before) r x ≡ accepted v) × (after ≡ with_item x.second v before)
Adds {most} rule x before after (Err what) = ((r : ℕ) → read_by most rule (names_in before) r x ≡ fault what r) × (after ≡ before)
