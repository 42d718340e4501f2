-- Columns filled from the front, item by item: what one item more makes of them, and that they are read back as the items that they were made of.
-- Assumes nothing.
use Rattle.std.specs.Prelude.{◌≡◌, refl, ℕ, ◌+◌, ◌-◌, ◌≤◌, ◌<◌, set, get_or, replicate}
use Rattle.std.proofs.Math.Path.{sym, ap}
use Rattle.std.proofs.Math.Nat.{sub-zero}
use Rattle.std.proofs.Common.{ap₂, ◌∙◌, arith, length-append, take_at}
use mathlib.Core.List.{List, [], ◌∷◌, ◌++◌, map, map-append}
use Rattle.std.proofs.Math.ListN.{length, length-map}
use Rattle.std.proofs.lemmas.List.{length-replicate}
use Rattle.planning.proofs.Laws.All.{all_append}
use Rattle.planning.proofs.Laws.Padded.{length-padded}
use Rattle.planning.specs.Plan.{All}
use Rattle.planning.specs.Tables.{at, listed, padded}
use Rattle.planfile.specs.Bounds.{most_name_bytes}
use Rattle.planfile.specs.Reading.{Figures}
use Rattle.planreader.specs.declared.items.Items.{Items}
use Rattle.planreader.specs.Columns.{Item, unnamed_behind, columns_of}
use Rattle.planreader.specs.Items.{with_item}
use Rattle.planreader.specs.Laws.Padding.{stored-behind, padded-set}
use Rattle.planreader.specs.Plans.{names_in, items_in, Holding}
use Rattle.planreader.specs.Records.{Filled}

-- an item of that name and those numbers
abbrev pub item_of : (name : List ℕ) → Figures → Item
item_of name v = record { name = name; first = v.first; second = v.second }

-- ---- one item more

module _ (most : ℕ) (items : List Item) (name : List ℕ) (v : Figures) (room : length items < most) where
  names-more : set (unnamed_behind most (map (λ (i : Item). i.name) items)) (length items) name
      ≡ unnamed_behind most (map (λ (i : Item). i.name) (items ++ item_of name v ∷ []))
  unfolding unnamed_behind
  names-more =
      stored-behind [] most (length items) (map (λ (i : Item). i.name) items) name (sym (length-map items (λ (i : Item). i.name))) room
      ∙ ap (λ (names : List (List ℕ)). names ++ replicate (most - length names) []) (sym (map-append (λ (i : Item). i.name) items (item_of name v ∷ [])))

  numbers-more : (number : Item → ℕ) → set (padded most (map number items)) (length items) (number (item_of name v))
      ≡ padded most (map number (items ++ item_of name v ∷ []))
  numbers-more number =
      padded-set most (length items) (map number items) (number (item_of name v)) (sym (length-map items number)) room
      ∙ ap (padded most) (sym (map-append number items (item_of name v ∷ [])))

  pub columns-more : with_item name v (columns_of most items) ≡ columns_of most (items ++ item_of name v ∷ [])
  unfolding with_item columns_of
  columns-more =
      let count : length items + 1 ≡ length (items ++ item_of name v ∷ []) = omega (arith, length-append items (item_of name v ∷ [])) in
      rw (names-more, numbers-more (λ i. i.first), numbers-more (λ i. i.second), count)

-- names without a byte and zeros hold nothing
abbrev pub empty_columns : (most : ℕ) → Items most
empty_columns most = record { count = 0; names = replicate most []; firsts = replicate most 0; seconds = replicate most 0 }

pub columns-nothing : (most : ℕ) → empty_columns most ≡ columns_of most []
unfolding columns_of unnamed_behind padded
columns-nothing most = rw (sub-zero most)

pub filled-nothing : (most : ℕ) → Filled [] (empty_columns most)
filled-nothing most = record { room = omega arith; short = tt; columns = columns-nothing most }

-- columns with one item more
pub filled_more : {most : ℕ} {items : List Item} {c : Items most} (name : List ℕ) (v : Figures) → Filled items c → length items < most
    → length name ≤ most_name_bytes → Filled (items ++ item_of name v ∷ []) (with_item name v c)
filled_more {most} {items} {c} name v f room fits =
    record {
      room = omega (arith, length-append items (item_of name v ∷ []));
      short = (all_append (λ (i : Item). length i.name ≤ most_name_bytes) items _).1 (f.short, (fits, tt));
      columns = ap (with_item name v) f.columns ∙ columns-more most items name v room;
    }

-- ---- read back

items_back : {A : Type 0} (make : List ℕ → ℕ → ℕ → A) (items : List Item) (names : List (List ℕ)) (firsts seconds : List ℕ)
    → listed (length items)
    (λ k.
    make (get_or (map (λ (i : Item). i.name) items ++ names) k []) (at (map (λ (i : Item). i.first) items ++ firsts) k)
    (at (map (λ (i : Item). i.second) items ++ seconds) k))
    ≡ map (λ (i : Item). make i.name i.first i.second) items
unfolding listed
items_back make [] names firsts seconds = refl
items_back make (item ∷ items) names firsts seconds = ap₂ ◌∷◌ refl (items_back make items names firsts seconds)

all-names : (items : List Item) → All (λ (i : Item). length i.name ≤ most_name_bytes) items
    → All (λ (name : List ℕ). length name ≤ most_name_bytes) (map (λ (i : Item). i.name) items)
all-names [] s = tt
all-names (item ∷ items) s = (s.0, all-names items s.1)

module _ {most : ℕ} {items : List Item} {c : Items most} (f : Filled items c) where
  -- how many there are
  pub filled-count : c.count ≡ length items
  unfolding columns_of
  filled-count = rw f.columns

  -- the items in columns
  pub filled_items : {A : Type 0} (make : List ℕ → ℕ → ℕ → A) → items_in make c ≡ map (λ (i : Item). make i.name i.first i.second) items
  unfolding items_in columns_of padded unnamed_behind
  filled_items make = rw f.columns (items_back make items _ _ _)

  -- and their names
  pub filled-names : names_in c ≡ map (λ (i : Item). i.name) items
  unfolding columns_of unnamed_behind
  filled-names = rw f.columns (take_at (map (λ (i : Item). i.name) items) _ (length items) (length-map items (λ (i : Item). i.name)))

  pub filled-short : All (λ (name : List ℕ). length name ≤ most_name_bytes) (names_in c)
  filled-short = rw filled-names (all-names items f.short)

  -- the columns are whole
  pub filled-holding : Holding c
  unfolding columns_of
  filled-holding =
      record {
        room = omega (arith, filled-count, f.room);
        names = rw f.columns names-whole;
        firsts = rw f.columns (numbers-whole (λ i. i.first));
        seconds = rw f.columns (numbers-whole (λ i. i.second));
        short = filled-short;
      }
    where
      numbers-whole : (number : Item → ℕ) → length (padded most (map number items)) ≡ most
      numbers-whole number = length-padded most (map number items) (omega (arith, length-map items number, f.room))

      names-whole : length (unnamed_behind most (map (λ (i : Item). i.name) items)) ≡ most
      names-whole =
          unfold unnamed_behind in
          omega (
            arith,
            f.room,
            length-map items (λ (i : Item). i.name),
            length-append (map (λ (i : Item). i.name) items) (replicate (most - length (map (λ (i : Item). i.name) items)) []),
            length-replicate {A = List ℕ} (most - length (map (λ (i : Item). i.name) items)) [],
          )
