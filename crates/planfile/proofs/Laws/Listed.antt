-- Engines and deliveries alike: what a list of named items has to keep, and that one item more is read exactly where the list with
-- it keeps it too.
-- Assumes nothing.
use Rattle.std.specs.Prelude.{◌≡◌, refl, ◌↔◌, ℕ, ◌≤◌, ◌<◌, List, [], ◌∷◌, ◌++◌, map, length}
use Rattle.std.proofs.Common.{sym, subst, arith, length-append}
use Rattle.std.proofs.Math.Logic.Iff
use Rattle.std.proofs.Math.Bool.{and-eq-true_iff}
use Rattle.std.proofs.lemmas.List.{map-append, length-map}
use Rattle.planning.specs.Plan.{All, Within}
use Rattle.planning.proofs.Laws.All.{all_append}
use Rattle.planning.proofs.Laws.Numbers.{ltb_iff}
use Rattle.planfile.specs.Holding.{SoundName, Unlike}
use Rattle.planfile.specs.Numerals.{Numeral}
use Rattle.planfile.specs.Reading.{accepted, FourFields, Figures, read_item}
use Rattle.planfile.proofs.Laws.Tests.{sound-name-iff, unused-iff, accepted-iff, bind_iff, require-iff, read-number-iff}

-- ---- lists one behind the other

all_mapped : {A B : Type 0} (P : B → Type 0) (h : A → B) (xs ys : List A) → All P (map h (xs ++ ys)) ↔ (All P (map h xs) × All P (map h ys))
all_mapped P h xs ys = rw (map-append h xs ys) (all_append P (map h xs) (map h ys))

unlike-front : (names more : List (List ℕ)) → Unlike (names ++ more) → Unlike names
unlike-front [] more u = tt
unlike-front (name ∷ names) more u = (((all_append _ names more).0 u.0).0, unlike-front names more u.1)

unlike-more : (names : List (List ℕ)) (name : List ℕ) → Unlike (names ++ name ∷ []) ↔ (Unlike names × All (λ other. name ≡ other → ⊥) names)
unlike-more [] name = (λ u. (tt, tt), λ u. (tt, tt))
unlike-more (first ∷ names) name =
    let firsts = all_append (λ other. first ≡ other → ⊥) names (name ∷ []) in
    let others = unlike-more names name in (
      λ u. (((firsts.0 u.0).0, (others.0 u.1).0), (λ e. (firsts.0 u.0).1.0 (sym e), (others.0 u.1).1)),
      λ u. (firsts.1 (u.0.0, (λ e. u.1.0 (sym e), tt)), others.1 (u.0.1, u.1.1)),
    )

-- ---- named items

-- a list of named items within its count, each in range and soundly named, no two named alike
pub record Listed {A B : Type 0} (name : A → List ℕ) (content : A → B) (Fits : B → Type 0) (most : ℕ) (items : List A) : Type 0 where
  pub count : length items ≤ most
  pub in_range : All Fits (map content items)
  pub named : All SoundName (map name items)
  pub unlike : Unlike (map name items)

-- an item that may stand behind them
record Joins {A B : Type 0} (name : A → List ℕ) (content : A → B) (Fits : B → Type 0) (most : ℕ) (items : List A) (item : A) : Type 0 where
  room : length items < most
  in_range : Fits (content item)
  named : SoundName (name item)
  unused : All (λ other. name item ≡ other → ⊥) (map name items)

-- an item is accepted where there is room, the name is sound and not used, and two numerals stand for numbers in range
pub read_item_iff : (most low high low' high' : ℕ) (names : List (List ℕ)) (r : ℕ) (x : FourFields) (v : Figures)
    → (read_item most low high low' high' names r x ≡ accepted v)
    ↔ ((length names < most)
    × ((SoundName x.second × All (λ other. x.second ≡ other → ⊥) names)
    × ((n : ℕ) × (Numeral x.third n × Within low high n)
    × ((m : ℕ) × (Numeral x.fourth m × Within low' high' m) × (◌≡◌ {A = Figures} (record { first = n; second = m }) v)))))
unfolding read_item
read_item_iff most low high low' high' names r x v =
    simp (require-iff, ltb_iff, and-eq-true_iff, sound-name-iff, unused-iff, bind_iff, read-number-iff, accepted-iff) Iff.rfl

module _ {A B : Type 0} (name : A → List ℕ) (content : A → B) (Fits : B → Type 0) (most : ℕ) where
  -- the items at the front of a list that keeps all this keep it
  pub listed-front : (items more : List A) → Listed name content Fits most (items ++ more) → Listed name content Fits most items
  listed-front items more l =
      record {
        count = omega (arith, length-append items more, l.count);
        in_range = ((all_mapped Fits content items more).0 l.in_range).0;
        named = ((all_mapped SoundName name items more).0 l.named).0;
        unlike = unlike-front (map name items) (map name more) (rw map-append at l.unlike);
      }

  -- a list with one item more keeps it where the list does and the item may stand behind it
  listed_more : (items : List A) (item : A)
      → Listed name content Fits most (items ++ item ∷ []) ↔ (Listed name content Fits most items × Joins name content Fits most items item)
  listed_more items item =
      let names = unlike-more (map name items) (name item) in (
        λ l. (
          listed-front items (item ∷ []) l,
          record {
            room = omega (arith, length-append items (item ∷ []), l.count);
            in_range = ((all_mapped Fits content items (item ∷ [])).0 l.in_range).1.0;
            named = ((all_mapped SoundName name items (item ∷ [])).0 l.named).1.0;
            unused = (names.0 (rw map-append at l.unlike)).1;
          },
        ),
        λ both.
            let l = both.0 in
            let j = both.1 in
            record {
              count = omega (arith, length-append items (item ∷ []), j.room);
              in_range = (all_mapped Fits content items (item ∷ [])).1 (l.in_range, (j.in_range, tt));
              named = (all_mapped SoundName name items (item ∷ [])).1 (l.named, (j.named, tt));
              unlike = rw map-append (names.1 (l.unlike, j.unused));
            },
      )

  -- where an item is made of a name and two numbers, and fits where both are in their ranges
  module _ (low high low' high' : ℕ) (make : List ℕ → ℕ → ℕ → A) (made : (text : List ℕ) (n m : ℕ) → name (make text n m) ≡ text)
      (fits : (text : List ℕ) (n m : ℕ) → Fits (content (make text n m)) ↔ (Within low high n × Within low' high' m)) where
    -- behind items that keep all this, an item is read where its numbers are numerals and the items with it keep it
    pub item_iff : (items : List A) (r : ℕ) (x : FourFields) (v : Figures) → Listed name content Fits most items
        → (read_item most low high low' high' (map name items) r x ≡ accepted v)
        ↔ (Numeral x.third v.first × Numeral x.fourth v.second
        × Listed name content Fits most (items ++ make x.second v.first v.second ∷ []))
    item_iff items r x v l =
        Iff.trans (read_item_iff most low high low' high' (map name items) r x v) (
          λ (room, ((sound, unlike), (n, (p, s), (m, (q, t), found)))).
              let joins : Joins name content Fits most items (make x.second n m) =
              record { room = rw length-map at room; in_range = (fits x.second n m).1 (s, t); named = rw made sound; unused = rw made unlike } in
              subst
              (λ (v : Figures).
              Numeral x.third v.first × Numeral x.fourth v.second
              × Listed name content Fits most (items ++ make x.second v.first v.second ∷ []))
              found (p, q, (listed_more items (make x.second n m)).1 (l, joins)),
          λ (p, q, more).
              let joins = ((listed_more items (make x.second v.first v.second)).0 more).1 in
              let (s, t) = (fits x.second v.first v.second).0 joins.in_range in
              (rw length-map joins.room, ((rw made at joins.named, rw made at joins.unused), (v.first, (p, s), (v.second, (q, t), refl)))),
        )
