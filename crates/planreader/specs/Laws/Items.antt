-- An item of a record, one check after the other, and the columns with it. Assumes nothing.
use Rattle.std.specs.Prelude.{◌≡◌, ◌⊎◌, Bool, true, false, ◌&&◌, None, Some, Result, Ok, Err, List, [], ◌∷◌, ◌++◌, map, ℕ, ◌≤◌, ◌<◌, length, ltb}
use Rattle.std.proofs.Math.Path.{refl, sym}
use Rattle.std.proofs.Common.{◌∙◌, inl, inr, arith}
use Rattle.std.proofs.Math.ListN.{length-map}
use Rattle.planning.specs.declared.Fault.{Fault}
use Rattle.planning.specs.declared.Fault.TheVariants.{Count, Name, Value}
use Rattle.planning.proofs.Laws.Finite.Decisions.{le-or-lt}
use Rattle.planfile.specs.Bounds.{most_name_bytes}
use Rattle.planfile.proofs.Laws.Listed.{read_item_iff}
use Rattle.planfile.specs.Numerals.{number_of}
use Rattle.planfile.specs.Reading.{Read, accepted, ◌>>=◌, fault, require, read_number, FourFields, Figures, sound_name, unused, read_item}
use Rattle.planreader.specs.declared.items.Items.{Items}
use Rattle.planreader.specs.declared.items.Rule.{Rule}
use Rattle.planreader.specs.Columns.{Item}
use Rattle.planreader.specs.Items.{RuleOf, read_by, three_fields, Adds}
use Rattle.planreader.specs.Laws.Columns.{item_of, filled-names, filled_more}
use Rattle.planreader.specs.Laws.Names.{name_checked}
use Rattle.planreader.specs.Laws.Parts.{by_ranged, read-in-range}
use Rattle.planreader.specs.Plans.{names_in}
use Rattle.planreader.specs.Fields.{NameFor}
use Rattle.planreader.specs.Parts.{ranged_in}
use Rattle.planreader.specs.Records.{Filled}
use Rattle.planreader.specs.Results.{Ranged}

-- ---- the checks

-- one after the other: whether there is room, whether the name is sound and new, and the two numbers in their ranges
unfoldable pub item_by : (room named : Bool) → (first second : Ranged) → (r : ℕ) → Read Figures
item_by false named first second r = fault Count r
item_by true false first second r = fault Name r
item_by true true None second r = fault Value r
item_by true true (Some a) None r = fault Value r
item_by true true (Some a) (Some b) r = accepted (record { first = a; second = b })

item-checked : (most : ℕ) (rule : Rule) (names : List (List ℕ)) (r : ℕ) (x : FourFields) → read_by most rule names r x
    ≡ item_by (ltb (length names) most) (sound_name x.second && unused x.second names) (ranged_in rule.first x.third) (ranged_in rule.second x.fourth) r
unfolding read_item
item-checked most rule names r x =
    rw (read-in-range rule.first r x.third, read-in-range rule.second r x.fourth)
    (go (ltb (length names) most) (sound_name x.second && unused x.second names) (ranged_in rule.first x.third) (ranged_in rule.second x.fourth))
  where
    go : (room named : Bool) (first second : Ranged)
        → ◌>>=◌ (require room Count r)
        (λ u. ◌>>=◌ (require named Name r)
        (λ v. ◌>>=◌ (by_ranged r first) (λ a. ◌>>=◌ (by_ranged r second) (λ b. accepted (record { first = a; second = b })))))
        ≡ item_by room named first second r
    go false named first second = unfold ◌>>=◌ require fault item_by in refl
    go true false first second = unfold ◌>>=◌ require fault item_by in refl
    go true true None second = unfold ◌>>=◌ require fault by_ranged item_by in refl
    go true true (Some a) None = unfold ◌>>=◌ require fault by_ranged item_by in refl
    go true true (Some a) (Some b) = unfold ◌>>=◌ require fault by_ranged item_by in refl

-- by what they found
pub item-found : (most : ℕ) (rule : Rule) (names : List (List ℕ)) (x : FourFields) {room named : Bool} {first second : Ranged}
    → room ≡ ltb (length names) most → named ≡ (sound_name x.second && unused x.second names)
    → first ≡ ranged_in rule.first x.third → second ≡ ranged_in rule.second x.fourth
    → (r : ℕ) → read_by most rule names r x ≡ item_by room named first second r
item-found most rule names x room named first second r = item-checked most rule names r x ∙ rw (room, named, first, second)

-- ---- by the texts in the file

-- an accepted item: there is room for it, and its name is as long as a name may be
pub item_fits : (most : ℕ) (rule : Rule) (names : List (List ℕ)) (x : FourFields) (v : Figures) → read_by most rule names 0 x ≡ accepted v
    → (length names < most) × (length x.second ≤ most_name_bytes)
item_fits most rule names x v read =
    let told = (read_item_iff most _ _ _ _ names 0 x v).0 read in
    (told.0, told.1.0.0.size.most)

-- the reading by the name's text and by what stands inside two fields, which is that by their values
module _ (rule : Rule) (x : FourFields) (name third fourth : List ℕ) (named : NameFor x.second name)
    (p : number_of third ≡ number_of x.third) (q : number_of fourth ≡ number_of x.fourth) where
  item_parts : (most : ℕ) (names : List (List ℕ)) (r : ℕ) → read_by most rule names r (three_fields name third fourth) ≡ read_by most rule names r x
  unfolding read_item read_number
  item_parts most names r = rw (name_checked named names, p, q)

  pub adds-value : {most : ℕ} (before after : Items most) (how : Result (Unit {0}) Fault) → Adds rule (three_fields name third fourth) before after how
      → Adds rule x before after how
  unfolding Adds
  adds-value {most} before after (Err what) h = (λ r. sym (item_parts most (names_in before) r) ∙ h.0 r, h.1)
  adds-value {most} before after (Ok done) (v, read, stored) = (
    v,
    λ r. sym (item_parts most (names_in before) r) ∙ read r,
    stored ∙ rw (value (le-or-lt (length x.second) most_name_bytes)),
  )
    where
      value : (length x.second ≤ most_name_bytes) ⊎ (most_name_bytes < length x.second) → name ≡ x.second
      value (inl l) = named.short l
      value (inr l) = absurd (omega (arith, named.long l, (item_fits most rule (names_in before) (three_fields name third fourth) v (read 0)).1))

-- ---- behind the items that columns hold

module _ {most : ℕ} {rule : Rule} {low high low2 high2 : ℕ} (of : RuleOf rule low high low2 high2) (x : FourFields) {items : List Item} {before : Items most}
    (f : Filled items before) (after : Items most) where
  -- as the reading says it
  by-numbers : (m : Read Figures) (r : ℕ) → read_by most rule (names_in before) r x ≡ m
      → read_item most low high low2 high2 (map (λ (i : Item). i.name) items) r x ≡ m
  by-numbers m r read = rw (filled-names f, of.low, of.high, of.low2, of.high2) at read

  -- a fault
  pub item_faulty : (what : Fault) → Adds rule x before after (Err what)
      → (r : ℕ) → read_item most low high low2 high2 (map (λ (i : Item). i.name) items) r x ≡ fault what r
  unfolding Adds
  item_faulty what h r = by-numbers _ r (h.0 r)

  -- one item more
  pub record Joined : Type 0 where
    pub figures : Figures
    pub read : (r : ℕ) → read_item most low high low2 high2 (map (λ (i : Item). i.name) items) r x ≡ accepted figures
    pub filled : Filled (items ++ item_of x.second figures ∷ []) after

  pub item_joined : {done : Unit {0}} → Adds rule x before after (Ok done) → Joined
  unfolding Adds
  item_joined (v, read, stored) =
      let fits = item_fits most rule _ x v (rw (filled-names f) at (read 0)) in
      record {
        figures = v;
        read = λ r. by-numbers _ r (read r);
        filled = rw stored (filled_more x.second v f (omega (arith, length-map items (λ (i : Item). i.name), fits.0)) fits.1);
      }
