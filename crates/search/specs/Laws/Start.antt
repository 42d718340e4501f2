-- The state that a search begins in: every engine with a capacity above 0 is open, every delivery left and untouched, no slot in use. For
-- any number of slots that has room for the plan's engines.
-- Assumes nothing.
use Rattle.std.specs.Prelude.{◌≡◌, Bool, List, ℕ, ◌≤◌, ◌<◌, ltb, length}
use Rattle.std.proofs.Math.Path.{refl}
use Rattle.std.proofs.Common.{sym, ap, ◌∙◌, ext_get_or, arith}
use Rattle.std.proofs.Math.Bool.{true, false, cond}
use Rattle.std.proofs.lemmas.Bool.{false≢true}
use Rattle.std.proofs.Math.ListN.{replicate}
use Rattle.std.proofs.lemmas.List.{length-replicate}
use borrow.Author.Tests.{ltb-true, ltb-false, lt-ltb}
use Rattle.planning.specs.Bounds.{most_fuel, most_energy, most_limit}
use Rattle.planning.proofs.Laws.Finite.Lists.{inside_of}
use Rattle.planning.proofs.Laws.Tables.{length-listed, at_listed, at-zeros}
use Rattle.planning.specs.Tables.{listed, at, padded}
use Rattle.planning.specs.Plan.{Within}
use Rattle.search.specs.declared.state.State.{State}
use Rattle.search.specs.Layout.{remaining_at, rest_at, limit_at, state_in, state_of, Deliveries, Engines, Sized}
use Rattle.search.specs.Laws.Layout.Slots.{rest-untouched, limit-untouched}
use Rattle.planning.proofs.Laws.Padded.{length-padded, at-padded}
use Rattle.search.specs.Laws.Sets.{has-zero}
use Rattle.search.specs.Sets.{has}

-- the first state in so many slots, with those amounts, deliveries and open engines
abbrev pub first_state : (slots : ℕ) → (amount : List ℕ) → (left opened : ℕ) → State
first_state slots amount left opened = state_in left left amount (replicate slots 0) (replicate slots 0) opened

-- what a search is begun with: lists in range with a slot for each engine, the first deliveries and the engines with a capacity above 0
pub record Begins (slots : ℕ) (capacity energy limit : List ℕ) (left opened : ℕ) : Type 0 where
  pub paired : length limit ≡ length energy
  pub engine_count : length capacity ≤ slots
  pub most : (i : ℕ) → at capacity i ≤ most_fuel
  pub energies : (p : ℕ) → p < length energy → Within 1 most_energy (at energy p)
  pub limits : (p : ℕ) → p < length limit → Within 1 most_limit (at limit p)
  pub deliveries : (p : ℕ) → has left p ≡ ltb p (length energy)
  pub engines : (i : ℕ) → has opened i ≡ ltb 0 (at capacity i)

-- the function's numbers make up a list
listed-all : (xs : List ℕ) (n : ℕ) (f : ℕ → ℕ) → length xs ≡ n → ((i : ℕ) → i < n → f i ≡ at xs i) → listed n f ≡ xs
listed-all xs n f e h =
    ext_get_or 0 (listed n f) xs (length-listed n f ∙ sym e)
    (λ i l. let k : i < n = omega (arith, length-listed n f) in at_listed n f i k ∙ h i k)

module _ {slots : ℕ} {capacity energy limit : List ℕ} {left opened : ℕ} (b : Begins slots capacity energy limit left opened) where
  left-inside : (p : ℕ) → has left p ≡ true → p < length energy
  left-inside p h = ltb-true p (length energy) (sym (b.deliveries p) ∙ h)

  open_positive : (i : ℕ) → has opened i ≡ true → 0 < at capacity i
  open_positive i h = ltb-true 0 (at capacity i) (sym (b.engines i) ∙ h)

  open_inside : (i : ℕ) → has opened i ≡ true → i < length capacity
  open_inside i h = inside_of capacity i (open_positive i h)

  free_slot : (k : ℕ) → 0 < at (replicate slots 0) k → ⊥
  free_slot k l = omega (arith, at-zeros slots k)

  all_slots : length (replicate {A = ℕ} slots 0) ≡ length (padded slots capacity)
  all_slots = length-replicate slots 0 ∙ sym (length-padded slots capacity b.engine_count)

  pub first-deliveries : Deliveries energy limit left left (padded slots capacity) (replicate slots 0) (replicate slots 0)
  first-deliveries =
      record {
        serveds = all_slots;
        rows = all_slots;
        in_range = λ p h. let l : p < length energy = left-inside p h in (b.energies p l, b.limits p (omega (arith, b.paired)));
        untouched_left = λ p h. h;
        slot_left = λ k u. absurd (free_slot k u);
        slot_begun = λ k u. absurd (free_slot k u);
        slot_rests = λ k u. absurd (free_slot k u);
        slot_few = λ k u. absurd (free_slot k u);
        slotted = λ p h n. absurd (false≢true (sym n ∙ h));
        alone = λ k l u v e. absurd (free_slot k u);
      }

  pub first-engines : Engines opened (padded slots capacity) (replicate slots 0)
  first-engines =
      record {
        remains = λ i h. rw (at-padded slots capacity i) (record { least = open_positive i h; most = b.most i });
        free = λ i h. at-zeros slots i;
        closed = λ k i h. absurd (false≢true (sym (ap (λ (n : ℕ). has n i) (at-zeros slots k) ∙ has-zero i) ∙ h));
      }

  pub first-sized : Sized (length capacity) (length energy) left opened
  first-sized = record { engine_set = open_inside; delivery_set = left-inside }

  remaining-first : (i : ℕ) → remaining_at opened (padded slots capacity) i ≡ at capacity i
  unfolding remaining_at
  remaining-first i = go (has opened i) refl
    where
      go : (t : Bool) → has opened i ≡ t → cond t (at (padded slots capacity) i) 0 ≡ at capacity i
      go true e = at-padded slots capacity i
      go false e = omega (arith, ltb-false 0 (at capacity i) (sym (b.engines i) ∙ e))

  untouched-first : (p : ℕ) → p < length energy → has left p ≡ true
  untouched-first p l = b.deliveries p ∙ lt-ltb p (length energy) l

  -- it stands for document 01's first state
  pub first-state : state_of (length capacity) (length energy) energy limit (first_state slots (padded slots capacity) left opened)
      ≡ record { remaining = capacity; rest = energy; limit = limit }
  unfolding state_of
  first-state =
      let free = replicate {A = ℕ} slots 0 in
      rw (
        listed-all capacity (length capacity) (λ i. remaining_at opened (padded slots capacity) i) refl (λ i l. remaining-first i),
        listed-all energy (length energy) (λ p. rest_at energy left (padded slots capacity) free free p) refl
            (λ p l. rest-untouched energy left (padded slots capacity) free free p (untouched-first p l)),
        listed-all limit (length energy) (λ p. limit_at limit left left free free p) b.paired
            (λ p l. let u = untouched-first p l in limit-untouched limit left left free free p u u),
      )
