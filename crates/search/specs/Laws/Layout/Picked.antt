-- What a delivery that is picked has: its rest, its limit and its slot, and the set of untouched deliveries once it is touched.
-- Assumes nothing.
use Rattle.std.specs.Prelude.{◌≡◌, refl, ◌≢◌, ◌⊎◌, Bool, true, false, List, ℕ, ◌-◌, ◌^◌, ◌≤◌, ◌<◌, Option, Some, None}
use Rattle.std.proofs.Common.{sym, ap, ◌∙◌, inl, inr, arith}
use Rattle.std.specs.Int.Count.{ones}
use Rattle.planning.specs.Bounds.{most_engines, most_deliveries, most_energy}
use Rattle.planning.proofs.Laws.Finite.Decisions.{le-or-lt}
use Rattle.planning.specs.Plan.{Within}
use Rattle.planning.specs.Tables.{at}
use Rattle.search.specs.declared.state.Pick.{Pick}
use Rattle.search.specs.declared.state.State.{State}
use Rattle.search.specs.Layout.{holds, limit_of, Kept, Picked}
use Rattle.search.specs.Sets.{has}
use Rattle.search.specs.Laws.Sets.{clash, has-without-same, has-without-other}
use Rattle.search.specs.Laws.Layout.Deliveries.{left-inside, rest-left}
use Rattle.search.specs.Laws.Layout.Serving.{open_inside}
use Rattle.search.specs.Laws.Layout.Slots.{holds-used, holds_row, holds-inside, holds_by, served_of_slot, limit-untouched, limit-begun}

-- a slot or none, and a place that is not the slot
pub slot_cases : (slot : Option ℕ) → (slot ≡ None) ⊎ ((k : ℕ) × (slot ≡ Some k))
slot_cases None = inl refl
slot_cases (Some k) = inr (k, refl)

pub no_other : {slot : Option ℕ} {j k : ℕ} → slot ≡ Some k → j ≢ k → slot ≢ Some j
no_other {slot} {j} {k} m n e = let same : j ≡ k = cc in n same

pub not_none : {slot : Option ℕ} → slot ≡ None → (k : ℕ) → slot ≢ Some k
not_none {slot} e k m = cc

-- the untouched deliveries before and after a step that touches a delivery: the same where it was begun before
pub record Touched (pick : Pick) (before after : ℕ) : Type 0 where
  pub begun : (k : ℕ) → pick.slot ≡ Some k → after ≡ before
  pub fresh : pick.slot ≡ None → after ≡ before - 2 ^ pick.row

-- an open engine has its place in the arrays
pub engine-below : {energy limit : List ℕ} {s : State} → Kept energy limit s → (i : ℕ) → has s.«open» i ≡ true → i < most_engines
engine-below kept i h = omega (arith, open_inside kept.engines i h, kept.lengths.amounts)

module _ {energy limit : List ℕ} {s : State} {pick : Pick} (kept : Kept energy limit s) (picked : Picked energy s pick) where
  -- so have the delivery and its slot
  pub row_below : pick.row < most_deliveries
  row_below = omega (arith, left-inside kept.deliveries pick.row picked.is_left, kept.lengths.energies)

  pub slot_below : (k : ℕ) → pick.slot ≡ Some k → k < most_engines
  slot_below k m =
      let inside = holds-inside s.served s.row k pick.row (picked.is_slot.begun k m).1 in
      omega (arith, kept.deliveries.serveds, kept.lengths.amounts)

  -- no other slot is in use for it, and none where it is untouched
  pub only_slot : (k : ℕ) → pick.slot ≢ Some k → holds s.served s.row k pick.row ≡ false
  only_slot k other = go (holds s.served s.row k pick.row) refl
    where
      held : holds s.served s.row k pick.row ≡ true → (pick.slot ≡ None) ⊎ ((j : ℕ) × (pick.slot ≡ Some j)) → ⊥
      held h (inl e) =
          clash (has s.untouched pick.row) (picked.is_slot.fresh e)
          (ap (has s.untouched) (sym (holds_row s.served s.row k pick.row h))
          ∙ kept.deliveries.slot_begun k (holds-used s.served s.row k pick.row h))
      held h (inr (j, m)) =
          let own = (picked.is_slot.begun j m).1 in
          let same =
          kept.deliveries.alone j k (holds-used s.served s.row j pick.row own) (holds-used s.served s.row k pick.row h)
          (holds_row s.served s.row j pick.row own ∙ sym (holds_row s.served s.row k pick.row h)) in
          other (m ∙ ap Some same)

      go : (b : Bool) → holds s.served s.row k pick.row ≡ b → holds s.served s.row k pick.row ≡ false
      go false e = e
      go true e = absurd (held e (slot_cases pick.slot))

  pub unused : (k : ℕ) → pick.slot ≢ Some k → at s.row k ≡ pick.row → at s.served k ≡ 0
  unused k other e = go (le-or-lt (at s.served k) 0)
    where
      go : (at s.served k ≤ 0) ⊎ (0 < at s.served k) → at s.served k ≡ 0
      go (inl z) = omega arith
      go (inr u) = absurd (clash (holds s.served s.row k pick.row) (holds_by s.served s.row k pick.row u e) (only_slot k other))

  pub rest_range : Within 1 most_energy pick.rest
  rest_range = rw picked.is_rest (rest-left kept.deliveries pick.row picked.is_left)

  pub limit_in_slot : (k : ℕ) → pick.slot ≡ Some k → limit_of limit s pick.row ≡ at limit pick.row - ones (at s.served k)
  limit_in_slot k m =
      limit-begun limit s.left s.untouched s.served s.row pick.row picked.is_left (picked.is_slot.begun k m).0
      ∙ ap (λ (n : ℕ). at limit pick.row - ones n)
      (served_of_slot s.served s.row pick.row k (picked.is_slot.begun k m).1 (λ j n. only_slot j (no_other m n)))

  pub limit_in_plan : pick.slot ≡ None → limit_of limit s pick.row ≡ at limit pick.row
  limit_in_plan e = limit-untouched limit s.left s.untouched s.served s.row pick.row picked.is_left (picked.is_slot.fresh e)

  module _ (after : ℕ) (touched : Touched pick s.untouched after) where
    pub touched_row : has after pick.row ≡ false
    touched_row = go (slot_cases pick.slot)
      where
        go : (pick.slot ≡ None) ⊎ ((k : ℕ) × (pick.slot ≡ Some k)) → has after pick.row ≡ false
        go (inl e) =
            ap (λ (n : ℕ). has n pick.row) (touched.fresh e) ∙ has-without-same s.untouched pick.row (picked.is_slot.fresh e)
        go (inr (k, m)) = ap (λ (n : ℕ). has n pick.row) (touched.begun k m) ∙ (picked.is_slot.begun k m).0

    pub touched_other : (p : ℕ) → p ≢ pick.row → has after p ≡ has s.untouched p
    touched_other p n = go (slot_cases pick.slot)
      where
        go : (pick.slot ≡ None) ⊎ ((k : ℕ) × (pick.slot ≡ Some k)) → has after p ≡ has s.untouched p
        go (inl e) =
            ap (λ (m : ℕ). has m p) (touched.fresh e) ∙ has-without-other s.untouched pick.row p (picked.is_slot.fresh e) n
        go (inr (k, m)) = ap (λ (l : ℕ). has l p) (touched.begun k m)
