-- A delivery that is left and begun has its place in the arrays, and its slot's rest and engines.
-- Assumes nothing.
use Rattle.std.proofs.Common.{◌≡◌, refl, false, true, List, ℕ, ◌<◌, sym, ◌∙◌, Option, Some, None, arith}
use Rattle.planning.specs.Bounds.{most_engines}
use Rattle.planning.specs.Tables.{at}
use Rattle.search.specs.declared.state.State.{State}
use Rattle.search.specs.Laws.Layout.Deliveries.{slot-rest, slot-served}
use Rattle.search.specs.Laws.Layout.Slots.{holds-inside, rest-untouched, rest_touched, served-untouched, served_touched}
use Rattle.search.specs.Layout.{holds, rest_of, served_of, Kept, SlotOf}
use Rattle.search.specs.Sets.{has}

module _ {energy limit : List ℕ} {s : State} (kept : Kept energy limit s) (p : ℕ) {k : ℕ}
    (in_slot : SlotOf s.untouched s.served s.row p (Some k)) where
  begun : has s.untouched p ≡ false
  begun = (in_slot.begun k refl).0

  holding : holds s.served s.row k p ≡ true
  holding = (in_slot.begun k refl).1

  pub slot_inside : k < most_engines
  slot_inside = omega (arith, holds-inside s.served s.row k p holding, kept.deliveries.serveds, kept.lengths.amounts)

  pub rest_in_slot : rest_of energy s p ≡ at s.amount k
  rest_in_slot = rest_touched energy s.untouched s.amount s.served s.row p begun ∙ slot-rest kept.deliveries k p holding

  -- the engines that serve it are those of the slot
  pub served_here : served_of s p ≡ at s.served k
  served_here = served_touched s.untouched s.served s.row p begun ∙ slot-served kept.deliveries k p holding

-- the rest of a delivery left and the engines that serve it, as its slot tells
module _ {energy limit : List ℕ} {s : State} (kept : Kept energy limit s) (p : ℕ) where
  pub by_slot : {slot : Option ℕ} → SlotOf s.untouched s.served s.row p slot → (rest served : ℕ)
      → (slot ≡ None → (rest ≡ at energy p) × (served ≡ 0))
      → ((k : ℕ) → slot ≡ Some k → (rest ≡ at s.amount k) × (served ≡ at s.served k))
      → (rest ≡ rest_of energy s p) × (served ≡ served_of s p)
  by_slot {slot = None} in_slot rest served fresh in_use =
      let untouched = in_slot.fresh refl in (
        (fresh refl).0 ∙ sym (rest-untouched energy s.untouched s.amount s.served s.row p untouched),
        (fresh refl).1 ∙ sym (served-untouched s.untouched s.served s.row p untouched),
      )
  by_slot {slot = Some k} in_slot rest served fresh in_use =
      ((in_use k refl).0 ∙ sym (rest_in_slot kept p in_slot), (in_use k refl).1 ∙ sym (served_here kept p in_slot))
