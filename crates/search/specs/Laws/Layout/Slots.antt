-- What a slot tells of its delivery, and the numbers of a delivery that a step does not touch, for any number of slots.
-- Assumes nothing.
use Rattle.std.specs.Prelude.{◌≡◌, refl, ◌≢◌, Bool, true, false, List, ℕ, ◌-◌, ◌<◌, length}
use Rattle.std.proofs.Math.Path.{ap, ap₂}
use Rattle.std.proofs.Common.{◌∙◌, arith}
use Rattle.std.proofs.Math.Bool.{cond, ◌&&◌, and-false}
use Rattle.std.proofs.Math.Nat.{sub-zero}
use Rattle.std.specs.Int.Count.{ones}
use Rattle.std.proofs.Math.Dec.{ltb, eqb}
use borrow.Author.Tests.{ltb-true, eqb-true, lt-ltb, le-ltb, eq-eqb, ne_eqb}
use Rattle.planning.proofs.Laws.Finite.Lists.{inside_of}
use Rattle.planning.proofs.Laws.Finite.Sums.{sum_ext, sum-single, sum-zero}
use Rattle.planning.specs.Tables.{at}
use Rattle.planning.specs.Sum.{sum}
use Rattle.search.specs.declared.state.State.{State}
use Rattle.search.specs.Layout.{holds, slot_rest, slot_served, rest_at, served_at, limit_at, rest_of, limit_of}
use Rattle.search.specs.Sets.{has}

-- ---- a slot that is in use for a delivery

first_of : (a b : Bool) → (a && b) ≡ true → a ≡ true
first_of true b h = refl
first_of false b h = h

second_of : (a b : Bool) → (a && b) ≡ true → b ≡ true
second_of true b h = h
second_of false b h = absurd (let o : ◌≡◌ {A = ℕ} 0 1 = cc in omega arith)

module _ (served row : List ℕ) (k p : ℕ) where
  pub holds-used : holds served row k p ≡ true → 0 < at served k
  unfolding holds
  holds-used h = ltb-true 0 (at served k) (first_of (ltb 0 (at served k)) (eqb (at row k) p) h)

  pub holds_row : holds served row k p ≡ true → at row k ≡ p
  unfolding holds
  holds_row h = eqb-true (at row k) p (second_of (ltb 0 (at served k)) (eqb (at row k) p) h)

  pub holds-inside : holds served row k p ≡ true → k < length served
  holds-inside h = inside_of served k (holds-used h)

  pub holds_by : 0 < at served k → at row k ≡ p → holds served row k p ≡ true
  unfolding holds
  holds_by u e = ap₂ ◌&&◌ (lt-ltb 0 (at served k) u) (eq-eqb (at row k) p e)

  pub holds-free : at served k ≡ 0 → holds served row k p ≡ false
  unfolding holds
  holds-free e = ap (λ (b : Bool). b && eqb (at row k) p) (le-ltb 0 (at served k) (omega arith))

  pub holds-other : at row k ≢ p → holds served row k p ≡ false
  unfolding holds
  holds-other n = ap (λ (b : Bool). ltb 0 (at served k) && b) (ne_eqb (at row k) p n) ∙ and-false (ltb 0 (at served k))

pub holds_alike : (served row served' row' : List ℕ) (k p : ℕ) → at served' k ≡ at served k → at row' k ≡ at row k
    → holds served' row' k p ≡ holds served row k p
unfolding holds
holds_alike served row served' row' k p d e = ap₂ (λ (v q : ℕ). ltb 0 v && eqb q p) d e

-- ---- the slot of a delivery tells its rest and the engines that serve it

-- no slot but t is in use for delivery p
abbrev pub OnlySlot : (served row : List ℕ) → (p t : ℕ) → Type 0
OnlySlot served row p t = (k : ℕ) → k ≢ t → holds served row k p ≡ false

slot_sum : (served row : List ℕ) (p t : ℕ) (value : ℕ → ℕ) → holds served row t p ≡ true → OnlySlot served row p t
    → sum (length served) (λ k. cond (holds served row k p) (value k) 0) ≡ value t
slot_sum served row p t value h others =
    sum-single (length served) (λ k. cond (holds served row k p) (value k) 0) t (holds-inside served row t p h)
    (λ k s n. ap (λ (b : Bool). cond b (value k) 0) (others k n))
    ∙ ap (λ (b : Bool). cond b (value t) 0) h

pub rest_of_slot : (amount served row : List ℕ) (p t : ℕ) → holds served row t p ≡ true → OnlySlot served row p t
    → slot_rest amount served row p ≡ at amount t
unfolding slot_rest
rest_of_slot amount served row p t = slot_sum served row p t (at amount)

pub served_of_slot : (served row : List ℕ) (p t : ℕ) → holds served row t p ≡ true → OnlySlot served row p t
    → slot_served served row p ≡ at served t
unfolding slot_served
served_of_slot served row p t = slot_sum served row p t (at served)

-- a delivery without a slot has no rest there
pub rest_of_none : (amount served row : List ℕ) (p : ℕ) → ((k : ℕ) → holds served row k p ≡ false) → slot_rest amount served row p ≡ 0
unfolding slot_rest
rest_of_none amount served row p none =
    sum-zero (length served) (λ k. cond (holds served row k p) (at amount k) 0) (λ k l. ap (λ (b : Bool). cond b (at amount k) 0) (none k))

-- ---- a delivery that is untouched, begun or done

module _ (energy : List ℕ) (untouched : ℕ) (amount served row : List ℕ) (p : ℕ) where
  pub rest-untouched : has untouched p ≡ true → rest_at energy untouched amount served row p ≡ at energy p
  unfolding rest_at
  rest-untouched u = rw u

  pub rest_touched : has untouched p ≡ false → rest_at energy untouched amount served row p ≡ slot_rest amount served row p
  unfolding rest_at
  rest_touched u = rw u

module _ (untouched : ℕ) (served row : List ℕ) (p : ℕ) where
  pub served-untouched : has untouched p ≡ true → served_at untouched served row p ≡ 0
  unfolding served_at
  served-untouched u = rw u

  pub served_touched : has untouched p ≡ false → served_at untouched served row p ≡ slot_served served row p
  unfolding served_at
  served_touched u = rw u

-- the limit is LIMIT less the engines that serve it already
module _ (limit : List ℕ) (left untouched : ℕ) (served row : List ℕ) (p : ℕ) where
  pub limit-left : has left p ≡ true → limit_at limit left untouched served row p ≡ at limit p - ones (served_at untouched served row p)
  unfolding limit_at
  limit-left l = rw l

  pub limit-done : has left p ≡ false → limit_at limit left untouched served row p ≡ 1
  unfolding limit_at
  limit-done l = rw l

  pub limit-untouched : has left p ≡ true → has untouched p ≡ true → limit_at limit left untouched served row p ≡ at limit p
  unfolding ones
  limit-untouched l u =
      limit-left l ∙ ap (λ (n : ℕ). at limit p - ones n) (served-untouched untouched served row p u) ∙ sub-zero (at limit p)

  pub limit-begun : has left p ≡ true → has untouched p ≡ false → limit_at limit left untouched served row p ≡ at limit p - ones (slot_served served row p)
  limit-begun l u = limit-left l ∙ ap (λ (n : ℕ). at limit p - ones n) (served_touched untouched served row p u)

-- ---- a delivery that two states have alike

pub record Unmoved (s r : State) (p : ℕ) : Type 0 where
  pub same_slots : length r.served ≡ length s.served
  pub same_left : has r.left p ≡ has s.left p
  pub same_untouched : has r.untouched p ≡ has s.untouched p
  pub same_holds : (k : ℕ) → holds r.served r.row k p ≡ holds s.served s.row k p
  pub same_amount : (k : ℕ) → holds s.served s.row k p ≡ true → at r.amount k ≡ at s.amount k
  pub same_served : (k : ℕ) → holds s.served s.row k p ≡ true → at r.served k ≡ at s.served k

cond_agree : (c b : Bool) (y x z : ℕ) → c ≡ b → (b ≡ true → y ≡ x) → cond c y z ≡ cond b x z
cond_agree c true y x z e h = ap (λ (d : Bool). cond d y z) e ∙ h refl
cond_agree c false y x z e h = ap (λ (d : Bool). cond d y z) e

module _ (s r : State) (p : ℕ) (m : Unmoved s r p) where
  -- what its slot has
  slot_unmoved : (value' value : ℕ → ℕ) → ((k : ℕ) → holds s.served s.row k p ≡ true → value' k ≡ value k)
      → sum (length r.served) (λ k. cond (holds r.served r.row k p) (value' k) 0)
      ≡ sum (length s.served) (λ k. cond (holds s.served s.row k p) (value k) 0)
  slot_unmoved value' value same =
      ap (λ (n : ℕ). sum n (λ k. cond (holds r.served r.row k p) (value' k) 0)) m.same_slots
      ∙ sum_ext (length s.served) (λ k. cond (holds r.served r.row k p) (value' k) 0) (λ k. cond (holds s.served s.row k p) (value k) 0)
      (λ k l. cond_agree (holds r.served r.row k p) (holds s.served s.row k p) (value' k) (value k) 0 (m.same_holds k) (same k))

  pub rest-unmoved : (energy : List ℕ) → rest_of energy r p ≡ rest_of energy s p
  unfolding rest_at slot_rest
  rest-unmoved energy =
      ap₂ (λ (b : Bool) (x : ℕ). cond b (at energy p) x) m.same_untouched (slot_unmoved (at r.amount) (at s.amount) m.same_amount)

  served-unmoved : served_at r.untouched r.served r.row p ≡ served_at s.untouched s.served s.row p
  unfolding served_at slot_served
  served-unmoved = ap₂ (λ (b : Bool) (x : ℕ). cond b 0 x) m.same_untouched (slot_unmoved (at r.served) (at s.served) m.same_served)

  pub limit-unmoved : (limit : List ℕ) → limit_of limit r p ≡ limit_of limit s p
  unfolding limit_at
  limit-unmoved limit = ap₂ (λ (b : Bool) (x : ℕ). cond b (at limit p - ones x) 1) m.same_left served-unmoved
