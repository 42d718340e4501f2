-- A delivery left has one slot or none, so the sums over the slots are that slot's numbers; its rest and limit are in range, and a
-- delivery that is done has rest 0. For any number of slots.
-- Assumes nothing.
use Rattle.std.specs.Prelude.{◌≡◌, ◌≢◌, ◌⊎◌, Bool, List, ℕ, ◌+◌, ◌-◌, ◌<◌, eqb, length}
use Rattle.std.proofs.Math.Path.{refl}
use Rattle.std.proofs.Common.{sym, ◌∙◌, inl, inr, true≢false, arith, eq-eqb, ne_eqb}
use Rattle.std.proofs.Math.Bool.{true, false}
use Rattle.std.specs.Int.Count.{ones}
use Rattle.planning.specs.Bounds.{most_energy, most_limit}
use Rattle.planning.proofs.Laws.Finite.Decisions.{equal_or_not}
use Rattle.planning.proofs.Laws.Finite.Lists.{inside_of}
use Rattle.planning.specs.Plan.{Within}
use Rattle.planning.specs.Tables.{at}
use Rattle.search.specs.Layout.{holds, slot_rest, slot_served, rest_at, served_at, limit_at, Deliveries}
use Rattle.search.specs.Laws.Layout.Slots.{holds-used, holds_row, rest_of_slot, served_of_slot, rest_of_none}
use Rattle.search.specs.Laws.Layout.Slots.{rest-untouched, rest_touched, served-untouched, served_touched, limit-left}
use Rattle.search.specs.Sets.{has}

false_unless : (b : Bool) → (b ≡ true → ⊥) → b ≡ false
false_unless true h = absurd (h refl)
false_unless false h = refl

-- one engine more makes up LIMIT where the limit that is left is 1
one_left : (served most : ℕ) → served < most → eqb (served + 1) most ≡ eqb (most - served) 1
one_left served most l = go (equal_or_not (served + 1) most)
  where
    go : (served + 1 ≡ most) ⊎ (served + 1 ≢ most) → eqb (served + 1) most ≡ eqb (most - served) 1
    go (inl e) = eq-eqb (served + 1) most e ∙ sym (eq-eqb (most - served) 1 (omega arith))
    go (inr n) = ne_eqb (served + 1) most n ∙ sym (ne_eqb (most - served) 1 (λ e. n (omega arith)))

module _ {energy limit : List ℕ} {left untouched : ℕ} {amount served row : List ℕ}
    (d : Deliveries energy limit left untouched amount served row) where
  -- a delivery left is one of the plan's
  pub left-inside : (p : ℕ) → has left p ≡ true → p < length energy
  left-inside p h = inside_of energy p (d.in_range p h).0.least

  -- no other slot holds the delivery that slot k holds
  others-free : (k p : ℕ) → holds served row k p ≡ true → (l : ℕ) → l ≢ k → holds served row l p ≡ false
  others-free k p h l n =
      false_unless (holds served row l p) (λ g.
      n (d.alone l k (holds-used served row l p g) (holds-used served row k p h) (holds_row served row l p g ∙ sym (holds_row served row k p h))))

  pub slot-rest : (k p : ℕ) → holds served row k p ≡ true → slot_rest amount served row p ≡ at amount k
  slot-rest k p h = rest_of_slot amount served row p k h (others-free k p h)

  pub slot-served : (k p : ℕ) → holds served row k p ≡ true → slot_served served row p ≡ at served k
  slot-served k p h = served_of_slot served row p k h (others-free k p h)

  -- fewer engines serve a delivery left than its limit
  pub served-few : (p : ℕ) → has left p ≡ true → ones (served_at untouched served row p) < at limit p
  unfolding ones
  served-few p h = go (has untouched p) refl
    where
      go : (b : Bool) → has untouched p ≡ b → ones (served_at untouched served row p) < at limit p
      go true e = rw (served-untouched untouched served row p e) (d.in_range p h).1.least
      go false e =
          let slot = d.slotted p h e in
          let few = d.slot_few slot.0 (holds-used served row slot.0 p slot.1) in
          rw (served_touched untouched served row p e, slot-served slot.0 p slot.1) (rw (holds_row served row slot.0 p slot.1) at few)

  -- the rest of a delivery left, and its limit
  pub rest-left : (p : ℕ) → has left p ≡ true → Within 1 most_energy (rest_at energy untouched amount served row p)
  rest-left p h = go (has untouched p) refl
    where
      go : (b : Bool) → has untouched p ≡ b → Within 1 most_energy (rest_at energy untouched amount served row p)
      go true e = rw (rest-untouched energy untouched amount served row p e) (d.in_range p h).0
      go false e =
          let slot = d.slotted p h e in
          rw (rest_touched energy untouched amount served row p e, slot-rest slot.0 p slot.1)
          (d.slot_rests slot.0 (holds-used served row slot.0 p slot.1))

  pub limit_range : (p : ℕ) → has left p ≡ true → Within 1 most_limit (limit_at limit left untouched served row p)
  limit_range p h =
      let few = served-few p h in
      let most = (d.in_range p h).1.most in
      rw (limit-left limit left untouched served row p h) (record { least = omega arith; most = omega arith })

  -- the engines that serve it already, and one more, are LIMIT where its limit is 1
  pub one_more : (p : ℕ) → has left p ≡ true
      → eqb (ones (served_at untouched served row p) + 1) (at limit p) ≡ eqb (limit_at limit left untouched served row p) 1
  one_more p h = rw (limit-left limit left untouched served row p h) (one_left (ones (served_at untouched served row p)) (at limit p) (served-few p h))

  -- a delivery that is done has no rest
  pub rest-done : (p : ℕ) → has left p ≡ false → rest_at energy untouched amount served row p ≡ 0
  rest-done p h =
      rest_touched energy untouched amount served row p (false_unless (has untouched p) (λ u. true≢false (sym (d.untouched_left p u) ∙ h)))
      ∙ rest_of_none amount served row p free
    where
      free : (k : ℕ) → holds served row k p ≡ false
      free k =
          false_unless (holds served row k p) (λ g.
          true≢false (sym (rw (holds_row served row k p g) at (d.slot_left k (holds-used served row k p g))) ∙ h))
