-- The choice of the bulkiest delivery by a pass over the deliveries left, and the step that it leads to.
-- Assumes nothing.
use Rattle.std.specs.Prelude.{◌≡◌, Bool, false, ℕ, suc, ◌+◌, ◌-◌, ◌*◌, ◌^◌, ◌≤◌, ◌<◌, leb, eqb, length, cond, Option, Some, None}
use Rattle.std.proofs.Math.Path.{refl, ap, subst}
use Rattle.std.proofs.Common.{sym, ◌∙◌, mul-le-mul, lt-ltb}
use Rattle.std.proofs.Math.Bool.{true}
use native.Mathlib.Omega.{arith}
use Rattle.std.specs.Int.Count.{ones}
use Rattle.planning.specs.Bounds.{most_limit}
use Rattle.planning.proofs.Laws.Tables.{at_listed, length-listed}
use Rattle.planning.proofs.Laws.Search.Choice.{before, chosen-first}
use Rattle.planning.specs.Plan.{Within}
use Rattle.planning.specs.Search.{State as Document, bulkier, Choice, none_left, chosen, replaces, with_delivery, bulkiest_of, smallest, smallest_of}
use Rattle.planning.specs.Search.{finished, step_by, step_with, step_of}
use Rattle.planning.specs.Tables.{at}
use Rattle.search.specs.declared.choice.Candidate.{Candidate}
use Rattle.search.specs.declared.state.State.{State}
use Rattle.search.specs.declared.view.View.{View}
use Rattle.search.specs.Laws.Layout.Deliveries.{left-inside, rest-left, limit_range, one_more, rest-done}
use Rattle.search.specs.Laws.Layout.Serving.{open_inside}
use Rattle.search.specs.Laws.Passes.{Ahead, ahead-all, ahead_none, Next, next-taken, steady, remainings}
use Rattle.search.specs.Layout.{remaining_at, rest_of, limit_of, state_of}
use Rattle.search.specs.Members.{IsLeast}
use Rattle.search.specs.Sets.{has}
use Rattle.search.specs.Steps.{energies, limits, documented, SizedIn, IsDelivery, IsChoice, IsBulkiest}

-- a delivery with a rest is compared with the one chosen before it
bulkiest_with : (s : Document) (p : ℕ) → 0 < at s.rest p → bulkiest_of s (suc p) ≡ with_delivery true s (bulkiest_of s p) p
unfolding bulkiest_of
bulkiest_with s p k = rw (lt-ltb 0 (at s.rest p) k)

-- the step by the choice among all deliveries
step_is : (s : Document) (n : ℕ) → length s.rest ≡ n → step_of s ≡ step_with s (bulkiest_of s n)
unfolding step_of
step_is s n e = rw e

-- the products that compare two deliveries fit: a number of 32 bits times one of 8
pub product_fits : (a b : ℕ) → a < 2 ^ 32 → b < 2 ^ 8 → a * b < 2 ^ 64
product_fits a b k l = omega (arith, mul-le-mul {n₁ = a} {m₁ = b} {n₂ = 2 ^ 32} {m₂ = 2 ^ 8} (omega arith) (omega arith))

-- whether a candidate comes before another, and the one of them that a pass goes on with
abbrev pub comes_before : (next first : Candidate) → Bool
comes_before next first = bulkier next.pick.rest next.limit first.pick.rest first.limit

abbrev pub bulkier_of : Option Candidate → Candidate → Option Candidate
bulkier_of None next = Some next
bulkier_of (Some first) next = cond (comes_before next first) (Some next) (Some first)

module _ (v : View) where
  abbrev s : State
  s = v.state.now

  rest_at : (engines deliveries p : ℕ) → p < deliveries → at (documented v engines deliveries).rest p ≡ rest_of (energies v) s p
  unfolding state_of
  rest_at engines deliveries p l = at_listed deliveries (λ q. rest_of (energies v) s q) p l

  limit-at : (engines deliveries p : ℕ) → p < deliveries → at (documented v engines deliveries).limit p ≡ limit_of (limits v) s p
  unfolding state_of
  limit-at engines deliveries p l = at_listed deliveries (λ q. limit_of (limits v) s q) p l

  rest-count : (engines deliveries : ℕ) → length (documented v engines deliveries).rest ≡ deliveries
  unfolding state_of
  rest-count engines deliveries = length-listed deliveries (λ q. rest_of (energies v) s q)

  smallest-at : (engines deliveries : ℕ) → smallest (documented v engines deliveries) ≡ smallest_of (remainings engines s.«open» s.amount) engines
  unfolding state_of smallest
  smallest-at engines deliveries =
      ap (smallest_of (remainings engines s.«open» s.amount)) (length-listed engines (λ i. remaining_at s.«open» s.amount i))

  -- deliveries that are done do not change the choice
  bulkiest-past : (engines deliveries n m : ℕ) → n ≤ m → m ≤ deliveries → ((q : ℕ) → n ≤ q → q < m → has s.left q ≡ false)
      → bulkiest_of (documented v engines deliveries) m ≡ bulkiest_of (documented v engines deliveries) n
  unfolding bulkiest_of with_delivery
  bulkiest-past engines deliveries n m l k h =
      steady (bulkiest_of (documented v engines deliveries)) n m l
      (λ q a b. rw (rest_at engines deliveries q (omega arith) ∙ rest-done v.kept.deliveries q (h q a b)))

  -- the sets have only engines and deliveries that the lists have
  any_size : SizedIn v (length s.amount) (length (energies v))
  any_size = record { engine_set = open_inside v.kept.engines; delivery_set = left-inside v.kept.deliveries }

  -- `best` is the choice among the deliveries that the pass has behind it
  pub record BestSoFar (set : ℕ) (best : Option Candidate) : Type 0 where
    pub front : ℕ
    pub ahead : Ahead s.left set front
    pub is_best : (engines deliveries : ℕ) → SizedIn v engines deliveries
        → (front ≤ deliveries) × IsChoice v (bulkiest_of (documented v engines deliveries) front) best

  pub best_start : BestSoFar s.left None
  unfolding bulkiest_of IsChoice
  best_start = record { front = 0; ahead = ahead-all s.left; is_best = λ engines deliveries sized. (omega arith, refl) }

-- what a candidate says of its delivery
module _ {v : View} {p : ℕ} {c : Candidate} (h : IsDelivery v p c) where
  pub rest-is : c.pick.rest ≡ rest_of (energies v) v.state.now p
  rest-is = h.picked.is_rest ∙ ap (rest_of (energies v) v.state.now) h.is_row

  left-is : has v.state.now.left p ≡ true
  left-is = ap (has v.state.now.left) (sym h.is_row) ∙ h.picked.is_left

  -- its limit is in range
  pub delivery-limit : Within 1 most_limit c.limit
  delivery-limit = rw h.is_limit (limit_range v.kept.deliveries p left-is)

-- the next delivery of a pass, against the one chosen before it
module _ {v : View} {set t others : ℕ} {best : Option Candidate} (sofar : BestSoFar v set best) (taken : IsLeast set t others) where
  pub member : Next v.state.now.left set sofar.front t
  member = next-taken sofar.ahead taken

  module _ {next : Candidate} (delivery : IsDelivery v t next) where
    compares : (engines deliveries q : ℕ) → t < deliveries → bulkiest_of (documented v engines deliveries) t ≡ chosen q
        → (first : Candidate) → IsDelivery v q first → before (documented v engines deliveries) t q ≡ comes_before next first
    compares engines deliveries q l e first h =
        let m : q < deliveries = omega (arith, ((chosen-first (documented v engines deliveries) t q).0 e).inside) in
        rw (
          rest_at v engines deliveries t l,
          limit-at v engines deliveries t l,
          rest_at v engines deliveries q m,
          limit-at v engines deliveries q m,
          ← rest-is delivery,
          ← delivery.is_limit,
          ← rest-is h,
          ← h.is_limit,
        )

    -- the choice with it
    with_next : (engines deliveries : ℕ) → t < deliveries → (choice : Choice) → bulkiest_of (documented v engines deliveries) t ≡ choice
        → IsChoice v choice best → IsChoice v (with_delivery true (documented v engines deliveries) choice t) (bulkier_of best next)
    unfolding with_delivery replaces IsChoice
    with_next engines deliveries l none_left e none = rw none (next, refl, delivery)
    with_next engines deliveries l (chosen q) e (first, is, h) =
        rw (is, compares engines deliveries q l e first h) (go (comes_before next first))
      where
        go : (b : Bool) → IsChoice v (replaces b q t) (cond b (Some next) (Some first))
        go true = (next, refl, delivery)
        go false = (first, refl, h)

    pub best_next : BestSoFar v others (bulkier_of best next)
    best_next =
        record {
          front = suc t;
          ahead = rw taken.without member.ahead;
          is_best = λ engines deliveries sized.
              let l = sized.delivery_set t member.member in
              let d = documented v engines deliveries in
              let behind = (sofar.is_best engines deliveries sized).1 in
              let passed = bulkiest-past v engines deliveries sofar.front t member.later (omega arith) member.between in
              let rest = rest-left v.kept.deliveries t member.member in
              let positive : 0 < at d.rest t = omega (arith, rest_at v engines deliveries t l, rest.least) in
              (l, rw (bulkiest_with d t positive) (with_next engines deliveries l (bulkiest_of d t) refl (rw passed behind)));
        }

module _ {v : View} where
  pub best_end : {set : ℕ} {best : Option Candidate} → set ≡ 0 → BestSoFar v set best → IsBulkiest v best
  best_end z sofar =
      record {
        choice = λ engines deliveries sized.
            let now = sofar.is_best engines deliveries sized in
            let none = ahead_none v.state.now.left sofar.front (rw z at sofar.ahead) in
            rw (bulkiest-past v engines deliveries sofar.front deliveries now.0 (omega arith) (λ q m b. none q m)) now.1;
      }

  -- a candidate that is a choice is that delivery
  choice_left : (best : Candidate) (choice : Choice) → IsChoice v choice (Some best)
      → IsDelivery v best.pick.row best × (choice ≡ chosen best.pick.row)
  unfolding IsChoice
  choice_left best none_left h = absurd (cc h)
  choice_left best (chosen q) (other, same, h) =
      let is : other ≡ best = cc in
      let d = subst (λ (c : Candidate). IsDelivery v q c) is h in
      (subst (λ (p : ℕ). IsDelivery v p best) (sym d.is_row) d, ap chosen (sym d.is_row))

  pub best_left : {set : ℕ} {best : Candidate} → BestSoFar v set (Some best) → IsDelivery v best.pick.row best
  best_left {best = best} sofar = (choice_left best _ (sofar.is_best (length v.state.now.amount) (length (energies v)) (any_size v)).1).0

  -- the step, where there is no delivery left
  module _ (is_best : IsBulkiest v None) (engines deliveries : ℕ) (sized : SizedIn v engines deliveries) where
    pub step-none : step_of (documented v engines deliveries) ≡ finished
    unfolding IsChoice step_with
    step-none =
        step_is (documented v engines deliveries) deliveries (rest-count v engines deliveries)
        ∙ go (bulkiest_of (documented v engines deliveries) deliveries) (is_best.choice engines deliveries sized)
      where
        go : (choice : Choice) → IsChoice v choice None → step_with (documented v engines deliveries) choice ≡ finished
        go none_left h = refl
        go (chosen q) (other, same, h) = absurd (cc same)

  -- the step, where `best` is the bulkiest delivery
  module _ {best : Candidate} (is_best : IsBulkiest v (Some best)) where
    pub bulkiest-left : IsDelivery v best.pick.row best
    bulkiest-left = (choice_left best _ (is_best.choice (length v.state.now.amount) (length (energies v)) (any_size v))).0

    -- the engines that serve it already, and one more, are LIMIT where its limit is 1
    pub one-more-chosen : eqb (ones best.served + 1) best.most ≡ eqb best.limit 1
    one-more-chosen =
        let chose = bulkiest-left in
        rw (chose.is_served, chose.is_most, chose.is_limit) (one_more v.kept.deliveries best.pick.row chose.picked.is_left)

    module _ (engines deliveries : ℕ) (sized : SizedIn v engines deliveries) where
      pub step-some : step_of (documented v engines deliveries)
          ≡ step_by (eqb best.limit 1)
          (leb best.pick.rest ((best.limit - 1) * smallest_of (remainings engines v.state.now.«open» v.state.now.amount) engines)) best.pick.row
      unfolding step_with
      step-some =
          let found = choice_left best _ (is_best.choice engines deliveries sized) in
          let l = sized.delivery_set best.pick.row found.0.picked.is_left in
          step_is (documented v engines deliveries) deliveries (rest-count v engines deliveries)
          ∙ rw (
            found.1,
            limit-at v engines deliveries best.pick.row l,
            rest_at v engines deliveries best.pick.row l,
            ← found.0.is_limit,
            ← found.0.picked.is_rest,
            smallest-at v engines deliveries,
          )
