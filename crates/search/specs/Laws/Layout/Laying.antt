-- Laying a delivery of limit 1 on an engine is document 01's step, and the state after it is kept again.
-- Assumes nothing.
use Rattle.std.specs.Prelude.{◌≡◌, refl, ◌≢◌, ◌⊎◌, Bool, true, false, List, length, set, Some, None}
use Rattle.std.proofs.Math.Path.{sym, ap, ap₂}
use Rattle.std.proofs.Common.{◌∙◌, subst, inl, inr, arith, length-set, get_or-set_same, get_or-set_other}
use Rattle.std.proofs.Math.Bool.{cond}
use Rattle.std.proofs.Math.Dec.{eqb}
use borrow.Author.Tests.{eq-eqb, ne_eqb}
use Prim.Native.Nat.{ℕ, ◌-◌, ◌^◌, ◌≤◌, ◌<◌}
use Rattle.planning.specs.Bounds.{most_fuel}
use Rattle.planning.proofs.Laws.Finite.Decisions.{equal_or_not, le-or-lt, at-or_else}
use Rattle.planning.proofs.Laws.Tables.{at_listed, listed_same}
use Rattle.planning.specs.Tables.{listed, at}
use Rattle.planning.specs.Plan.{Within}
use Rattle.planning.specs.Search.{after_laying}
use Rattle.search.specs.declared.state.Pick.{Pick}
use Rattle.search.specs.declared.state.State.{State}
use Rattle.search.specs.Layout.{holds, remaining_at, rest_of, limit_of, state_of, Deliveries, Engines, Kept, Sized, Picked, Laid}
use Rattle.search.specs.Sets.{has}
use Rattle.search.specs.Laws.Documents.{listed-set, same_document}
use Rattle.search.specs.Laws.Layout.Remaining.{remaining_open}
use Rattle.search.specs.Laws.Sets.{clash, has-zero, has-without-same, has-without-other}
use Rattle.search.specs.Laws.Layout.Serving.{open_inside}
use Rattle.search.specs.Laws.Layout.Slots.{holds-used, holds_row, holds-inside, holds-free, holds-other, holds_alike}
use Rattle.search.specs.Laws.Layout.Slots.{rest_of_none, rest_touched, limit-done, Unmoved, rest-unmoved, limit-unmoved}
use Rattle.search.specs.Laws.Layout.Picked.{slot_cases, no_other, not_none, Touched, unused, touched_row, touched_other}

-- r is s after the rest of the delivery picked was laid on engine i
pub record Lays (s : State) (pick : Pick) (i : ℕ) (r : State) : Type 0 where
  pub is_left : r.left ≡ s.left - 2 ^ pick.row
  pub is_untouched : Touched pick s.untouched r.untouched
  pub is_amount : r.amount ≡ set s.amount i (at s.amount i - pick.rest)
  pub begun_served : (k : ℕ) → pick.slot ≡ Some k → r.served ≡ set s.served k 0
  pub fresh_served : pick.slot ≡ None → r.served ≡ s.served
  pub is_row : r.row ≡ s.row
  pub is_open : r.«open» ≡ cond (eqb (at s.amount i - pick.rest) 0) (s.«open» - 2 ^ i) s.«open»

module _
    {energy limit : List ℕ}
    {s r : State}
    {pick : Pick}
    {i : ℕ}
    (kept : Kept energy limit s)
    (picked : Picked energy s pick)
    (one : limit_of limit s pick.row ≡ 1)
    (engine : has s.«open» i ≡ true)
    (enough : pick.rest ≤ at s.amount i)
    (lays : Lays s pick i r) where
  -- the sets and lists, place by place

  left-row : has r.left pick.row ≡ false
  left-row = ap (λ (n : ℕ). has n pick.row) lays.is_left ∙ has-without-same s.left pick.row picked.is_left

  left_other : (p : ℕ) → p ≢ pick.row → has r.left p ≡ has s.left p
  left_other p n = ap (λ (m : ℕ). has m p) lays.is_left ∙ has-without-other s.left pick.row p picked.is_left n

  still_left : (p : ℕ) → has r.left p ≡ true → p ≢ pick.row
  still_left p h e = clash (has r.left p) h (ap (has r.left) e ∙ left-row)

  untouched-row : has r.untouched pick.row ≡ false
  untouched-row = touched_row kept picked r.untouched lays.is_untouched

  untouched-other : (p : ℕ) → p ≢ pick.row → has r.untouched p ≡ has s.untouched p
  untouched-other = touched_other kept picked r.untouched lays.is_untouched

  engine-inside : i < length s.amount
  engine-inside = open_inside kept.engines i engine

  amount-engine : at r.amount i ≡ at s.amount i - pick.rest
  amount-engine =
      ap (λ (xs : List ℕ). at xs i) lays.is_amount
      ∙ get_or-set_same s.amount i (at s.amount i - pick.rest) 0 engine-inside

  amount-other : (k : ℕ) → k ≢ i → at r.amount k ≡ at s.amount k
  amount-other k n = ap (λ (xs : List ℕ). at xs k) lays.is_amount ∙ get_or-set_other s.amount i k (at s.amount i - pick.rest) 0 n

  -- the delivery laid has no slot any more
  served-row : (k : ℕ) → at s.row k ≡ pick.row → at r.served k ≡ 0
  served-row k e = go (slot_cases pick.slot)
    where
      begun : (slot : ℕ) → pick.slot ≡ Some slot → (k ≡ slot) ⊎ (k ≢ slot) → at (set s.served slot 0) k ≡ 0
      begun slot m (inl d) = rw d (get_or-set_same s.served slot 0 0 (holds-inside s.served s.row slot pick.row (picked.is_slot.begun slot m).1))
      begun slot m (inr n) = get_or-set_other s.served slot k 0 0 n ∙ unused kept picked k (no_other m n) e

      go : (pick.slot ≡ None) ⊎ ((slot : ℕ) × (pick.slot ≡ Some slot)) → at r.served k ≡ 0
      go (inl d) = ap (λ (xs : List ℕ). at xs k) (lays.fresh_served d) ∙ unused kept picked k (not_none d k) e
      go (inr (slot, m)) = ap (λ (xs : List ℕ). at xs k) (lays.begun_served slot m) ∙ begun slot m (equal_or_not k slot)

  -- the others' slots are as they were
  served-other : (k : ℕ) → at s.row k ≢ pick.row → at r.served k ≡ at s.served k
  served-other k n = go (slot_cases pick.slot)
    where
      go : (pick.slot ≡ None) ⊎ ((slot : ℕ) × (pick.slot ≡ Some slot)) → at r.served k ≡ at s.served k
      go (inl d) = ap (λ (xs : List ℕ). at xs k) (lays.fresh_served d)
      go (inr (slot, m)) =
          ap (λ (xs : List ℕ). at xs k) (lays.begun_served slot m)
          ∙ get_or-set_other s.served slot k 0 0
          (λ e. n (ap (at s.row) e ∙ holds_row s.served s.row slot pick.row (picked.is_slot.begun slot m).1))

  served-length : length r.served ≡ length s.served
  served-length = go (slot_cases pick.slot)
    where
      go : (pick.slot ≡ None) ⊎ ((slot : ℕ) × (pick.slot ≡ Some slot)) → length r.served ≡ length s.served
      go (inl d) = ap length (lays.fresh_served d)
      go (inr (slot, m)) = ap length (lays.begun_served slot m) ∙ length-set s.served slot 0

  -- a free slot stays free
  served-free : (k : ℕ) → at s.served k ≡ 0 → at r.served k ≡ 0
  served-free k e = go (equal_or_not (at s.row k) pick.row)
    where
      go : (at s.row k ≡ pick.row) ⊎ (at s.row k ≢ pick.row) → at r.served k ≡ 0
      go (inl d) = served-row k d
      go (inr n) = served-other k n ∙ e

  -- a slot that is still in use is another delivery's
  in_use : (k : ℕ) → 0 < at r.served k → at s.row k ≢ pick.row
  in_use k u e = omega (arith, served-row k e)

  was_in_use : (k : ℕ) → 0 < at r.served k → 0 < at s.served k
  was_in_use k u = omega (arith, served-other k (in_use k u))

  not-engine : (k : ℕ) → 0 < at s.served k → k ≢ i
  not-engine k u e = omega (arith, ap (at s.served) e, kept.engines.free i engine)

  -- the engine is closed where nothing remains of it
  empty_open : at s.amount i - pick.rest ≡ 0 → r.«open» ≡ s.«open» - 2 ^ i
  empty_open z = lays.is_open ∙ rw (eq-eqb (at s.amount i - pick.rest) 0 z)

  rest_open : 0 < at s.amount i - pick.rest → r.«open» ≡ s.«open»
  rest_open u = lays.is_open ∙ rw (ne_eqb (at s.amount i - pick.rest) 0 (λ e. omega arith))

  open_other : (j : ℕ) → j ≢ i → has r.«open» j ≡ has s.«open» j
  open_other j n = go (le-or-lt (at s.amount i - pick.rest) 0)
    where
      go : (at s.amount i - pick.rest ≤ 0) ⊎ (0 < at s.amount i - pick.rest) → has r.«open» j ≡ has s.«open» j
      go (inl z) =
          ap (λ (m : ℕ). has m j) (empty_open (omega arith)) ∙ has-without-other s.«open» i j engine n
      go (inr u) = ap (λ (m : ℕ). has m j) (rest_open u)

  was_open : (j : ℕ) → has r.«open» j ≡ true → has s.«open» j ≡ true
  was_open = at-or_else (λ j. has r.«open» j ≡ true → has s.«open» j ≡ true) i (λ h. engine) (λ j n h. sym (open_other j n) ∙ h)

  -- the engine is open while something of it remains
  engine-after : ((at s.amount i - pick.rest ≡ 0) × (has r.«open» i ≡ false)) ⊎ ((0 < at s.amount i - pick.rest) × (has r.«open» i ≡ true))
  engine-after = go (le-or-lt (at s.amount i - pick.rest) 0)
    where
      closed : at s.amount i - pick.rest ≡ 0 → has r.«open» i ≡ false
      closed z = ap (λ (m : ℕ). has m i) (empty_open z) ∙ has-without-same s.«open» i engine

      go : (at s.amount i - pick.rest ≤ 0) ⊎ (0 < at s.amount i - pick.rest)
          → ((at s.amount i - pick.rest ≡ 0) × (has r.«open» i ≡ false)) ⊎ ((0 < at s.amount i - pick.rest) × (has r.«open» i ≡ true))
      go (inl z) = let e : at s.amount i - pick.rest ≡ 0 = omega arith in inl (e, closed e)
      go (inr u) = inr (u, ap (λ (m : ℕ). has m i) (rest_open u) ∙ engine)

  -- the state is kept

  amount-length : length r.amount ≡ length s.amount
  amount-length = ap length lays.is_amount ∙ length-set s.amount i (at s.amount i - pick.rest)

  holds_still : (k p : ℕ) → p ≢ pick.row → holds r.served s.row k p ≡ holds s.served s.row k p
  holds_still k p n = go (equal_or_not (at s.row k) pick.row)
    where
      go : (at s.row k ≡ pick.row) ⊎ (at s.row k ≢ pick.row) → holds r.served s.row k p ≡ holds s.served s.row k p
      go (inl e) =
          let other : at s.row k ≢ p = λ d. n (sym d ∙ e) in
          holds-other r.served s.row k p other ∙ sym (holds-other s.served s.row k p other)
      go (inr d) = holds_alike s.served s.row r.served s.row k p (served-other k d) refl

  deliveries : Deliveries energy limit r.left r.untouched r.amount r.served s.row
  deliveries =
      record {
        serveds = served-length ∙ kept.deliveries.serveds ∙ sym amount-length;
        rows = kept.deliveries.rows ∙ sym amount-length;
        in_range = λ p h. kept.deliveries.in_range p (sym (left_other p (still_left p h)) ∙ h);
        untouched_left =
            λ p h. let n : p ≢ pick.row = λ e. clash (has r.untouched p) h (ap (has r.untouched) e ∙ untouched-row) in
            left_other p n ∙ kept.deliveries.untouched_left p (sym (untouched-other p n) ∙ h);
        slot_left = λ k u. left_other (at s.row k) (in_use k u) ∙ kept.deliveries.slot_left k (was_in_use k u);
        slot_begun = λ k u. untouched-other (at s.row k) (in_use k u) ∙ kept.deliveries.slot_begun k (was_in_use k u);
        slot_rests = λ k u. rw (amount-other k (not-engine k (was_in_use k u))) (kept.deliveries.slot_rests k (was_in_use k u));
        slot_few = λ k u. rw (served-other k (in_use k u)) (kept.deliveries.slot_few k (was_in_use k u));
        slotted = λ p h t. slotted p (still_left p h) h t;
        alone = λ k l u v e. kept.deliveries.alone k l (was_in_use k u) (was_in_use l v) e;
      }
    where
      slotted : (p : ℕ) → p ≢ pick.row → has r.left p ≡ true → has r.untouched p ≡ false → (k : ℕ) × (holds r.served s.row k p ≡ true)
      slotted p n h t =
          let old = kept.deliveries.slotted p (sym (left_other p n) ∙ h) (sym (untouched-other p n) ∙ t) in
          (old.0, holds_still old.0 p n ∙ old.1)

  engines : Engines r.«open» r.amount r.served
  engines =
      record {
        remains = remains;
        free = λ j h. served-free j (kept.engines.free j (was_open j h));
        closed = λ k j h. closed k j h (equal_or_not (at s.row k) pick.row);
      }
    where
      here : has r.«open» i ≡ true
          → ((at s.amount i - pick.rest ≡ 0) × (has r.«open» i ≡ false)) ⊎ ((0 < at s.amount i - pick.rest) × (has r.«open» i ≡ true))
          → Within 1 most_fuel (at r.amount i)
      here h (inl z) = absurd (clash (has r.«open» i) h z.1)
      here h (inr u) =
          record { least = omega (arith, u.0, amount-engine); most = omega (arith, amount-engine, (kept.engines.remains i engine).most) }

      remains : (j : ℕ) → has r.«open» j ≡ true → Within 1 most_fuel (at r.amount j)
      remains =
          at-or_else (λ j. has r.«open» j ≡ true → Within 1 most_fuel (at r.amount j)) i (λ h. here h engine-after)
          (λ j n h. rw (amount-other j n) (kept.engines.remains j (was_open j h)))

      shut : (j : ℕ) → has s.«open» j ≡ false → (b : Bool) → has r.«open» j ≡ b → has r.«open» j ≡ false
      shut j c true e = absurd (clash (has s.«open» j) (was_open j e) c)
      shut j c false e = e

      closed : (k j : ℕ) → has (at r.served k) j ≡ true → (at s.row k ≡ pick.row) ⊎ (at s.row k ≢ pick.row)
          → (j < length r.served) × (has r.«open» j ≡ false)
      closed k j h (inl e) = absurd (clash (has (at r.served k) j) h (ap (λ (v : ℕ). has v j) (served-row k e) ∙ has-zero j))
      closed k j h (inr n) =
          let old = kept.engines.closed k j (ap (λ (v : ℕ). has v j) (sym (served-other k n)) ∙ h) in
          (omega (arith, old.0, served-length), shut j old.1 (has r.«open» j) refl)

  -- and is document 01's

  unmoved : (p : ℕ) → p ≢ pick.row → Unmoved s r p
  unmoved p n =
      record {
        same_slots = served-length;
        same_left = left_other p n;
        same_untouched = untouched-other p n;
        same_holds = λ k. ap (λ (xs : List ℕ). holds r.served xs k p) lays.is_row ∙ holds_still k p n;
        same_amount = λ k h. amount-other k (not-engine k (holds-used s.served s.row k p h));
        same_served = λ k h. served-other k (λ e. n (sym (holds_row s.served s.row k p h) ∙ e));
      }

  rest-row : rest_of energy r pick.row ≡ 0
  rest-row =
      rest_touched energy r.untouched r.amount r.served r.row pick.row untouched-row ∙ rest_of_none r.amount r.served r.row pick.row none
    where
      go : (k : ℕ) → (at s.row k ≡ pick.row) ⊎ (at s.row k ≢ pick.row) → holds r.served s.row k pick.row ≡ false
      go k (inl e) = holds-free r.served s.row k pick.row (served-row k e)
      go k (inr n) = holds-other r.served s.row k pick.row n

      none : (k : ℕ) → holds r.served r.row k pick.row ≡ false
      none k = ap (λ (xs : List ℕ). holds r.served xs k pick.row) lays.is_row ∙ go k (equal_or_not (at s.row k) pick.row)

  limits-same : (p : ℕ) → limit_of limit r p ≡ limit_of limit s p
  limits-same =
      at-or_else (λ p. limit_of limit r p ≡ limit_of limit s p) pick.row (limit-done limit r.left r.untouched r.served r.row pick.row left-row ∙ sym one)
      (λ p n. limit-unmoved s r p (unmoved p n) limit)

  remaining-engine : remaining_at r.«open» r.amount i ≡ at s.amount i - pick.rest
  unfolding remaining_at
  remaining-engine = go engine-after
    where
      go : ((at s.amount i - pick.rest ≡ 0) × (has r.«open» i ≡ false)) ⊎ ((0 < at s.amount i - pick.rest) × (has r.«open» i ≡ true))
          → cond (has r.«open» i) (at r.amount i) 0 ≡ at s.amount i - pick.rest
      go (inl z) = ap (λ (b : Bool). cond b (at r.amount i) 0) z.1 ∙ sym z.0
      go (inr u) = ap (λ (b : Bool). cond b (at r.amount i) 0) u.1 ∙ amount-engine

  remaining-other : (j : ℕ) → j ≢ i → remaining_at r.«open» r.amount j ≡ remaining_at s.«open» s.amount j
  unfolding remaining_at
  remaining-other j n = ap₂ (λ (b : Bool) (x : ℕ). cond b x 0) (open_other j n) (amount-other j n)

  module _ (engine_count delivery_count : ℕ) (sized : Sized engine_count delivery_count s.left s.«open») where
    sized-after : Sized engine_count delivery_count r.left r.«open»
    sized-after =
        record {
          engine_set = λ j h. sized.engine_set j (was_open j h);
          delivery_set = λ p h. sized.delivery_set p (sym (left_other p (still_left p h)) ∙ h);
        }

    state-after : state_of engine_count delivery_count energy limit r ≡ after_laying (state_of engine_count delivery_count energy limit s) pick.row i
    unfolding state_of after_laying
    state-after =
        let in_engines : i < engine_count = sized.engine_set i engine in
        let in_deliveries : pick.row < delivery_count = sized.delivery_set pick.row picked.is_left in
        let remainings : ℕ → ℕ = λ j. remaining_at s.«open» s.amount j in
        let rests : ℕ → ℕ = λ p. rest_of energy s p in
        same_document _ _ _ _ _ _
        (listed-set engine_count remainings (λ j. remaining_at r.«open» r.amount j) i
        (at (listed engine_count remainings) i - at (listed delivery_count rests) pick.row) in_engines
        (λ j l n. remaining-other j n)
        (remaining-engine
        ∙ ap₂ ◌-◌ (sym (at_listed engine_count remainings i in_engines ∙ remaining_open s.«open» s.amount i engine))
        (picked.is_rest ∙ sym (at_listed delivery_count rests pick.row in_deliveries))))
        (listed-set delivery_count rests (λ p. rest_of energy r p) pick.row 0 in_deliveries (λ p l n. rest-unmoved s r p (unmoved p n) energy) rest-row)
        (listed_same delivery_count (λ p. limit_of limit r p) (λ p. limit_of limit s p) (λ p l. limits-same p))

  pub laid : Laid energy limit s pick.row i r
  laid =
      record {
        kept =
            record {
              deliveries =
                  subst (λ (xs : List ℕ). Deliveries energy limit r.left r.untouched r.amount r.served xs) (sym lays.is_row) deliveries;
              engines = engines;
              lengths = record { amounts = amount-length ∙ kept.lengths.amounts; energies = kept.lengths.energies; limits = kept.lengths.limits };
            };
        sized = sized-after;
        state = state-after;
      }
