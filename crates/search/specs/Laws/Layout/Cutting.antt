-- Cutting a delivery of limit 2 or more at an engine is document 01's step, and the state after it is kept again.
-- Assumes nothing.
use Rattle.std.specs.Prelude.{◌≡◌, ◌≢◌, ◌⊎◌, Bool, List, length, Some, None}
use Rattle.std.proofs.Math.Path.{refl, sym, ap, ap₂}
use Rattle.std.proofs.Common.{◌∙◌, inl, inr, arith}
use Rattle.std.proofs.Math.Bool.{true, false, cond}
use Prim.Native.Nat.{ℕ, ◌-◌, ◌≤◌, ◌<◌}
use Rattle.std.specs.Int.Count.{ones}
use Rattle.planning.specs.Bounds.{most_energy}
use Rattle.planning.proofs.Laws.Finite.Decisions.{equal_or_not, at-or_else}
use Rattle.planning.proofs.Laws.Tables.{at_listed}
use Rattle.planning.specs.Tables.{listed, at}
use Rattle.planning.specs.Plan.{Within}
use Rattle.planning.specs.Search.{after_cutting}
use Rattle.search.specs.declared.state.Pick.{Pick}
use Rattle.search.specs.declared.state.State.{State}
use Rattle.search.specs.Layout.{holds, remaining_at, rest_of, limit_of, state_of, Lengths, Deliveries, Engines, Kept, Sized, Picked, CutOff}
use Rattle.search.specs.Sets.{has}
use Rattle.search.specs.Laws.Documents.{listed-set, same_document}
use Rattle.search.specs.Laws.Layout.Remaining.{remaining_open}
use Rattle.search.specs.Laws.Sets.{clash, has-without-same, has-without-other}
use Rattle.search.specs.Laws.Layout.CutSlot.{Cuts, Slot, begun_slot, fresh_slot}
use Rattle.search.specs.Laws.Layout.Serving.{open_inside}
use Rattle.search.specs.Laws.Layout.Slots.{holds_by, holds-other, holds_alike, rest_of_slot, served_of_slot, rest_touched, limit-begun}
use Rattle.search.specs.Laws.Layout.Slots.{Unmoved, rest-unmoved, limit-unmoved}
use Rattle.search.specs.Laws.Layout.Picked.{slot_cases, rest_range, touched_row, touched_other}

module _
    {energy limit : List ℕ}
    {s r : State}
    {pick : Pick}
    {i : ℕ}
    (kept : Kept energy limit s)
    (picked : Picked energy s pick)
    (several : 2 ≤ limit_of limit s pick.row)
    (engine : has s.«open» i ≡ true)
    (below : at s.amount i < pick.rest)
    (cuts : Cuts s pick i r) where
  -- the sets, place by place

  left-same : (p : ℕ) → has r.left p ≡ has s.left p
  left-same p = ap (λ (n : ℕ). has n p) cuts.is_left

  untouched-row : has r.untouched pick.row ≡ false
  untouched-row = touched_row kept picked r.untouched cuts.is_untouched

  untouched-other : (p : ℕ) → p ≢ pick.row → has r.untouched p ≡ has s.untouched p
  untouched-other = touched_other kept picked r.untouched cuts.is_untouched

  -- what is untouched was untouched, and what was begun is begun
  was_untouched : (p : ℕ) → has r.untouched p ≡ true → has s.untouched p ≡ true
  was_untouched =
      at-or_else (λ p. has r.untouched p ≡ true → has s.untouched p ≡ true) pick.row
      (λ h. absurd (clash (has r.untouched pick.row) h untouched-row)) (λ p n h. sym (untouched-other p n) ∙ h)

  still_begun : (p : ℕ) → has s.untouched p ≡ false → has r.untouched p ≡ false
  still_begun = at-or_else (λ p. has s.untouched p ≡ false → has r.untouched p ≡ false) pick.row (λ h. untouched-row) (λ p n h. untouched-other p n ∙ h)

  open_engine : has r.«open» i ≡ false
  open_engine = ap (λ (m : ℕ). has m i) cuts.is_open ∙ has-without-same s.«open» i engine

  open_other : (j : ℕ) → j ≢ i → has r.«open» j ≡ has s.«open» j
  open_other j n = ap (λ (m : ℕ). has m j) cuts.is_open ∙ has-without-other s.«open» i j engine n

  not-engine : (j : ℕ) → has r.«open» j ≡ true → j ≢ i
  not-engine j h e = clash (has r.«open» j) h (ap (has r.«open») e ∙ open_engine)

  was_open : (j : ℕ) → has r.«open» j ≡ true → has s.«open» j ≡ true
  was_open j h = sym (open_other j (not-engine j h)) ∙ h

  still_closed : (j : ℕ) → has s.«open» j ≡ false → has r.«open» j ≡ false
  still_closed = at-or_else (λ j. has s.«open» j ≡ false → has r.«open» j ≡ false) i (λ h. open_engine) (λ j n h. open_other j n ∙ h)

  module _ (t : ℕ) (cell : Slot limit s pick.row pick.rest i r t) where
    holds-here : holds r.served r.row t pick.row ≡ true
    holds-here = holds_by r.served r.row t pick.row cell.served_some cell.row_here

    holds-elsewhere : (k p : ℕ) → k ≢ t → holds r.served r.row k p ≡ holds s.served s.row k p
    holds-elsewhere k p n = holds_alike s.served s.row r.served r.row k p (cell.served_other k n) (cell.row_other k n)

    only_here : (k : ℕ) → k ≢ t → holds r.served r.row k pick.row ≡ false
    only_here k n = holds-elsewhere k pick.row n ∙ cell.only_here k n

    was_used : (k : ℕ) → k ≢ t → 0 < at r.served k → 0 < at s.served k
    was_used k n u = omega (arith, cell.served_other k n)

    -- a delivery other than the one cut has its slot as before
    holds-other-delivery : (p : ℕ) → p ≢ pick.row → (k : ℕ) → holds r.served r.row k p ≡ holds s.served s.row k p
    holds-other-delivery p n =
        at-or_else (λ k. holds r.served r.row k p ≡ holds s.served s.row k p) t
        (holds-other r.served r.row t p (λ e. n (sym e ∙ cell.row_here)) ∙ sym (cell.not_others p n))
        (λ k d. holds-elsewhere k p d)

    elsewhere : (p : ℕ) → p ≢ pick.row → (k : ℕ) → holds s.served s.row k p ≡ true → k ≢ t
    elsewhere p n k h e =
        clash (holds s.served s.row k p) h (ap (λ (m : ℕ). holds s.served s.row m p) e ∙ cell.not_others p n)

    unmoved : (p : ℕ) → p ≢ pick.row → Unmoved s r p
    unmoved p n =
        record {
          same_slots = cell.serveds;
          same_left = left-same p;
          same_untouched = untouched-other p n;
          same_holds = holds-other-delivery p n;
          same_amount = λ k h. cell.amount_other k (elsewhere p n k h);
          same_served = λ k h. cell.served_other k (elsewhere p n k h);
        }

    -- the state is kept

    deliveries : Deliveries energy limit r.left r.untouched r.amount r.served r.row
    deliveries =
        record {
          serveds = cell.serveds ∙ kept.deliveries.serveds ∙ sym cell.amounts;
          rows = cell.rows ∙ kept.deliveries.rows ∙ sym cell.amounts;
          in_range = λ p h. kept.deliveries.in_range p (sym (left-same p) ∙ h);
          untouched_left = λ p h. left-same p ∙ kept.deliveries.untouched_left p (was_untouched p h);
          slot_left = slot-left;
          slot_begun = slot-begun;
          slot_rests = slot-rests;
          slot_few = slot-few;
          slotted = λ p h u. slotted p (equal_or_not p pick.row) h u;
          alone = λ k l u v e. alone k l u v e (equal_or_not k t) (equal_or_not l t);
        }
      where
        slot-left : (k : ℕ) → 0 < at r.served k → has r.left (at r.row k) ≡ true
        slot-left =
            at-or_else (λ k. 0 < at r.served k → has r.left (at r.row k) ≡ true) t
            (λ u. rw cell.row_here (left-same pick.row ∙ picked.is_left))
            (λ k n u. rw (cell.row_other k n) (left-same (at s.row k) ∙ kept.deliveries.slot_left k (was_used k n u)))

        slot-begun : (k : ℕ) → 0 < at r.served k → has r.untouched (at r.row k) ≡ false
        slot-begun =
            at-or_else (λ k. 0 < at r.served k → has r.untouched (at r.row k) ≡ false) t
            (λ u. rw cell.row_here untouched-row)
            (λ k n u. rw (cell.row_other k n) (still_begun (at s.row k) (kept.deliveries.slot_begun k (was_used k n u))))

        slot-rests : (k : ℕ) → 0 < at r.served k → Within 1 most_energy (at r.amount k)
        slot-rests =
            at-or_else (λ k. 0 < at r.served k → Within 1 most_energy (at r.amount k)) t
            (λ u. record {
              least = omega (arith, cell.amount_here, below);
              most = omega (arith, cell.amount_here, (rest_range kept picked).most);
            })
            (λ k n u. rw (cell.amount_other k n) (kept.deliveries.slot_rests k (was_used k n u)))

        slot-few : (k : ℕ) → 0 < at r.served k → ones (at r.served k) < at limit (at r.row k)
        slot-few =
            at-or_else (λ k. 0 < at r.served k → ones (at r.served k) < at limit (at r.row k)) t
            (λ u. rw cell.row_here cell.served_few)
            (λ k n u. rw (cell.row_other k n, cell.served_other k n) (kept.deliveries.slot_few k (was_used k n u)))

        slotted : (p : ℕ) → (p ≡ pick.row) ⊎ (p ≢ pick.row) → has r.left p ≡ true → has r.untouched p ≡ false
            → (k : ℕ) × (holds r.served r.row k p ≡ true)
        slotted p (inl e) h u = (t, ap (holds r.served r.row t) e ∙ holds-here)
        slotted p (inr n) h u =
            let old = kept.deliveries.slotted p (sym (left-same p) ∙ h) (sym (untouched-other p n) ∙ u) in
            (old.0, holds-other-delivery p n old.0 ∙ old.1)

        -- another slot in use is not the delivery's
        foreign : (k : ℕ) → k ≢ t → 0 < at r.served k → at r.row k ≢ at r.row t
        foreign k n u e =
            clash (holds r.served r.row k pick.row) (holds_by r.served r.row k pick.row u (e ∙ cell.row_here)) (only_here k n)

        alone : (k l : ℕ) → 0 < at r.served k → 0 < at r.served l → at r.row k ≡ at r.row l
            → (k ≡ t) ⊎ (k ≢ t) → (l ≡ t) ⊎ (l ≢ t) → k ≡ l
        alone k l u v e (inl c) (inl d) = c ∙ sym d
        alone k l u v e (inl c) (inr d) = absurd (foreign l d v (sym e ∙ ap (at r.row) c))
        alone k l u v e (inr c) (inl d) = absurd (foreign k c u (e ∙ ap (at r.row) d))
        alone k l u v e (inr c) (inr d) =
            kept.deliveries.alone k l (was_used k c u) (was_used l d v) (sym (cell.row_other k c) ∙ e ∙ cell.row_other l d)

    not_slot : (j : ℕ) → has r.«open» j ≡ true → j ≢ t
    not_slot j h = cell.not_open j (was_open j h) (not-engine j h)

    engines : Engines r.«open» r.amount r.served
    engines =
        record {
          remains = λ j h. rw (cell.amount_other j (not_slot j h)) (kept.engines.remains j (was_open j h));
          free = λ j h. cell.served_other j (not_slot j h) ∙ kept.engines.free j (was_open j h);
          closed = closed;
        }
      where
        old : (k j : ℕ) → has (at s.served k) j ≡ true → (j < length r.served) × (has r.«open» j ≡ false)
        old k j h = let was = kept.engines.closed k j h in (omega (arith, was.0, cell.serveds), still_closed j was.1)

        here : (j : ℕ) → (j ≡ i) ⊎ (has (at s.served t) j ≡ true) → (j < length r.served) × (has r.«open» j ≡ false)
        here j (inl e) = (
          omega (arith, open_inside kept.engines i engine, kept.deliveries.serveds, cell.serveds),
          ap (has r.«open») e ∙ open_engine,
        )
        here j (inr h) = old t j h

        closed : (k j : ℕ) → has (at r.served k) j ≡ true → (j < length r.served) × (has r.«open» j ≡ false)
        closed k j =
            at-or_else (λ k. has (at r.served k) j ≡ true → (j < length r.served) × (has r.«open» j ≡ false)) t
            (λ h. here j (cell.served_here j h))
            (λ k n h. old k j (ap (λ (v : ℕ). has v j) (sym (cell.served_other k n)) ∙ h)) k

    lengths : Lengths energy limit r.amount
    lengths = record { amounts = cell.amounts ∙ kept.lengths.amounts; energies = kept.lengths.energies; limits = kept.lengths.limits }

    -- and is document 01's

    rest-row : rest_of energy r pick.row ≡ pick.rest - at s.amount i
    rest-row =
        rest_touched energy r.untouched r.amount r.served r.row pick.row untouched-row
        ∙ rest_of_slot r.amount r.served r.row pick.row t holds-here only_here
        ∙ cell.amount_here

    limit-row : limit_of limit r pick.row ≡ limit_of limit s pick.row - 1
    limit-row =
        limit-begun limit r.left r.untouched r.served r.row pick.row (left-same pick.row ∙ picked.is_left) untouched-row
        ∙ ap (λ (n : ℕ). at limit pick.row - ones n) (served_of_slot r.served r.row pick.row t holds-here only_here)
        ∙ cell.limit_less

    remaining-engine : remaining_at r.«open» r.amount i ≡ 0
    unfolding remaining_at
    remaining-engine = ap (λ (b : Bool). cond b (at r.amount i) 0) open_engine

    remaining-other : (j : ℕ) → j ≢ i → remaining_at r.«open» r.amount j ≡ remaining_at s.«open» s.amount j
    unfolding remaining_at
    remaining-other j n = go (has s.«open» j) refl
      where
        go : (b : Bool) → has s.«open» j ≡ b → cond (has r.«open» j) (at r.amount j) 0 ≡ cond (has s.«open» j) (at s.amount j) 0
        go true e = ap₂ (λ (c : Bool) (x : ℕ). cond c x 0) (open_other j n) (cell.amount_other j (cell.not_open j e n))
        go false e =
            ap (λ (c : Bool). cond c (at r.amount j) 0) (open_other j n ∙ e) ∙ sym (ap (λ (c : Bool). cond c (at s.amount j) 0) e)

    module _ (engine_count delivery_count : ℕ) (sized : Sized engine_count delivery_count s.left s.«open») where
      sized-after : Sized engine_count delivery_count r.left r.«open»
      sized-after =
          record {
            engine_set = λ j h. sized.engine_set j (was_open j h);
            delivery_set = λ p h. sized.delivery_set p (sym (left-same p) ∙ h);
          }

      state-after : state_of engine_count delivery_count energy limit r ≡ after_cutting (state_of engine_count delivery_count energy limit s) pick.row i
      unfolding state_of after_cutting
      state-after =
          let in_engines : i < engine_count = sized.engine_set i engine in
          let in_deliveries : pick.row < delivery_count = sized.delivery_set pick.row picked.is_left in
          let remainings : ℕ → ℕ = λ j. remaining_at s.«open» s.amount j in
          let rests : ℕ → ℕ = λ p. rest_of energy s p in
          let limits : ℕ → ℕ = λ p. limit_of limit s p in
          same_document _ _ _ _ _ _
          (listed-set engine_count remainings (λ j. remaining_at r.«open» r.amount j) i 0 in_engines
          (λ j l n. remaining-other j n) remaining-engine)
          (listed-set delivery_count rests (λ p. rest_of energy r p) pick.row
          (at (listed delivery_count rests) pick.row - at (listed engine_count remainings) i) in_deliveries
          (λ p l n. rest-unmoved s r p (unmoved p n) energy)
          (rest-row
          ∙ ap₂ ◌-◌ (picked.is_rest ∙ sym (at_listed delivery_count rests pick.row in_deliveries))
          (sym (at_listed engine_count remainings i in_engines ∙ remaining_open s.«open» s.amount i engine))))
          (listed-set delivery_count limits (λ p. limit_of limit r p) pick.row (at (listed delivery_count limits) pick.row - 1) in_deliveries
          (λ p l n. limit-unmoved s r p (unmoved p n) limit)
          (limit-row ∙ ap (λ (n : ℕ). n - 1) (sym (at_listed delivery_count limits pick.row in_deliveries))))

    cut_in_slot : CutOff energy limit s pick.row i r
    cut_in_slot = record { kept = record { deliveries = deliveries; engines = engines; lengths = lengths }; sized = sized-after; state = state-after }

  pub cut_off : CutOff energy limit s pick.row i r
  cut_off = go (slot_cases pick.slot)
    where
      go : (pick.slot ≡ None) ⊎ ((k : ℕ) × (pick.slot ≡ Some k)) → CutOff energy limit s pick.row i r
      go (inl z) = cut_in_slot i (fresh_slot kept picked several engine cuts z)
      go (inr (k, m)) = cut_in_slot k (begun_slot kept picked several engine cuts k m)
