-- The slot in which a delivery lives after a cut: its own, or that of the engine where it was untouched.
-- Assumes nothing.
use Rattle.std.specs.Prelude.{◌≡◌, ◌≢◌, ◌⊎◌, true, false, List, ℕ, ◌+◌, ◌-◌, ◌^◌, ◌≤◌, ◌<◌, length, set, Some, None}
use Rattle.std.proofs.Common.{sym, ap, ◌∙◌, inl, inr, arith, length-set, pow_pos, get_or-set_same, get_or-set_other}
use Rattle.std.specs.Int.Count.{ones}
use Rattle.planning.proofs.Laws.Finite.Decisions.{equal_or_not}
use Rattle.planning.specs.Tables.{at}
use Rattle.search.specs.declared.state.Pick.{Pick}
use Rattle.search.specs.declared.state.State.{State}
use Rattle.search.specs.Layout.{holds, limit_of, Kept, Picked}
use Rattle.search.specs.Sets.{has}
use Rattle.search.specs.Laws.Sets.{clash, has_with_other, has-single-other, ones_with, ones_single}
use Rattle.search.specs.Laws.Layout.Serving.{open_inside, open_serves-none}
use Rattle.search.specs.Laws.Layout.Slots.{holds-used, holds_row, holds-inside, holds-free, holds-other}
use Rattle.search.specs.Laws.Layout.Picked.{no_other, not_none, Touched, only_slot, limit_in_slot, limit_in_plan}

-- r is s after a piece equal to what remains of engine i was cut off the delivery picked
pub record Cuts (s : State) (pick : Pick) (i : ℕ) (r : State) : Type 0 where
  pub is_left : r.left ≡ s.left
  pub is_untouched : Touched pick s.untouched r.untouched
  pub is_open : r.«open» ≡ s.«open» - 2 ^ i
  pub begun_amount : (k : ℕ) → pick.slot ≡ Some k → r.amount ≡ set s.amount k (pick.rest - at s.amount i)
  pub begun_served : (k : ℕ) → pick.slot ≡ Some k → r.served ≡ set s.served k (at s.served k + 2 ^ i)
  pub begun_row : (k : ℕ) → pick.slot ≡ Some k → r.row ≡ s.row
  pub fresh_amount : pick.slot ≡ None → r.amount ≡ set s.amount i (pick.rest - at s.amount i)
  pub fresh_served : pick.slot ≡ None → r.served ≡ set s.served i (2 ^ i)
  pub fresh_row : pick.slot ≡ None → r.row ≡ set s.row i pick.row

-- The delivery cut lives in slot t afterwards: its own, or that of the engine. What this slot has in r and had in s, while every
-- other slot is as it was.
pub record Slot (limit : List ℕ) (s : State) (row rest i : ℕ) (r : State) (t : ℕ) : Type 0 where
  pub amounts : length r.amount ≡ length s.amount
  pub serveds : length r.served ≡ length s.served
  pub rows : length r.row ≡ length s.row
  pub amount_here : at r.amount t ≡ rest - at s.amount i
  pub amount_other : (k : ℕ) → k ≢ t → at r.amount k ≡ at s.amount k
  pub served_here : (j : ℕ) → has (at r.served t) j ≡ true → (j ≡ i) ⊎ (has (at s.served t) j ≡ true)
  pub served_some : 0 < at r.served t
  pub served_other : (k : ℕ) → k ≢ t → at r.served k ≡ at s.served k
  pub served_few : ones (at r.served t) < at limit row
  pub limit_less : at limit row - ones (at r.served t) ≡ limit_of limit s row - 1
  pub row_here : at r.row t ≡ row
  pub row_other : (k : ℕ) → k ≢ t → at r.row k ≡ at s.row k
  -- before, no other slot was the delivery's, this one was no other delivery's, and no other engine here is open
  pub only_here : (k : ℕ) → k ≢ t → holds s.served s.row k row ≡ false
  pub not_others : (p : ℕ) → p ≢ row → holds s.served s.row t p ≡ false
  pub not_open : (j : ℕ) → has s.«open» j ≡ true → j ≢ i → j ≢ t

-- an array with one place written
set_here : (xs ys : List ℕ) (t v : ℕ) → t < length xs → ys ≡ set xs t v → at ys t ≡ v
set_here xs ys t v l e = ap (λ (zs : List ℕ). at zs t) e ∙ get_or-set_same xs t v 0 l

set_other : (xs ys : List ℕ) (t v : ℕ) → ys ≡ set xs t v → (k : ℕ) → k ≢ t → at ys k ≡ at xs k
set_other xs ys t v e k n = ap (λ (zs : List ℕ). at zs k) e ∙ get_or-set_other xs t k v 0 n

set-length : (xs ys : List ℕ) (t v : ℕ) → ys ≡ set xs t v → length ys ≡ length xs
set-length xs ys t v e = ap length e ∙ length-set xs t v

module _
    {energy limit : List ℕ}
    {s r : State}
    {pick : Pick}
    {i : ℕ}
    (kept : Kept energy limit s)
    (picked : Picked energy s pick)
    (several : 2 ≤ limit_of limit s pick.row)
    (engine : has s.«open» i ≡ true)
    (cuts : Cuts s pick i r) where
  -- where the delivery was begun before

  pub begun_slot : (slot : ℕ) → pick.slot ≡ Some slot → Slot limit s pick.row pick.rest i r slot
  begun_slot slot m =
      record {
        amounts = set-length s.amount r.amount slot _ (cuts.begun_amount slot m);
        serveds = set-length s.served r.served slot _ (cuts.begun_served slot m);
        rows = ap length (cuts.begun_row slot m);
        amount_here = set_here s.amount r.amount slot _ (omega (arith, inside, kept.deliveries.serveds)) (cuts.begun_amount slot m);
        amount_other = set_other s.amount r.amount slot _ (cuts.begun_amount slot m);
        served_here = λ j h. member j (ap (λ (v : ℕ). has v j) (sym here) ∙ h) (equal_or_not j i);
        served_some = omega (arith, here, used);
        served_other = set_other s.served r.served slot _ (cuts.begun_served slot m);
        served_few = omega (arith, counted, several, limit_in_slot kept picked slot m);
        limit_less = omega (arith, counted, limit_in_slot kept picked slot m);
        row_here = ap (λ (xs : List ℕ). at xs slot) (cuts.begun_row slot m) ∙ own;
        row_other = λ k n. ap (λ (xs : List ℕ). at xs k) (cuts.begun_row slot m);
        only_here = λ k n. only_slot kept picked k (no_other m n);
        not_others = λ p n. holds-other s.served s.row slot p (λ e. n (sym e ∙ own));
        not_open = λ j h n e. omega (arith, used, ap (at s.served) e, kept.engines.free j h);
      }
    where
      holding : holds s.served s.row slot pick.row ≡ true
      holding = (picked.is_slot.begun slot m).1

      used : 0 < at s.served slot
      used = holds-used s.served s.row slot pick.row holding

      inside : slot < length s.served
      inside = holds-inside s.served s.row slot pick.row holding

      own : at s.row slot ≡ pick.row
      own = holds_row s.served s.row slot pick.row holding

      here : at r.served slot ≡ at s.served slot + 2 ^ i
      here = set_here s.served r.served slot _ inside (cuts.begun_served slot m)

      new : has (at s.served slot) i ≡ false
      new = open_serves-none kept.engines slot i engine

      counted : ones (at r.served slot) ≡ ones (at s.served slot) + 1
      counted = ap ones here ∙ ones_with (at s.served slot) i new

      member : (j : ℕ) → has (at s.served slot + 2 ^ i) j ≡ true → (j ≡ i) ⊎ (j ≢ i) → (j ≡ i) ⊎ (has (at s.served slot) j ≡ true)
      member j h (inl e) = inl e
      member j h (inr n) = inr (sym (has_with_other (at s.served slot) i j new n) ∙ h)

  -- where it was untouched

  pub fresh_slot : pick.slot ≡ None → Slot limit s pick.row pick.rest i r i
  fresh_slot z =
      record {
        amounts = set-length s.amount r.amount i _ (cuts.fresh_amount z);
        serveds = set-length s.served r.served i _ (cuts.fresh_served z);
        rows = set-length s.row r.row i _ (cuts.fresh_row z);
        amount_here = set_here s.amount r.amount i _ inside (cuts.fresh_amount z);
        amount_other = set_other s.amount r.amount i _ (cuts.fresh_amount z);
        served_here = λ j h. inl (member j (ap (λ (v : ℕ). has v j) (sym here) ∙ h) (equal_or_not j i));
        served_some = omega (arith, here, pow_pos i);
        served_other = set_other s.served r.served i _ (cuts.fresh_served z);
        served_few = omega (arith, counted, several, limit_in_plan kept picked z);
        limit_less = omega (arith, counted, limit_in_plan kept picked z);
        row_here = set_here s.row r.row i _ (omega (arith, inside, kept.deliveries.rows)) (cuts.fresh_row z);
        row_other = set_other s.row r.row i _ (cuts.fresh_row z);
        only_here = λ k n. only_slot kept picked k (not_none z k);
        not_others = λ p n. holds-free s.served s.row i p (kept.engines.free i engine);
        not_open = λ j h n. n;
      }
    where
      inside : i < length s.amount
      inside = open_inside kept.engines i engine

      here : at r.served i ≡ 2 ^ i
      here = set_here s.served r.served i _ (omega (arith, inside, kept.deliveries.serveds)) (cuts.fresh_served z)

      counted : ones (at r.served i) ≡ 1
      counted = ap ones here ∙ ones_single i

      member : (j : ℕ) → has (2 ^ i) j ≡ true → (j ≡ i) ⊎ (j ≢ i) → j ≡ i
      member j h (inl e) = e
      member j h (inr n) = absurd (clash (has (2 ^ i) j) h (has-single-other i j n))
