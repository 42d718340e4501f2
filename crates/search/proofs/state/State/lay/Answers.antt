-- The delivery is a member of its sets, so the shifts fit and the subtractions do not wrap; the state returned is the one that the laws of
-- laying speak of.
use Rattle.std.proofs.Common.{ℕ, ◌-◌, ◌*◌, ◌%◌, ◌^◌, ◌<◌, ◌≡◌, refl, ap, arith}
use Rattle.search.specs.declared.state.Pick.{Pick}
use Rattle.search.specs.declared.state.State.{State}
use Rattle.search.specs.Laws.Sets.{shifted, shifted-le}
use Rattle.search.specs.Laws.Layout.Laying.{laid}
use Rattle.search.specs.Laws.Layout.Picked.{not_none, engine-below, row_below, slot_below}
use Rattle.search.specs.Layout.{Layable}
use Rattle.search.specs.Sets.{delivery_bits}
use Rattle.search.proofs.state.State.lay.Goals as goal

module _ {s : State} {pick : Pick} {i : ℕ} (can : Layable s pick i) where
  delivery_below : pick.row < delivery_bits
  delivery_below = omega (arith, row_below can.kept can.picked)

  delivery_bit : 1 * 2 ^ pick.row % 2 ^ delivery_bits ≡ 2 ^ pick.row
  delivery_bit = shifted delivery_bits pick.row delivery_below

pub open_after-requires : goal.open_after-requires
open_after-requires c = (engine-below c.requires.kept c.args.i c.requires.engine, c.requires.engine)

pub overflow_sub-self : goal.overflow_sub-self
overflow_sub-self c = shifted-le delivery_bits c.args.self.left c.args.pick.row (delivery_below c.requires) c.requires.picked.is_left

pub offset_bounds-self-slot : goal.offset_bounds-self-slot
offset_bounds-self-slot c = omega (arith, slot_below c.requires.kept c.requires.picked c.in-Some.slot c.in-Some.is)

pub bounds-self-slot : goal.bounds-self-slot
bounds-self-slot c = slot_below c.requires.kept c.requires.picked c.in-Some.slot c.in-Some.is

pub overflow_sub-self-in-None : goal.overflow_sub-self-in-None
overflow_sub-self-in-None c =
    shifted-le delivery_bits c.args.self.untouched c.args.pick.row (delivery_below c.requires) (c.requires.picked.is_slot.fresh c.in-None.is)

pub returns-in-Some : goal.returns-in-Some
returns-in-Some c energy limit kept picked one =
    laid kept picked one c.requires.engine c.requires.enough
    (record {
      is_left = ap (λ (n : ℕ). c.args.self.left - n) (delivery_bit c.requires);
      is_untouched = record { begun = λ k m. refl; fresh = λ z. absurd (not_none z _ c.in-Some.is) };
      is_amount = refl;
      begun_served = λ k m. let same : c.in-Some.slot ≡ k = cc (m, c.in-Some.is) in rw same;
      fresh_served = λ z. absurd (not_none z _ c.in-Some.is);
      is_row = refl;
      is_open = c.open_after.ensures;
    })

pub returns-in-None : goal.returns-in-None
returns-in-None c energy limit kept picked one =
    laid kept picked one c.requires.engine c.requires.enough
    (record {
      is_left = ap (λ (n : ℕ). c.args.self.left - n) (delivery_bit c.requires);
      is_untouched =
          record {
            begun = λ k m. absurd (not_none c.in-None.is k m);
            fresh = λ z. ap (λ (n : ℕ). c.args.self.untouched - n) (delivery_bit c.requires);
          };
      is_amount = refl;
      begun_served = λ k m. absurd (not_none c.in-None.is k m);
      fresh_served = λ z. refl;
      is_row = refl;
      is_open = c.open_after.ensures;
    })
