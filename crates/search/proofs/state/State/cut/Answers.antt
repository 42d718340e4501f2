-- The engine and the delivery are members of their sets, and the engine does not serve the delivery yet, so nothing wraps; the state
-- returned is the one that the laws of cutting speak of.
use Rattle.std.proofs.Common.{◌≡◌, Some, ℕ, ◌-◌, ◌*◌, ◌%◌, ◌^◌, ◌<◌, set, refl, ap, arith}
use Rattle.std.proofs.Math.Pow.{pow-lt}
use Rattle.planning.specs.Bounds.{most_engines}
use Rattle.planning.specs.Tables.{at}
use Rattle.search.specs.declared.state.Pick.{Pick}
use Rattle.search.specs.declared.state.State.{State}
use Rattle.search.specs.Laws.Sets.{shifted, shifted-le}
use Rattle.search.specs.Laws.Layout.Cutting.{cut_off}
use Rattle.search.specs.Laws.Layout.Picked.{not_none, engine-below, row_below, slot_below}
use Rattle.search.specs.Laws.Layout.Serving.{serving-below}
use Rattle.search.specs.Layout.{Cuttable}
use Rattle.search.specs.Sets.{engine_bits, delivery_bits}
use Rattle.search.proofs.state.State.cut.Goals as goal

-- a member of the arrays is a small number
bit_below : (i : ℕ) → i < most_engines → 1 * 2 ^ i % 2 ^ engine_bits < 2 ^ most_engines
bit_below i l = rw (shifted engine_bits i (omega arith)) (pow-lt l)

module _ {s : State} {pick : Pick} {i : ℕ} (can : Cuttable s pick i) where
  engine_below : i < most_engines
  engine_below = engine-below can.kept i can.engine

  delivery_below : pick.row < delivery_bits
  delivery_below = omega (arith, row_below can.kept can.picked)

  engine_bit : 1 * 2 ^ i % 2 ^ engine_bits ≡ 2 ^ i
  engine_bit = shifted engine_bits i (omega (arith, engine_below))

  -- where the delivery was begun before
  slot_inside : (k : ℕ) → pick.slot ≡ Some k → k < most_engines
  slot_inside = slot_below can.kept can.picked

  serving : (k : ℕ) → at s.served k < 2 ^ most_engines
  serving k = serving-below can.kept.engines most_engines k (omega (arith, can.kept.deliveries.serveds, can.kept.lengths.amounts))

pub overflow_sub-self : goal.overflow_sub-self
overflow_sub-self c = shifted-le engine_bits c.args.self.«open» c.args.i (omega (arith, engine_below c.requires)) c.requires.engine

pub offset_bounds-self-slot : goal.offset_bounds-self-slot
offset_bounds-self-slot c = omega (arith, slot_inside c.requires c.in-Some.slot c.in-Some.is)

pub bounds-self-slot : goal.bounds-self-slot
bounds-self-slot c = slot_inside c.requires c.in-Some.slot c.in-Some.is

pub offset_bounds-self-slot-in-Some : goal.offset_bounds-self-slot-in-Some
offset_bounds-self-slot-in-Some c = omega (arith, slot_inside c.requires c.in-Some.slot c.in-Some.is)

pub bounds-self-slot-in-Some : goal.bounds-self-slot-in-Some
bounds-self-slot-in-Some c = slot_inside c.requires c.in-Some.slot c.in-Some.is

pub overflow_add-self : goal.overflow_add-self
overflow_add-self c =
    omega (
      arith,
      serving c.requires c.in-Some.slot,
      bit_below c.args.i (engine_below c.requires),
      bit_below c.in-Some.slot (slot_inside c.requires c.in-Some.slot c.in-Some.is),
    )

pub bounds-self-slot-in-Some-2 : goal.bounds-self-slot-in-Some-2
bounds-self-slot-in-Some-2 c = slot_inside c.requires c.in-Some.slot c.in-Some.is

pub overflow_sub-self-in-None : goal.overflow_sub-self-in-None
overflow_sub-self-in-None c =
    shifted-le delivery_bits c.args.self.untouched c.args.pick.row (delivery_below c.requires) (c.requires.picked.is_slot.fresh c.in-None.is)

pub returns-in-Some : goal.returns-in-Some
returns-in-Some c energy limit kept picked several =
    let bit = engine_bit c.requires in
    cut_off kept picked several c.requires.engine c.requires.below
    (record {
      is_left = refl;
      is_untouched = record { begun = λ k m. refl; fresh = λ z. absurd (not_none z _ c.in-Some.is) };
      is_open = ap (λ (n : ℕ). c.args.self.«open» - n) bit;
      begun_amount = λ k m. let same : c.in-Some.slot ≡ k = cc (m, c.in-Some.is) in rw same;
      begun_served = λ k m. let same : c.in-Some.slot ≡ k = cc (m, c.in-Some.is) in rw (same, bit);
      begun_row = λ k m. refl;
      fresh_amount = λ z. absurd (not_none z _ c.in-Some.is);
      fresh_served = λ z. absurd (not_none z _ c.in-Some.is);
      fresh_row = λ z. absurd (not_none z _ c.in-Some.is);
    })

pub returns-in-None : goal.returns-in-None
returns-in-None c energy limit kept picked several =
    cut_off kept picked several c.requires.engine c.requires.below
    (record {
      is_left = refl;
      is_untouched =
          record {
            begun = λ k m. absurd (not_none c.in-None.is k m);
            fresh = λ z. ap (λ (n : ℕ). c.args.self.untouched - n) (shifted delivery_bits c.args.pick.row (delivery_below c.requires));
          };
      is_open = ap (λ (n : ℕ). c.args.self.«open» - n) (engine_bit c.requires);
      begun_amount = λ k m. absurd (not_none c.in-None.is k m);
      begun_served = λ k m. absurd (not_none c.in-None.is k m);
      begun_row = λ k m. absurd (not_none c.in-None.is k m);
      fresh_amount = λ z. refl;
      fresh_served = λ z. ap (λ (n : ℕ). set c.args.self.served c.args.i n) (engine_bit c.requires);
      fresh_row = λ z. refl;
    })
