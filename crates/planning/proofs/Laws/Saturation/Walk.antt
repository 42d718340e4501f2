-- From any table that fits, the walk comes to one in which a piece of the delivery that must be cut fills an engine.
-- Assumes nothing.
use Rattle.std.specs.Prelude.{◌≡◌, ◌≢◌, ℕ, ◌+◌, ◌-◌, ◌*◌, ◌≤◌, ◌<◌, min}
use Rattle.std.proofs.Common.{sym, ◌∙◌, ⊎_elim, mul-le-mul_right, arith}
use Rattle.planning.specs.Sum.{sum, positives}
use Rattle.planning.specs.Cutting.{Fits}
use Rattle.planning.proofs.Laws.Finite.Decisions.{le-or-lt}
use Rattle.planning.proofs.Laws.Finite.Update.{update, update_other, update-zero-elsewhere}
use Rattle.planning.proofs.Laws.Finite.Sums.{sum-single, sum-without, two_entries_le-sum, positives-mul-le-sum, positives-without}
use Rattle.planning.proofs.Laws.Finite.Extremes.{Extreme, largest, largest-or-none, sum-le-largest}
use Rattle.planning.proofs.Laws.Saturation.Carry.{Chain}
use Rattle.planning.proofs.Laws.Finite.Descent.{descent}
use Rattle.planning.proofs.Laws.Saturation.Statement.{MustCut, Saturated}
use Rattle.planning.proofs.Laws.Saturation.TakeOver.{take-over}
use Rattle.planning.proofs.Laws.Saturation.WalkState.{Position, SettledBelow, pieces}
use Rattle.planning.proofs.Laws.Saturation.UnitMove.{room, rotate}
use Rattle.planning.proofs.Laws.Saturation.Exchange.{exchange}

-- the largest piece of delivery j other than the one on engine e
record Second (engines : ℕ) (amount limit : ℕ → ℕ) (x : ℕ → ℕ → ℕ) (j e : ℕ) : Type 0 where
  place : ℕ
  place-below : place < engines
  elsewhere : e ≢ place
  positive : 0 < x j place
  bound : amount j ≤ x j e + (limit j - 1) * x j place

module _ {engines deliveries : ℕ} {capacity amount limit : ℕ → ℕ} {j z : ℕ} (must : MustCut engines deliveries capacity amount limit j z)
    {x : ℕ → ℕ → ℕ} {rank : ℕ → ℕ} {e : ℕ}
    (fits : Fits engines deliveries capacity amount limit x) (chain : Chain engines deliveries x j rank e)
    (settled : SettledBelow engines deliveries capacity amount limit j x rank e) where
  -- Delivery j has all the pieces that it may have, so at least two.
  second : limit j ≤ positives engines (x j) → Second engines amount limit x j e
  second all = go (largest engines without_e (omega (arith, positives-mul-le-sum engines without_e 1 (λ i l k. k), count, cuttable)))
    where
      without_e : ℕ → ℕ
      without_e = update (x j) e 0

      count : positives engines without_e + 1 ≡ positives engines (x j)
      count = positives-without engines (x j) e chain.end_below chain.piece

      total : sum engines without_e + x j e ≡ amount j
      total = sum-without engines (x j) e chain.end_below ∙ fits.whole j must.delivery

      cuttable : 2 ≤ limit j
      cuttable = must.cuttable j must.delivery must.left

      others : positives engines without_e ≤ limit j - 1
      others = omega (arith, count, fits.few j must.delivery)

      go : Extreme ◌≤◌ engines without_e → Second engines amount limit x j e
      go t =
          record {
            place = t.place;
            place-below = t.place-below;
            elsewhere = omega (arith, elsewhere);
            positive = omega (arith, entry, t.positive);
            bound = omega (arith, rw entry at (sum-le-largest t), total, mul-le-mul_right (x j t.place) others);
          }
        where
          elsewhere : t.place ≢ e
          elsewhere = update-zero-elsewhere (x j) e t.place t.positive

          entry : without_e t.place ≡ x j t.place
          entry = update_other (x j) e 0 elsewhere

  -- Engine b is another one that delivery j is on.
  module _ {b : ℕ} (b-below : b < engines) (e≢b : e ≢ b) (j-on-b : 0 < x j b) where
    -- Engine b is full, and delivery j is alone on it.
    alone : capacity b ≤ sum deliveries (λ p. x p b) → ((p : ℕ) → p < deliveries → update (λ r. x r b) j 0 p ≡ 0)
        → Saturated engines deliveries capacity amount limit j
    alone full none =
        record {
          table = x;
          fits = fits;
          engine = b;
          engine-below = b-below;
          open_engine = omega (arith, filled);
          smaller = omega (arith, filled, two_pieces, chain.piece, fits.whole j must.delivery);
          full = filled;
        }
      where
        two_pieces : x j e + x j b ≤ sum engines (x j)
        two_pieces = two_entries_le-sum engines (x j) e b chain.end_below b-below e≢b

        off : (p : ℕ) → p < deliveries → p ≢ j → x p b ≡ 0
        off p l n = sym (update_other (λ r. x r b) j 0 n) ∙ none p l

        filled : x j b ≡ capacity b
        filled = omega (arith, fits.within b b-below, sum-single deliveries (λ p. x p b) j must.delivery off)

    -- Another delivery q is on b: it is on an engine of the chain too, or on none.
    shared : amount j ≤ x j e + (limit j - 1) * x j b → Extreme ◌≤◌ deliveries (update (λ p. x p b) j 0)
        → Saturated engines deliveries capacity amount limit j
    shared bound t = ⊎_elim on_chain off-chain (largest-or-none engines (λ i. min (rank i) (x q i)))
      where
        q : ℕ
        q = t.place

        elsewhere : q ≢ j
        elsewhere = update-zero-elsewhere (λ p. x p b) j q t.positive

        j≢q : j ≢ q
        j≢q = omega (arith, elsewhere)

        q_on_b : 0 < x q b
        q_on_b = omega (arith, update_other (λ p. x p b) j 0 elsewhere, t.positive)

        on_chain : Extreme ◌≤◌ engines (λ i. min (rank i) (x q i)) → Saturated engines deliveries capacity amount limit j
        on_chain w =
            rotate must fits chain b-below e≢b j-on-b settled t.place-below j≢q q_on_b w.place-below (omega (arith, w.positive))
            (omega (arith, w.positive))

        off-chain : ((i : ℕ) → i < engines → min (rank i) (x q i) ≡ 0) → Saturated engines deliveries capacity amount limit j
        off-chain none =
            exchange must fits chain b-below e≢b j-on-b settled t.place-below j≢q q_on_b (λ i l r. omega (arith, none i l)) bound

    -- There is room on b, or b is full and shared with another delivery, or full and not shared.
    at_second : amount j ≤ x j e + (limit j - 1) * x j b → Saturated engines deliveries capacity amount limit j
    at_second bound = ⊎_elim full (room must fits chain b-below e≢b j-on-b settled) (le-or-lt (capacity b) (sum deliveries (λ p. x p b)))
      where
        full : capacity b ≤ sum deliveries (λ p. x p b) → Saturated engines deliveries capacity amount limit j
        full h = ⊎_elim (shared bound) (alone h) (largest-or-none deliveries (update (λ p. x p b) j 0))

  -- If delivery j has all the pieces that it may have, look at its second engine.
  step : Saturated engines deliveries capacity amount limit j
  step = ⊎_elim (λ all. go (second all)) (take-over must fits) (le-or-lt (limit j) (positives engines (x j)))
    where
      go : Second engines amount limit x j e → Saturated engines deliveries capacity amount limit j
      go t = at_second t.place-below t.elsewhere t.positive t.bound

-- by induction on the pieces of the table, the engines off the chain and the piece at its end
pub walk : {engines deliveries : ℕ} {capacity amount limit : ℕ → ℕ} {j z : ℕ} → MustCut engines deliveries capacity amount limit j z
    → Position engines deliveries capacity amount limit j → Saturated engines deliveries capacity amount limit j
walk {engines} {deliveries} {capacity} {amount} {limit} {j} must =
    descent (λ (s : Position engines deliveries capacity amount limit j). Saturated engines deliveries capacity amount limit j)
    (λ s. pieces engines deliveries s.table) (λ s. engines - positives engines s.rank) (λ s. s.table j s.end)
    (λ s. step must s.fits s.chain)
