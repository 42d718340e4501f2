-- If a delivery that must be cut has a piece to spare, some piece of it can fill an engine: it takes over the engine z that straight
-- fill fails at, with a part of its largest piece, and the other deliveries' pieces there go where that largest piece is.
-- Assumes nothing.
use Rattle.std.specs.Prelude.{◌≡◌, refl, ◌≢◌, ℕ, ◌+◌, ◌-◌, ◌≤◌, ◌<◌}
use Rattle.std.proofs.Common.{ap, ◌∙◌, mul-le-mul_right, arith}
use Rattle.std.proofs.Math.Nat.{lt_of_mul-lt-mul_left}
use Rattle.planning.specs.Sum.{sum, sgn, positives}
use Rattle.planning.specs.Cutting.{Fits}
use Rattle.planning.proofs.Laws.Finite.Decisions.{at-or_else, at_two_or_else}
use Rattle.planning.proofs.Laws.Finite.Update.{update, update_same, update_other}
use Rattle.planning.proofs.Laws.Finite.Sums.{sum_ext, sum-add, sum-single, entry-le-sum, sgn-zero, sgn-pos, sgn-le-one, sgn-add}
use Rattle.planning.proofs.Laws.Finite.Extremes.{Extreme, largest, sum-le-largest}
use Rattle.planning.proofs.Laws.Saturation.Moves.{Moved, move, moved, moved_else, moved_sum, moved-from, moved_to, moved-positives}
use Rattle.planning.proofs.Laws.Saturation.Statement.{MustCut, Saturated, piece-le-capacity}

-- Delivery j moves so much from engine t to z that it has c there; the other deliveries move what they have on z to t.
record TakenOver (x y : ℕ → ℕ → ℕ) (j t z c : ℕ) : Type 0 where
  own : Moved (x j) (y j) t z (c - x j z)
  others : (p : ℕ) → p ≢ j → Moved (x p) (y p) z t (x p z)

module _ {engines deliveries : ℕ} {capacity amount limit : ℕ → ℕ} {j z : ℕ} (must : MustCut engines deliveries capacity amount limit j z)
    {x : ℕ → ℕ → ℕ} (fits : Fits engines deliveries capacity amount limit x) (spare : positives engines (x j) < limit j) where
  -- the largest piece of j is larger than engine z
  largest-piece : (b : Extreme ◌≤◌ engines (x j)) → capacity z < x j b.place
  largest-piece b =
      lt_of_mul-lt-mul_left (limit j - 1)
      (omega (arith, must.small, sum-le-largest b, fits.whole j must.delivery, mul-le-mul_right (x j b.place) pieces))
    where
      pieces : positives engines (x j) ≤ limit j - 1
      pieces = omega arith

  module _ {t : ℕ} (t-below : t < engines) (large : capacity z < x j t) where
    piece_z : x j z ≤ capacity z
    piece_z = piece-le-capacity fits j z must.delivery must.engine

    t≢z : t ≢ z
    t≢z e = omega (arith, ap (x j) e, piece_z)

    z≢t : z ≢ t
    z≢t = omega (arith, t≢z)

    module _ {y : ℕ → ℕ → ℕ} (taken : TakenOver x y j t z (capacity z)) where
      full : y j z ≡ capacity z
      full = omega (arith, moved_to taken.own t≢z, piece_z)

      -- the others are off z
      empty : (p : ℕ) → p ≢ j → y p z ≡ 0
      empty p n = omega (arith, moved-from (taken.others p n) z≢t)

      -- together a delivery has on t and z what it had
      pair : (p : ℕ) → y p t + y p z ≡ x p t + x p z
      pair =
          at-or_else (λ p. y p t + y p z ≡ x p t + x p z) j (omega (arith, moved-from taken.own t≢z, moved_to taken.own t≢z))
          (λ p n. omega (arith, moved-from (taken.others p n) z≢t, moved_to (taken.others p n) z≢t))

      apart : (i : ℕ) → i ≢ z → i ≢ t → (p : ℕ) → y p i ≡ x p i
      apart i c e = at-or_else (λ p. y p i ≡ x p i) j (moved_else taken.own i e c) (λ p n. moved_else (taken.others p n) i c e)

      load_z : sum deliveries (λ p. y p z) ≡ capacity z
      load_z = sum-single deliveries (λ p. y p z) j must.delivery (λ p l n. empty p n) ∙ full

      load_t : sum deliveries (λ p. y p t) ≤ capacity t
      load_t =
          omega (
            arith,
            sum-add deliveries (λ p. y p t) (λ p. y p z),
            sum-add deliveries (λ p. x p t) (λ p. x p z),
            pairs,
            load_z,
            fits.within z must.engine,
            fits.within t t-below,
          )
        where
          pairs : sum deliveries (λ p. y p t + y p z) ≡ sum deliveries (λ p. x p t + x p z)
          pairs = sum_ext deliveries (λ p. y p t + y p z) (λ p. x p t + x p z) (λ p l. pair p)

      within : (i : ℕ) → i < engines → sum deliveries (λ p. y p i) ≤ capacity i
      within =
          at_two_or_else (λ i. i < engines → sum deliveries (λ p. y p i) ≤ capacity i) z t (λ l. omega (arith, load_z)) (λ l. load_t)
          (λ i c e l. omega (arith, sum_ext deliveries (λ p. y p i) (λ p. x p i) (λ p s. apart i c e p), fits.within i l))

      whole : (p : ℕ) → p < deliveries → sum engines (y p) ≡ amount p
      whole =
          at-or_else (λ p. p < deliveries → sum engines (y p) ≡ amount p) j
          (λ l. moved_sum taken.own engines t-below must.engine ∙ fits.whole j l)
          (λ p n l. moved_sum (taken.others p n) engines must.engine t-below ∙ fits.whole p l)

      few : (p : ℕ) → p < deliveries → positives engines (y p) ≤ limit p
      few = at-or_else (λ p. p < deliveries → positives engines (y p) ≤ limit p) j own-few others-few
        where
          own-few : j < deliveries → positives engines (y j) ≤ limit j
          own-few l =
              omega (
                arith,
                moved-positives taken.own engines t-below must.engine t≢z,
                sgn-pos (x j t) (omega arith),
                sgn-le-one (y j t),
                sgn-le-one (y j z),
              )

          others-few : (p : ℕ) → p ≢ j → p < deliveries → positives engines (y p) ≤ limit p
          others-few p n l =
              omega (
                arith,
                moved-positives (taken.others p n) engines must.engine t-below z≢t,
                sgn-zero (y p z) (empty p n),
                ap sgn (moved_to (taken.others p n) z≢t),
                sgn-add (x p t) (x p z),
                fits.few p l,
              )

      saturated : Saturated engines deliveries capacity amount limit j
      saturated =
          record {
            table = y;
            fits = record { whole = whole; within = within; few = few };
            engine = z;
            engine-below = must.engine;
            open_engine = must.open_engine;
            smaller = omega (arith, entry-le-sum engines (x j) t t-below, fits.whole j must.delivery);
            full = full;
          }

    own_row : ℕ → ℕ
    own_row = move t z (capacity z - x j z) (x j)

    other_row : ℕ → ℕ → ℕ
    other_row p = move z t (x p z) (x p)

    taken-over : TakenOver x (update other_row j own_row) j t z (capacity z)
    unfolding own_row other_row
    taken-over =
        record {
          own = rw (update_same other_row j own_row refl) (moved (x j) t z (capacity z - x j z) (omega arith));
          others = λ p n. rw (update_other other_row j own_row n) (moved (x p) z t (x p z) (omega arith));
        }

  pub take-over : Saturated engines deliveries capacity amount limit j
  take-over = go (largest engines (x j) (omega (arith, fits.whole j must.delivery, must.left)))
    where
      go : Extreme ◌≤◌ engines (x j) → Saturated engines deliveries capacity amount limit j
      go b = saturated b.place-below (largest-piece b) (taken-over b.place-below (largest-piece b))
