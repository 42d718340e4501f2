-- The steps of the walk at a delivery q that is on no engine of the chain, and on an engine b beside delivery j: j moves load from the
-- end e of the chain to b, and q as much from b to e.
-- Assumes nothing.
use Rattle.std.specs.Prelude.{◌≡◌, ◌≢◌, ℕ, ◌+◌, ◌-◌, ◌*◌, ◌≤◌, ◌<◌}
use Rattle.std.proofs.Common.{◌∙◌, inr, ⊎_elim, mul-le-mul_right, le_of_mul-le-mul_right, mul-pos, arith}
use Rattle.planning.specs.Sum.{sum, positives}
use Rattle.planning.specs.Cutting.{Fits}
use Rattle.planning.proofs.Laws.Finite.Decisions.{le-or-lt, at-or_else}
use Rattle.planning.proofs.Laws.Finite.Update.{update, update_other, update-zero-elsewhere}
use Rattle.planning.proofs.Laws.Finite.Sums.{sgn-zero, sgn-pos, sgn-le-one, positives_mono, sum-without, positives-without, positives-mul-le-sum}
use Rattle.planning.proofs.Laws.Finite.Extremes.{Extreme, AtLeast, smallest, smallest-le-sum}
use Rattle.planning.proofs.Laws.Saturation.Moves.{moved-from, moved_no_new, moved-positives, Traded, trade, traded_kept}
use Rattle.planning.proofs.Laws.Saturation.Carry.{Chain, Stays}
use Rattle.planning.proofs.Laws.Saturation.Statement.{MustCut, Saturated, kept-fits}
use Rattle.planning.proofs.Laws.Saturation.WalkState.{SettledBelow, left_end, advance}
use Rattle.planning.proofs.Laws.Saturation.Swap.{swap}

-- A smallest piece s of a delivery of amount q, with at least k pieces that large, is at most a + c, if a delivery of amount j, with a
-- piece a and at most l others of at most c each, is at least as bulky.
smallest-piece-bound : (s a c k l q j : ℕ) → k * s ≤ q → q * l ≤ j * k → j ≤ a + l * c → 0 < k → 0 < l → s ≤ a + c
smallest-piece-bound s a c k l q j few bulky large hk hl =
    le_of_mul-le-mul_right {m = s} {n = a + c} {k = k * l}
    (omega (arith, mul-le-mul_right l few, mul-le-mul_right k large, mul-le-mul_right (a * k) hl))
    (mul-pos hk hl)

module _ {engines deliveries : ℕ} {capacity amount limit : ℕ → ℕ} {j z : ℕ} (must : MustCut engines deliveries capacity amount limit j z)
    {x : ℕ → ℕ → ℕ} {rank : ℕ → ℕ} {e b q : ℕ}
    (fits : Fits engines deliveries capacity amount limit x) (chain : Chain engines deliveries x j rank e)
    (b-below : b < engines) (e≢b : e ≢ b) (j-on-b : 0 < x j b)
    (settled : SettledBelow engines deliveries capacity amount limit j x rank e)
    (q-below : q < deliveries) (j≢q : j ≢ q) (q_on_b : 0 < x q b)
    (off-chain : (i : ℕ) → i < engines → 0 < rank i → x q i ≡ 0) where
  b≢e : b ≢ e
  b≢e = omega (arith, e≢b)

  module _ {y : ℕ → ℕ → ℕ} {d : ℕ} (t : Traded x y j q e b d) where
    few_but_q : (p : ℕ) → p ≢ q → positives engines (y p) ≤ positives engines (x p)
    few_but_q =
        at-or_else (λ p. p ≢ q → positives engines (y p) ≤ positives engines (x p)) j
        (λ n. positives_mono engines (x j) (y j) (λ i l. moved_no_new t.there j-on-b i))
        (λ p n m. positives_mono engines (x p) (y p) (λ i l h. t.others p n m i ∙ h))

    fits_traded : positives engines (y q) ≤ limit q → Fits engines deliveries capacity amount limit y
    fits_traded few-q = kept-fits fits (traded_kept must.delivery q-below j≢q chain.end_below b-below t) few
      where
        few : (p : ℕ) → p < deliveries → positives engines (y p) ≤ limit p
        few =
            at-or_else (λ p. p < deliveries → positives engines (y p) ≤ limit p) q (λ l. few-q)
            (λ p n l. omega (arith, few_but_q p n, fits.few p l))

  -- q moves all of its piece on b, which is at most that of j on e.
  q-leaves_b : {y : ℕ → ℕ → ℕ} → Traded x y j q e b (x q b) → Saturated engines deliveries capacity amount limit j
  q-leaves_b {y} t = advance must fits chain j-on-b t.there fits-y settled e≢b q_on_b few (inr stays)
    where
      few-q : positives engines (y q) ≤ positives engines (x q)
      few-q =
          omega (
            arith,
            moved-positives t.back engines b-below chain.end_below b≢e,
            sgn-pos (x q b) q_on_b,
            sgn-zero (y q b) (omega (arith, moved-from t.back b≢e)),
            sgn-le-one (y q e),
          )

      fits-y : Fits engines deliveries capacity amount limit y
      fits-y = fits_traded t (omega (arith, few-q, fits.few q q-below))

      few : (p : ℕ) → p < deliveries → positives engines (y p) ≤ positives engines (x p)
      few p l = at-or_else (λ p. positives engines (y p) ≤ positives engines (x p)) q few-q (few_but_q t) p

      stays : Stays engines deliveries j rank x y
      stays =
          at-or_else (λ p. p < deliveries → p ≢ j → (i : ℕ) → i < engines → 0 < rank i → 0 < x p i → 0 < y p i) q
          (λ l n i k r h. absurd (omega (arith, off-chain i k r)))
          (λ p m l n i k r h. omega (arith, t.others p n m i))

  -- j moves all of its piece on e, and q may have one piece more.
  j_leaves_e : positives engines (x q) < limit q → {y : ℕ → ℕ → ℕ} → Traded x y j q e b (x j e)
      → Saturated engines deliveries capacity amount limit j
  j_leaves_e spare {y} t = left_end must fits chain j-on-b t.there (fits_traded t few-q) (omega (arith, moved-from t.there e≢b))
    where
      few-q : positives engines (y q) ≤ limit q
      few-q =
          omega (
            arith,
            moved-positives t.back engines b-below chain.end_below b≢e,
            sgn-pos (x q b) q_on_b,
            sgn-le-one (y q b),
            sgn-le-one (y q e),
          )

  -- q has a larger piece on b than j on e, and all the pieces that it may have: it leaves the engine of its smallest other piece.
  module _ (larger : x j e < x q b) (all : limit q ≤ positives engines (x q)) (bound : amount j ≤ x j e + (limit j - 1) * x j b) where
    without_b : ℕ → ℕ
    without_b = update (x q) b 0

    count : positives engines without_b + 1 ≡ positives engines (x q)
    unfolding without_b
    count = positives-without engines (x q) b b-below q_on_b

    total : sum engines without_b + x q b ≡ amount q
    unfolding without_b
    total = sum-without engines (x q) b b-below ∙ fits.whole q q-below

    cuttable : 2 ≤ limit q
    cuttable = must.cuttable q q-below (omega (arith, total))

    q-leaves-place : Extreme AtLeast engines without_b → Saturated engines deliveries capacity amount limit j
    unfolding without_b
    q-leaves-place t =
        swap must fits chain b-below e≢b j-on-b q-below j≢q larger off-chain t.place-below elsewhere positive small settled
      where
        elsewhere : t.place ≢ b
        elsewhere = update-zero-elsewhere (x q) b t.place t.positive

        entry : without_b t.place ≡ x q t.place
        entry = update_other (x q) b 0 elsewhere

        positive : 0 < x q t.place
        positive = omega (arith, entry, t.positive)

        others : limit q - 1 ≤ positives engines without_b
        others = omega (arith, count)

        sum-others : (limit q - 1) * x q t.place ≤ amount q
        sum-others = omega (arith, rw entry at (smallest-le-sum t), total, mul-le-mul_right (x q t.place) others)

        small : x q t.place ≤ x j e + x j b
        small =
            smallest-piece-bound (x q t.place) (x j e) (x j b) (limit q - 1) (limit j - 1) (amount q) (amount j) sum-others
            (must.bulkiest q q-below) bound (omega (arith, cuttable)) (omega (arith, must.cuttable j must.delivery must.left))

    some-other : 0 < sum engines without_b
    some-other = omega (arith, positives-mul-le-sum engines without_b 1 (λ i l k. k), count, cuttable)

    q-leaves-smallest : Saturated engines deliveries capacity amount limit j
    q-leaves-smallest = q-leaves-place (smallest engines without_b some-other)

  pub exchange : amount j ≤ x j e + (limit j - 1) * x j b → Saturated engines deliveries capacity amount limit j
  exchange bound = ⊎_elim smaller larger (le-or-lt (x q b) (x j e))
    where
      smaller : x q b ≤ x j e → Saturated engines deliveries capacity amount limit j
      smaller h = q-leaves_b (trade x j q e b (x q b) j≢q h (omega arith)).1

      larger : x j e < x q b → Saturated engines deliveries capacity amount limit j
      larger h =
          ⊎_elim (λ all. q-leaves-smallest h all bound)
          (λ spare. j_leaves_e spare (trade x j q e b (x j e) j≢q (omega arith) (omega arith)).1)
          (le-or-lt (limit q) (positives engines (x q)))
