-- Taking a piece out of a table that fits: what is left fits what is left of the engine, of the delivery and of its limit.
-- Assumes nothing.
use Rattle.std.specs.Prelude.{◌≡◌, refl, ◌≢◌, ℕ, ◌+◌, ◌-◌, ◌≤◌, ◌<◌}
use Rattle.std.proofs.Common.{ap, ◌∙◌, mul-le-mul_right, arith}
use Rattle.planning.specs.Sum.{sum, positives}
use Rattle.planning.specs.Cutting.{Fits}
use Rattle.planning.proofs.Laws.Finite.Decisions.{at-or_else}
use Rattle.planning.proofs.Laws.Finite.Extremes.{Extreme, largest, sum-le-largest}
use Rattle.planning.proofs.Laws.Saturation.Statement.{piece-le-capacity}
use Rattle.planning.proofs.Laws.Finite.Sums.{sum_ext, sum_one, sum-without, entry-le-sum, positives-without, positives-without-le}
use Rattle.planning.proofs.Laws.Finite.Update.{update, update_same, update_other}

-- the table x without the piece of delivery p on engine i
pub without : (ℕ → ℕ → ℕ) → (p i : ℕ) → ℕ → ℕ → ℕ
without x p i = update x p (update (x p) i 0)

without-row : (x : ℕ → ℕ → ℕ) (p i : ℕ) → without x p i p ≡ update (x p) i 0
unfolding without
without-row x p i = update_same x p (update (x p) i 0) refl

without-other-row : (x : ℕ → ℕ → ℕ) (p i : ℕ) {q : ℕ} → q ≢ p → without x p i q ≡ x q
unfolding without
without-other-row x p i n = update_other x p (update (x p) i 0) n

-- on other engines than i nothing changes
without-other-engine : (x : ℕ → ℕ → ℕ) (p i : ℕ) {k : ℕ} → k ≢ i → (q : ℕ) → without x p i q k ≡ x q k
without-other-engine x p i {k} n =
    at-or_else
    (λ q. without x p i q k ≡ x q k)
    p
    (ap (λ row. row k) (without-row x p i) ∙ update_other (x p) i 0 n)
    (λ q m. ap (λ row. row k) (without-other-row x p i m))

without-load : (deliveries : ℕ) (x : ℕ → ℕ → ℕ) (p i : ℕ) → p < deliveries
    → sum deliveries (λ q. without x p i q i) + x p i ≡ sum deliveries (λ q. x q i)
without-load deliveries x p i l =
    omega (
      arith,
      sum_one deliveries (λ q. without x p i q i) (λ q. x q i) p l (λ q k n. ap (λ row. row i) (without-other-row x p i n)),
      ap (λ row. row i) (without-row x p i),
      update_same (x p) i 0 {i = i} refl,
    )

-- A table that fits, without its piece of delivery p on engine i, fits where the engine has as much less and the delivery has;
-- the limit of the delivery may be any number that its other pieces keep.
pub removed_fits : {engines deliveries : ℕ} {capacity amount limit capacity' amount' limit' : ℕ → ℕ} {x : ℕ → ℕ → ℕ} (p i : ℕ)
    → Fits engines deliveries capacity amount limit x → p < deliveries → i < engines
    → capacity' i + x p i ≡ capacity i → ((k : ℕ) → k ≢ i → capacity' k ≡ capacity k)
    → amount' p + x p i ≡ amount p → ((q : ℕ) → q ≢ p → amount' q ≡ amount q)
    → positives engines (update (x p) i 0) ≤ limit' p → ((q : ℕ) → q ≢ p → limit' q ≡ limit q)
    → Fits engines deliveries capacity' amount' limit' (without x p i)
removed_fits {engines} {deliveries} {capacity} {amount} {limit} {capacity'} {amount'} {limit'} {x} p i fits l k here elsewhere less others few many =
    record {
      whole =
          at-or_else
          (λ q. q < deliveries → sum engines (without x p i q) ≡ amount' q)
          p
          (λ s. rw (without-row x p i) (omega (arith, sum-without engines (x p) i k, fits.whole p l)))
          (λ q n s. rw (without-other-row x p i n, others q n) (fits.whole q s));
      within =
          at-or_else
          (λ e. e < engines → sum deliveries (λ q. without x p i q e) ≤ capacity' e)
          i
          (λ s. omega (arith, without-load deliveries x p i l, fits.within i k))
          (λ e n s. omega (
            arith,
            sum_ext deliveries (λ q. without x p i q e) (λ q. x q e) (λ q t. without-other-engine x p i n q),
            elsewhere e n,
            fits.within e s,
          ));
      few =
          at-or_else
          (λ q. q < deliveries → positives engines (without x p i q) ≤ limit' q)
          p
          (λ s. rw (without-row x p i) few)
          (λ q n s. rw (without-other-row x p i n, many q n) (fits.few q s));
    }

-- Laying: a delivery that has its whole amount on engine i.
pub laid-fits : {engines deliveries : ℕ} {capacity amount limit capacity' amount' : ℕ → ℕ} {x : ℕ → ℕ → ℕ} (p i : ℕ)
    → Fits engines deliveries capacity amount limit x → p < deliveries → i < engines → x p i ≡ amount p
    → capacity' i ≡ capacity i - amount p → ((k : ℕ) → k ≢ i → capacity' k ≡ capacity k)
    → amount' p ≡ 0 → ((q : ℕ) → q ≢ p → amount' q ≡ amount q)
    → Fits engines deliveries capacity' amount' limit (without x p i)
laid-fits {engines} {x = x} p i fits l k whole here elsewhere nothing others =
    removed_fits p i fits l k (omega (arith, piece-le-capacity fits p i l k)) elsewhere (omega arith) others
    (omega (arith, positives-without-le engines (x p) i, fits.few p l)) (λ q n. refl)

-- Cutting: a piece that fills engine i, of a delivery with more than that.
pub cut_fits : {engines deliveries : ℕ} {capacity amount limit capacity' amount' limit' : ℕ → ℕ} {x : ℕ → ℕ → ℕ} (p i : ℕ)
    → Fits engines deliveries capacity amount limit x → p < deliveries → i < engines → x p i ≡ capacity i → 0 < capacity i
    → capacity' i ≡ 0 → ((k : ℕ) → k ≢ i → capacity' k ≡ capacity k)
    → amount' p ≡ amount p - capacity i → ((q : ℕ) → q ≢ p → amount' q ≡ amount q)
    → limit' p ≡ limit p - 1 → ((q : ℕ) → q ≢ p → limit' q ≡ limit q)
    → Fits engines deliveries capacity' amount' limit' (without x p i)
cut_fits {engines} {x = x} p i fits l k full some here elsewhere less others fewer many =
    removed_fits p i fits l k (omega arith) elsewhere
    (omega (arith, entry-le-sum engines (x p) i k, fits.whole p l)) others
    (omega (arith, positives-without engines (x p) i k (omega arith), fits.few p l)) many

-- A delivery with something to it and limit 1 has its whole amount on one engine.
pub whole_on_one : {engines deliveries : ℕ} {capacity amount limit : ℕ → ℕ} {x : ℕ → ℕ → ℕ} (p : ℕ)
    → Fits engines deliveries capacity amount limit x → p < deliveries → 0 < amount p → limit p ≡ 1
    → (i : ℕ) × (i < engines) × (x p i ≡ amount p)
whole_on_one {engines} {amount = amount} {x = x} p fits l some one = go (largest engines (x p) (omega (arith, fits.whole p l)))
  where
    go : Extreme ◌≤◌ engines (x p) → (i : ℕ) × (i < engines) × (x p i ≡ amount p)
    go b = (
      b.place,
      b.place-below,
      omega (
        arith,
        sum-le-largest b,
        mul-le-mul_right {m = positives engines (x p)} {n = 1} (x p b.place) (omega (arith, fits.few p l)),
        entry-le-sum engines (x p) b.place b.place-below,
        fits.whole p l,
      ),
    )
