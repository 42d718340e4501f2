-- A table that fits, with one piece more: it fits what there was before the piece was laid or cut off.
-- Assumes nothing.
use Rattle.std.specs.Prelude.{◌≡◌, ◌≢◌, List, ℕ, ◌+◌, ◌*◌, ◌≤◌, ◌<◌, length, set}
use Rattle.std.proofs.Common.{sym, ◌∙◌, arith}
use Rattle.planning.specs.Cutting.{Fits}
use Rattle.planning.proofs.Laws.Finite.Decisions.{at-or_else}
use Rattle.planning.proofs.Laws.Finite.Sums.{sum_ext, sum_one, entry-le-sum, sgn-le-one, positives_ext, positives-one}
use Rattle.planning.proofs.Laws.Soundness.Table.{cell-inside, piece-set-same, piece-set-other}
use Rattle.planning.specs.Tables.{piece_in, cell}
use Rattle.planning.specs.Sum.{sum, positives}

-- a delivery with amount 0 has no piece
pub no_piece_of_delivery : {engines deliveries : ℕ} {capacity amount limit : ℕ → ℕ} {x : ℕ → ℕ → ℕ}
    → Fits engines deliveries capacity amount limit x → (p : ℕ) → p < deliveries → amount p ≡ 0 → (i : ℕ) → i < engines → x p i ≡ 0
no_piece_of_delivery {engines} {x} f p l z i m = omega (arith, entry-le-sum engines (x p) i m, f.whole p l)

-- an engine with capacity 0 has no piece
pub no_piece_of_engine : {engines deliveries : ℕ} {capacity amount limit : ℕ → ℕ} {x : ℕ → ℕ → ℕ}
    → Fits engines deliveries capacity amount limit x → (i : ℕ) → i < engines → capacity i ≡ 0 → (p : ℕ) → p < deliveries → x p i ≡ 0
no_piece_of_engine {deliveries} {x} f i l z p m = omega (arith, entry-le-sum deliveries (λ q. x q i) p m, f.within i l)

-- Engine i and delivery p have d more than the table fits, their cell is 0 in it, and the delivery's limit allows one piece more.
pub record Room (engines deliveries : ℕ) (capacity amount limit capacity' amount' limit' : ℕ → ℕ) (table : List ℕ) (p i d : ℕ) : Type 0 where
  pub cells : length table ≡ deliveries * engines
  pub fits : Fits engines deliveries capacity' amount' limit' (piece_in engines table)
  pub engine : i < engines
  pub delivery : p < deliveries
  pub free : piece_in engines table p i ≡ 0
  pub capacity-more : capacity i ≡ capacity' i + d
  pub amount-more : amount p ≡ amount' p + d
  pub limit-more : positives engines (piece_in engines table p) + 1 ≤ limit p
  pub capacity-others : (k : ℕ) → k ≢ i → capacity k ≡ capacity' k
  pub amount-others : (q : ℕ) → q ≢ p → amount q ≡ amount' q
  pub limit-others : (q : ℕ) → q ≢ p → limit q ≡ limit' q

pub placed-fits : {engines deliveries : ℕ} {capacity amount limit capacity' amount' limit' : ℕ → ℕ} {table : List ℕ} {p i d : ℕ}
    → Room engines deliveries capacity amount limit capacity' amount' limit' table p i d
    → Fits engines deliveries capacity amount limit (piece_in engines (set table (cell engines p i) d))
placed-fits {engines} {deliveries} {capacity} {amount} {limit} {table} {p} {i} {d} r =
    record {
      whole = at-or_else (λ q. q < deliveries → sum engines (y q) ≡ amount q) p whole_here
          (λ q n l. sum_ext engines (y q) (x q) (row-others q n) ∙ r.fits.whole q l ∙ sym (r.amount-others q n));
      within = at-or_else (λ k. k < engines → sum deliveries (λ q. y q k) ≤ capacity k) i within-here
          (λ k n l. omega (arith, sum_ext deliveries (λ q. y q k) (λ q. x q k) (λ q m. other q k l (λ e f. n f)), r.fits.within k l, r.capacity-others k n));
      few = at-or_else (λ q. q < deliveries → positives engines (y q) ≤ limit q) p few-here
          (λ q n l. omega (arith, positives_ext engines (y q) (x q) (row-others q n), r.fits.few q l, r.limit-others q n));
    }
  where
    x : ℕ → ℕ → ℕ
    x = piece_in engines table

    y : ℕ → ℕ → ℕ
    y = piece_in engines (set table (cell engines p i) d)

    here : y p i ≡ d
    here = piece-set-same engines table p i d (omega (arith, r.cells, cell-inside engines deliveries p i r.delivery r.engine))

    other : (q k : ℕ) → k < engines → (q ≡ p → k ≡ i → ⊥) → y q k ≡ x q k
    other q k l n = piece-set-other engines table p i d q k r.engine l n

    row-others : (q : ℕ) → q ≢ p → (k : ℕ) → k < engines → y q k ≡ x q k
    row-others q n k l = other q k l (λ e f. n e)

    whole_here : p < deliveries → sum engines (y p) ≡ amount p
    whole_here l =
        omega (arith, sum_one engines (y p) (x p) i r.engine (λ k m n. other p k m (λ e f. n f)), here, r.free, r.fits.whole p l, r.amount-more)

    within-here : i < engines → sum deliveries (λ q. y q i) ≤ capacity i
    within-here l =
        omega (
          arith,
          sum_one deliveries (λ q. y q i) (λ q. x q i) p r.delivery (λ q m n. row-others q n i l),
          here,
          r.free,
          r.fits.within i l,
          r.capacity-more,
        )

    few-here : p < deliveries → positives engines (y p) ≤ limit p
    few-here l =
        omega (arith, positives-one engines (y p) (x p) i r.engine (λ k m n. other p k m (λ e f. n f)), sgn-le-one (y p i), r.limit-more)
