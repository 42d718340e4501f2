-- What it is that a delivery must be cut, and that a piece of it fills an engine.
-- Assumes nothing.
use Rattle.std.specs.Prelude.{◌≡◌, ℕ, ◌-◌, ◌*◌, ◌≤◌, ◌<◌}
use Rattle.std.proofs.Common.{◌∙◌, arith}
use Rattle.planning.specs.Sum.{positives}
use Rattle.planning.specs.Cutting.{Fits}
use Rattle.planning.proofs.Laws.Finite.Sums.{entry-le-sum}
use Rattle.planning.proofs.Laws.Saturation.Moves.{Kept}

-- Delivery j is left and a bulkiest one, every delivery that is left may have two pieces, and straight fill does not apply, because
-- of engine z.
pub record MustCut (engines deliveries : ℕ) (capacity amount limit : ℕ → ℕ) (j z : ℕ) : Type 0 where
  pub delivery : j < deliveries
  pub left : 0 < amount j
  pub cuttable : (p : ℕ) → p < deliveries → 0 < amount p → 2 ≤ limit p
  pub bulkiest : (p : ℕ) → p < deliveries → amount p * (limit j - 1) ≤ amount j * (limit p - 1)
  pub engine : z < engines
  pub open_engine : 0 < capacity z
  pub small : (limit j - 1) * capacity z < amount j

-- A table that fits has a piece of delivery j that fills an open engine, of less capacity than j's amount.
pub record Saturated (engines deliveries : ℕ) (capacity amount limit : ℕ → ℕ) (j : ℕ) : Type 0 where
  pub table : ℕ → ℕ → ℕ
  pub fits : Fits engines deliveries capacity amount limit table
  pub engine : ℕ
  pub engine-below : engine < engines
  pub open_engine : 0 < capacity engine
  pub smaller : capacity engine < amount j
  pub full : table j engine ≡ capacity engine

module _ {engines deliveries : ℕ} {capacity amount limit : ℕ → ℕ} {x : ℕ → ℕ → ℕ}
    (fits : Fits engines deliveries capacity amount limit x) where
  pub piece-le-capacity : (p i : ℕ) → p < deliveries → i < engines → x p i ≤ capacity i
  piece-le-capacity p i l k = omega (arith, entry-le-sum deliveries (λ r. x r i) p l, fits.within i k)

  -- A table with the same amounts and loads fits, if its pieces are few enough.
  pub kept-fits : {y : ℕ → ℕ → ℕ} → Kept engines deliveries x y → ((p : ℕ) → p < deliveries → positives engines (y p) ≤ limit p)
      → Fits engines deliveries capacity amount limit y
  kept-fits kept few =
      record {
        whole = λ p l. kept.rows p l ∙ fits.whole p l;
        within = λ i l. omega (arith, kept.loads i l, fits.within i l);
        few = few;
      }
