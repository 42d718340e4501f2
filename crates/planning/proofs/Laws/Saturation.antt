-- Saturation: if a table fits, delivery j is a bulkiest one, every delivery left may have two pieces and straight fill does not apply,
-- then some table fits in which a piece of j fills an engine that is smaller than j.
-- Assumes nothing.
pub mod Carry
pub mod Exchange
pub mod Moves
pub mod WalkState
pub mod Statement
pub mod Swap
pub mod TakeOver
pub mod UnitMove
pub mod Walk
use Rattle.std.specs.Prelude.{ℕ, ◌-◌, ◌*◌, ◌≤◌, ◌<◌}
use Rattle.std.proofs.Common.{arith}
use Rattle.planning.specs.Cutting.{Fits}
use Rattle.planning.proofs.Laws.Finite.Update.{only}
use Rattle.planning.proofs.Laws.Finite.Extremes.{Extreme, largest}
use Rattle.planning.proofs.Laws.Saturation.Statement.{MustCut, Saturated}
use Rattle.planning.proofs.Laws.Saturation.WalkState.{Position, chain-one}
use Rattle.planning.proofs.Laws.Saturation.Walk.{walk}

-- any table that fits is a position, with the chain of one engine that j is on
start : {engines deliveries : ℕ} {capacity amount limit : ℕ → ℕ} {j z : ℕ} {x : ℕ → ℕ → ℕ}
    → MustCut engines deliveries capacity amount limit j z
    → Fits engines deliveries capacity amount limit x → Position engines deliveries capacity amount limit j
start {engines} {deliveries} {capacity} {amount} {limit} {j} {x = x} must fits =
    go (largest engines (x j) (omega (arith, fits.whole j must.delivery, must.left)))
  where
    go : Extreme ◌≤◌ engines (x j) → Position engines deliveries capacity amount limit j
    go t = record { table = x; fits = fits; rank = only t.place 1; end = t.place; chain = chain-one t.place-below t.positive }

pub saturation : {engines deliveries : ℕ} {capacity amount limit : ℕ → ℕ} {x : ℕ → ℕ → ℕ} (j z : ℕ)
    → Fits engines deliveries capacity amount limit x
    → j < deliveries → 0 < amount j
    → ((p : ℕ) → p < deliveries → 0 < amount p → 2 ≤ limit p)
    → ((p : ℕ) → p < deliveries → amount p * (limit j - 1) ≤ amount j * (limit p - 1))
    → z < engines → 0 < capacity z → (limit j - 1) * capacity z < amount j
    → Saturated engines deliveries capacity amount limit j
saturation {engines} {deliveries} {capacity} {amount} {limit} j z fits delivery left cuttable bulkiest engine open_engine small =
    walk must (start must fits)
  where
    must : MustCut engines deliveries capacity amount limit j z
    must =
        record {
          delivery = delivery;
          left = left;
          cuttable = cuttable;
          bulkiest = bulkiest;
          engine = engine;
          open_engine = open_engine;
          small = small;
        }
