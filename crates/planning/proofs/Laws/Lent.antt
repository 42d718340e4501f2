-- What the lent table and spare list hold after an answer: found leaves a table that serves, whatever was lent; none and stopped
-- leave what was lent. A refused call leaves it too.
-- Assumes nothing.
use Rattle.std.specs.Prelude.{◌≡◌, refl, ◌≢◌, List, ℕ, ◌*◌, ◌<◌, length, drop, Err}
use Rattle.std.proofs.Common.{ap, ◌∙◌, arith}
use Rattle.std.proofs.Math.Option.{some}
use Rattle.std.proofs.Math.ListN.{get_or-append}
use Rattle.planning.specs.declared.Outcome.TheVariants.{Found}
use Rattle.planning.specs.declared.Refusal.{Refusal}
use Rattle.planning.specs.Cutting.{Fits, Serves}
use Rattle.planning.proofs.Laws.Finite.Sums.{sum_ext, positives_ext}
use Rattle.planning.proofs.Laws.Plans.{length-capacities, length-energies}
use Rattle.planning.proofs.Laws.Soundness.Table.{cell-inside}
use Rattle.planning.specs.Modes.{planned, outcome_of, table_by, table_after, spares_by, spares_after}
use Rattle.planning.specs.Tables.{piece_in, over_front, cell}
use Rattle.planning.specs.Numbers.{Call, refusal_of, answered_by, allocation, unless_refused, table_on_exit, spare_on_exit}
use Rattle.planning.specs.Plan.{Plan}
use Rattle.planning.specs.Search.{Result, found, none, stopped}

-- two tables with the same pieces
pub fits-same : {engines deliveries : ℕ} {capacity amount limit : ℕ → ℕ} {x y : ℕ → ℕ → ℕ}
    → ((p i : ℕ) → p < deliveries → i < engines → y p i ≡ x p i)
    → Fits engines deliveries capacity amount limit x → Fits engines deliveries capacity amount limit y
fits-same {engines} {deliveries} {x = x} {y = y} same f =
    record {
      whole = λ p l. sum_ext engines (y p) (x p) (λ i k. same p i l k) ∙ f.whole p l;
      within = λ i k. omega (arith, sum_ext deliveries (λ p. y p i) (λ p. x p i) (λ p l. same p i l k), f.within i k);
      few = λ p l. omega (arith, positives_ext engines (y p) (x p) (λ i k. same p i l k), f.few p l);
    }

-- a table at the front of a lent list has its pieces there
pub front-piece : (engines deliveries : ℕ) (table lent : List ℕ) → length table ≡ deliveries * engines
    → (p i : ℕ) → p < deliveries → i < engines → piece_in engines (over_front table lent) p i ≡ piece_in engines table p i
unfolding piece_in over_front
front-piece engines deliveries table lent e p i l k =
    get_or-append table (drop (length table) lent) 0 (cell engines p i) (rw e (cell-inside engines deliveries p i l k))

-- After found the lent table's front serves, whatever was lent.
pub lent-serves : (plan : Plan) (T : ℕ) (table lent : List ℕ) → length table ≡ length plan.deliveries * length plan.engines
    → Serves 1 plan T (piece_in (length plan.engines) table) → Serves 1 plan T (piece_in (length plan.engines) (over_front table lent))
lent-serves plan T table lent e s =
    record {
      from_one = s.from_one;
      fits =
          fits-same
          (λ p i l k. front-piece (length plan.engines) (length plan.deliveries) table lent e p i
          (rw (length-energies plan) at l) (rw (length-capacities plan T) at k))
          s.fits;
    }

-- Unless the answer is found, the lent table and spare list stay as they were.
pub kept-unless-found : (plan : Plan) (table spare : List ℕ) → outcome_of (planned plan).result ≢ Found
    → (table_after plan table ≡ table) × (spares_after plan spare ≡ spare)
unfolding table_after spares_after outcome_of table_by spares_by
kept-unless-found plan table spare = go (planned plan).result
  where
    go : (r : Result) → outcome_of r ≢ Found → (table_by r table ≡ table) × (spares_by plan (planned plan).minutes r spare ≡ spare)
    go (found tries pieces) n = absurd (n refl)
    go (none tries) n = (refl, refl)
    go (stopped tries) n = (refl, refl)

-- A refused call returns its refusal and leaves what was lent.
pub refused-keeps : (call : Call) (refusal : Refusal) → refusal_of call ≡ some refusal
    → (allocation call ≡ Err refusal) × (table_on_exit call ≡ call.table) × (spare_on_exit call ≡ call.spare)
unfolding allocation answered_by table_on_exit spare_on_exit unless_refused
refused-keeps call refusal e =
    (ap (answered_by call) e, rw e, rw e)
