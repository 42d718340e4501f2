-- What an accepted call on numbers leaves in the lent lists. They have the plan's own lengths, so what found writes is all of them.
-- Assumes nothing.
use Rattle.std.specs.Prelude.{◌≡◌, ◌≢◌, List, ℕ, length}
use Rattle.std.proofs.Math.Path.{sym}
use Rattle.std.proofs.Common.{◌∙◌, append-nil, drop_of_length-le, arith}
use Rattle.planning.specs.declared.Outcome.TheVariants.{Found}
use Rattle.planning.proofs.Laws.Lent.{kept-unless-found}
use Rattle.planning.proofs.Laws.Modes.{planned-searched}
use Rattle.planning.proofs.Laws.Numbers.{unrefused-iff, engine-count, delivery-count}
use Rattle.planning.proofs.Laws.Soundness.{plan-length, length-spares}
use Rattle.planning.specs.Modes.{planned, outcome_of, spares, table_by, table_after, spares_by, spares_after}
use Rattle.planning.specs.Numbers.{Call, Accepted, quiet_of, plan_of, unless_refused, table_on_exit, spare_on_exit}
use Rattle.planning.specs.Search.{found}
use Rattle.planning.specs.Tables.{over_front}

-- over the front of a list of the same length nothing is left of it
pub over-whole : (new lent : List ℕ) → length new ≡ length lent → over_front new lent ≡ new
unfolding over_front
over-whole new lent e = rw (drop_of_length-le lent {i = length new} (omega arith)) (append-nil new)

module _ (call : Call) (ok : Accepted call) where
  pub count-engines : length (plan_of call).engines ≡ length call.watts
  unfolding plan_of
  count-engines = engine-count call.watts call.fuels (quiet_of call.quiet)

  pub count-deliveries : length (plan_of call).deliveries ≡ length call.energies
  unfolding plan_of
  count-deliveries = delivery-count call.energies call.limits ok.delivery_lists

  -- no check refuses, so what the plan's answer leaves is left
  pub table-after : table_on_exit call ≡ table_after (plan_of call) call.table
  unfolding table_on_exit unless_refused
  table-after = rw ((unrefused-iff call).1 ok)

  pub spare-after : spare_on_exit call ≡ spares_after (plan_of call) call.spare
  unfolding spare_on_exit unless_refused
  spare-after = rw ((unrefused-iff call).1 ok)

  -- found leaves its table and each engine's spare ..
  module _ {tries : ℕ} {table : List ℕ} (finds : (planned (plan_of call)).result ≡ found tries table) where
    pub found-table : table_on_exit call ≡ table
    unfolding table_after table_by
    found-table =
        table-after
        ∙ rw finds
        (over-whole table call.table
        (plan-length (plan_of call) (planned (plan_of call)).minutes ok.in_range.deliveries (sym (planned-searched (plan_of call)).result ∙ finds)
        ∙ rw (count-engines, count-deliveries) (sym ok.table)))

    pub found-spare : spare_on_exit call ≡ spares (plan_of call) (planned (plan_of call)).minutes table
    unfolding spares_after spares_by
    found-spare =
        spare-after
        ∙ rw finds
        (over-whole (spares (plan_of call) (planned (plan_of call)).minutes table) call.spare
        (length-spares (plan_of call) (planned (plan_of call)).minutes table ∙ count-engines ∙ sym ok.spare))

  -- .. and any other answer what was lent
  module _ (other : outcome_of (planned (plan_of call)).result ≢ Found) where
    pub kept_table : table_on_exit call ≡ call.table
    kept_table = table-after ∙ (kept-unless-found (plan_of call) call.table call.spare other).0

    pub kept-spare : spare_on_exit call ≡ call.spare
    kept-spare = spare-after ∙ (kept-unless-found (plan_of call) call.table call.spare other).1
