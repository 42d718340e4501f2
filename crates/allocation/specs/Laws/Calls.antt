-- An accepted call whose plan by value is answered: the result, and what the lent lists hold, are what planning's definitions say.
-- Assumes nothing.
use Rattle.std.proofs.Math.Path.{◌≡◌, refl, sym, ap}
use Rattle.std.proofs.Common.{◌∙◌}
use Rattle.std.specs.Prelude.{◌≢◌, List, ℕ, ◌*◌, ◌≤◌, Ok}
use Rattle.std.proofs.Math.ListN.{length}
use native.Mathlib.Omega.{arith}
use Rattle.planning.specs.declared.Answer.{Answer}
use Rattle.planning.specs.declared.Outcome.TheVariants.{Found}
use Rattle.planning.specs.declared.Plan.{Plan as ByValue}
use Rattle.planning.specs.Bounds.{most_minutes}
use Rattle.planning.specs.ByValue.{plan_in}
use Rattle.planning.specs.Cutting.{Serves}
use Rattle.planning.proofs.Laws.ByValue.{count-engines_in, count-deliveries_in}
use Rattle.planning.proofs.Laws.Numbers.{unrefused-iff}
use Rattle.planning.proofs.Laws.OnExit.{count-engines, count-deliveries, found-table, found-spare, kept_table, kept-spare}
use Rattle.planning.proofs.Laws.Promises.{found-serves, answered-minutes}
use Rattle.planning.proofs.Laws.Promised.{promised}
use Rattle.planning.specs.Promises.{Promised}
use Rattle.planning.specs.Modes.{planned, answer_of, outcome_of, spares}
use Rattle.planning.specs.Numbers.{Call, Accepted, plan_of, answered_by, allocation, table_on_exit, spare_on_exit}
use Rattle.planning.specs.Plan.{Plan}
use Rattle.planning.specs.Search.{Result, found, none, stopped}
use Rattle.planning.specs.Tables.{piece_in}
use Rattle.search.specs.Promises.{written}
use Rattle.allocation.specs.Ends.{Answers}

-- an accepted call, and a plan by value that means what its lists do
module _ (call : Call) (ok : Accepted call) (p : ByValue) (is : plan_in p ≡ plan_of call) where
  -- as many engines and deliveries
  pub engines-counted : p.engines.count ≡ length call.watts
  unfolding plan_in
  engines-counted = sym (count-engines_in p.engines) ∙ ap (λ (plan : Plan). length plan.engines) is ∙ count-engines call ok

  deliveries-counted : p.deliveries.count ≡ length call.energies
  unfolding plan_in
  deliveries-counted = sym (count-deliveries_in p.deliveries) ∙ ap (λ (plan : Plan). length plan.deliveries) is ∙ count-deliveries call ok

  -- so the lent lists have the plan's lengths
  pub cells-lent : length call.table ≡ p.deliveries.count * p.engines.count
  cells-lent = rw (engines-counted, deliveries-counted) ok.table

  pub spares-lent : length call.spare ≡ p.engines.count
  spares-lent = ok.spare ∙ sym engines-counted

  -- the answer and the table that were returned
  module _ {answer : Answer} {table : List ℕ} (answers : Answers (planned (plan_in p)) call.table answer table) where
    answer-is : answer ≡ answer_of (planned (plan_of call))
    answer-is = answers.answer ∙ ap (λ (plan : Plan). answer_of (planned plan)) is

    pub answered-result : Ok answer ≡ allocation call
    unfolding allocation answered_by
    answered-result = ap Ok answer-is ∙ ap (answered_by call) (sym ((unrefused-iff call).1 ok))

    table_is : table ≡ written (planned (plan_of call)).result call.table
    table_is = answers.table ∙ ap (λ (plan : Plan). written (planned plan).result call.table) is

    pub answered-table : table ≡ table_on_exit call
    unfolding written outcome_of
    answered-table = table_is ∙ go (planned (plan_of call)).result refl
      where
        go : (r : Result) → (planned (plan_of call)).result ≡ r → written r call.table ≡ table_on_exit call
        go (found tries pieces) e = sym (found-table call ok e)
        go (none tries) e = sym (kept_table call ok (λ h. let z : ◌≡◌ {A = ℕ} 0 1 = cc (ap outcome_of e) in omega arith))
        go (stopped tries) e = sym (kept_table call ok (λ h. let z : ◌≡◌ {A = ℕ} 0 1 = cc (ap outcome_of e) in omega arith))

    pub answered-most : answer.minutes ≤ most_minutes
    unfolding plan_of
    answered-most =
        omega (
          arith,
          ap (λ (a : Answer). a.minutes) answer-is,
          (answered-minutes (plan_of call) ok.in_range).most,
          ok.in_range.minutes.most,
        )

    outcome-is : answer.outcome ≡ outcome_of (planned (plan_of call)).result
    unfolding answer_of
    outcome-is = ap (λ (a : Answer). a.outcome) answer-is

    minutes-is : answer.minutes ≡ (planned (plan_of call)).minutes
    unfolding answer_of
    minutes-is = ap (λ (a : Answer). a.minutes) answer-is

    pub kept-unless-found : answer.outcome ≢ Found → call.spare ≡ spare_on_exit call
    kept-unless-found n = sym (kept-spare call ok (λ e. n (outcome-is ∙ e)))

    -- not found keeps the promise over the spare list as it was lent
    pub promised-other : {out : List ℕ} → table ≡ out → answer.outcome ≢ Found → Promised call (Ok answer) out call.spare
    promised-other same n = promised call answered-result (sym same ∙ answered-table) (kept-unless-found n)

    module _ (finds : answer.outcome ≡ Found) where
      by-found : (P : Result → Type 0) → ((tries : ℕ) (pieces : List ℕ) → (planned (plan_of call)).result ≡ found tries pieces → P (found tries pieces))
          → P (planned (plan_of call)).result
      unfolding outcome_of
      by-found P h = go (planned (plan_of call)).result refl (sym outcome-is ∙ finds)
        where
          go : (r : Result) → (planned (plan_of call)).result ≡ r → outcome_of r ≡ Found → P r
          go (found tries pieces) e f = h tries pieces e
          go (none tries) e f = let z : ◌≡◌ {A = ℕ} 0 1 = cc in absurd (omega arith)
          go (stopped tries) e f = let z : ◌≡◌ {A = ℕ} 0 1 = cc in absurd (omega arith)

      -- the table serves, and what its engines have to spare is what is left
      pub answered-serves : Serves 1 (plan_in p) answer.minutes (piece_in p.engines.count table)
      unfolding written
      answered-serves =
          let plan = plan_of call in
          rw (is, minutes-is, table_is, engines-counted, ← count-engines call ok)
          (by-found (λ (r : Result). Serves 1 plan (planned plan).minutes (piece_in (length plan.engines) (written r call.table)))
          (λ tries pieces e. found-serves plan ok.in_range e))

      pub answered-spare : {spare : List ℕ} → spare ≡ spares (plan_in p) answer.minutes table → spare ≡ spare_on_exit call
      unfolding written
      answered-spare e =
          e
          ∙ rw (is, minutes-is, table_is)
          (by-found (λ (r : Result). spares (plan_of call) (planned (plan_of call)).minutes (written r call.table) ≡ spare_on_exit call)
          (λ tries pieces e. sym (found-spare call ok e)))

      -- found keeps it over what is left of each capacity
      pub promised-found : {out spare : List ℕ} → table ≡ out → spare ≡ spares (plan_in p) answer.minutes table → Promised call (Ok answer) out spare
      promised-found same e = promised call answered-result (sym same ∙ answered-table) (answered-spare e)
