-- What the definitions return and leave of a call on numbers keeps every promise of the contract.
-- Assumes nothing.
use Rattle.std.proofs.Math.Path.{◌≡◌, ap}
use Rattle.std.specs.Prelude.{refl, ◌≢◌, Bool, ℕ, ◌+◌, ◌≤◌, ◌<◌, length, Result, Ok, Err}
use Rattle.std.proofs.Common.{sym, ◌∙◌, arith}
use mathlib.Core.List.{List, [], ◌∷◌, ◌++◌, zip_with}
use Rattle.std.proofs.Math.Option.{Option, none as unrefused, some}
use Rattle.planning.specs.declared.Answer.{Answer}
use Rattle.planning.specs.declared.Fault.{Fault}
use Rattle.planning.specs.declared.Fault.TheVariants.{Fields, NoEngine, Count, Space, Value, UnknownEngine, QuietSpan}
use Rattle.planning.specs.declared.Outcome.TheVariants.{Found}
use Rattle.planning.specs.declared.Refusal.{Refusal}
use Rattle.planning.specs.Capacity.{capacities}
use Rattle.planning.specs.Cutting.{Serves}
use Rattle.planning.proofs.Laws.Lent.{refused-keeps}
use Rattle.planning.proofs.Laws.Numbers.{unrefused-iff, engine-count}
use Rattle.planning.proofs.Laws.OnExit.{count-engines, count-deliveries, found-table, found-spare, kept_table, kept-spare}
use Rattle.planning.proofs.Laws.Promises.{none-exactly, shortest_time, fixed_time, found-serves, found-spares, stopped-exactly, stopped-tries}
use Rattle.planning.proofs.Laws.Refusals.{Only, only-check, only_then, only-each}
use Rattle.planning.specs.Modes.{planned, answer_of, outcome_of}
use Rattle.planning.specs.Numbers.{Call, Accepted, quiet_of, engines_of, deliveries_of, plan_of, engine_fault, delivery_fault, quiet_fault, check_quiet}
use Rattle.planning.specs.Numbers.{refusal_of, answered_by, allocation, table_on_exit, spare_on_exit}
use Rattle.planning.specs.Plan.{Engine, Delivery}
use Rattle.planning.specs.Promises.{FaultOnNumbers, records_of, Promised}
use Rattle.planning.specs.Quiet.{Quiet}
use Rattle.planning.specs.Refusals.{check}
use Rattle.planning.specs.Search.{Result as Came, found, none, stopped}
use Rattle.planning.specs.Sum.{sum}
use Rattle.planning.specs.Tables.{piece_in, at}

-- ---- a refusal's fault and place

-- no more pairs than the first list has members
few-pairs : {C : Type 0} (f : ℕ → ℕ → C) (xs ys : List ℕ) → length (zip_with f xs ys) ≤ length xs
unfolding zip_with
few-pairs f [] ys = omega arith
few-pairs f (x ∷ xs) [] = omega arith
few-pairs f (x ∷ xs) (y ∷ ys) = omega (arith, few-pairs f xs ys)

module _ (records : ℕ) where
  abbrev on_numbers : Fault → ℕ → Type 0
  on_numbers = FaultOnNumbers records

  value-at : (t : Bool) (r : ℕ) → r ≤ records → Only on_numbers (check t Value r)
  unfolding FaultOnNumbers
  value-at t r k = only-check on_numbers t Value r (record { least = omega arith; most = k })

  engine-value : (r : ℕ) (e : Engine) → 1 ≤ r → r ≤ records → Only on_numbers (engine_fault r e)
  unfolding engine_fault
  engine-value r e h k = only_then on_numbers (value-at _ r k) (value-at _ r k)

  delivery-value : (r : ℕ) (d : Delivery) → 1 ≤ r → r ≤ records → Only on_numbers (delivery_fault r d)
  unfolding delivery_fault
  delivery-value r d h k = only_then on_numbers (value-at _ r k) (value-at _ r k)

  -- of a quiet span all at place 0
  quiet-value : (engines : ℕ) (earlier quiet : List Quiet) → Only on_numbers (check_quiet engines earlier quiet)
  unfolding check_quiet quiet_fault FaultOnNumbers
  quiet-value engines earlier [] = λ refusal e. let z : ◌≡◌ {A = ℕ} 0 1 = cc in absurd (omega arith)
  quiet-value engines earlier (q ∷ quiet) =
      only_then on_numbers
      (only_then on_numbers (value-at _ 0 (omega arith))
      (only_then on_numbers (value-at _ 0 (omega arith))
      (only_then on_numbers (only-check on_numbers _ UnknownEngine 0 refl) (only-check on_numbers _ QuietSpan 0 refl))))
      (quiet-value engines (earlier ++ q ∷ []) quiet)

refusal_on_numbers : (call : Call) → Only (FaultOnNumbers (records_of call)) (refusal_of call)
unfolding refusal_of plan_of deliveries_of FaultOnNumbers
refusal_on_numbers call =
    let last = records_of call in
    let on = FaultOnNumbers last in
    let fields : (t : Bool) → Only on (check t Fields 0) = λ t. only-check on t Fields 0 refl in
    let no-engine : (t : Bool) → Only on (check t NoEngine 0) = λ t. only-check on t NoEngine 0 refl in
    let count : (t : Bool) → Only on (check t Count 0) = λ t. only-check on t Count 0 refl in
    let space : (t : Bool) → Only on (check t Space 0) = λ t. only-check on t Space 0 refl in
    let quiet = quiet_of call.quiet in
    let engines = engine-count call.watts call.fuels quiet in
    let deliveries = few-pairs {C = Delivery} (λ (e l : ℕ). record { energy = e; limit = l }) call.energies call.limits in
    only_then on (fields _)
    (only_then on (fields _)
    (only_then on (fields _)
    (only_then on (no-engine _)
    (only_then on (count _)
    (only_then on (count _)
    (only_then on (space _)
    (only_then on (space _)
    (only_then on (value-at last _ 1 (omega arith))
    (only_then on (value-at last _ 1 (omega arith))
    (only_then on
    (only-each on engine_fault last (engine-value last) 2 (engines_of call.watts call.fuels quiet) (omega arith) (omega (arith, engines)))
    (only_then on
    (only-each on delivery_fault last (delivery-value last) (2 + length call.watts) (deliveries_of call.energies call.limits)
    (omega arith) (omega (arith, deliveries)))
    (quiet-value last (length call.watts) [] quiet))))))))))))

-- ---- the result taken apart

answered-by : (call : Call) (o : Option Refusal) {a : Answer} → answered_by call o ≡ Ok a
    → (o ≡ unrefused) × (answer_of (planned (plan_of call)) ≡ a)
unfolding answered_by
answered-by call unrefused e = (refl, cc)
answered-by call (some refusal) e = let z : ◌≡◌ {A = ℕ} 0 1 = cc in absurd (omega arith)

refused-by : (call : Call) (o : Option Refusal) {refusal : Refusal} → answered_by call o ≡ Err refusal → o ≡ some refusal
unfolding answered_by
refused-by call unrefused e = cc
refused-by call (some refusal) e = cc

-- ---- a found table, as it is lent back

found-cells : (call : Call) (ok : Accepted call) → outcome_of (planned (plan_of call)).result ≡ Found
    → Serves 1 (plan_of call) (planned (plan_of call)).minutes (piece_in (length call.watts) (table_on_exit call))
    × ((i : ℕ) → i < length call.watts
    → at (spare_on_exit call) i + sum (length call.energies) (λ p. piece_in (length call.watts) (table_on_exit call) p i)
    ≡ at (capacities (plan_of call) (planned (plan_of call)).minutes) i)
unfolding outcome_of
found-cells call ok = go (planned (plan_of call)).result refl
  where
    T : ℕ
    T = (planned (plan_of call)).minutes

    go : (r : Came) → (planned (plan_of call)).result ≡ r → outcome_of r ≡ Found
        → Serves 1 (plan_of call) T (piece_in (length call.watts) (table_on_exit call))
        × ((i : ℕ) → i < length call.watts
        → at (spare_on_exit call) i + sum (length call.energies) (λ p. piece_in (length call.watts) (table_on_exit call) p i)
        ≡ at (capacities (plan_of call) T) i)
    go (found tries table) e h =
        rw (found-table call ok e, found-spare call ok e, ← count-engines call ok, ← count-deliveries call ok)
        (found-serves (plan_of call) ok.in_range e, found-spares (plan_of call) ok.in_range e)
    go (none tries) e h = let z : ◌≡◌ {A = ℕ} 0 1 = cc in absurd (omega arith)
    go (stopped tries) e h = let z : ◌≡◌ {A = ℕ} 0 1 = cc in absurd (omega arith)

-- ---- the promises

module _ (call : Call) {r : Result Answer Refusal} {table spare : List ℕ} (result : r ≡ allocation call) (table_is : table ≡ table_on_exit call)
    (spare-is : spare ≡ spare_on_exit call) where
  accepted : {a : Answer} → r ≡ Ok a → Accepted call
  unfolding allocation
  accepted e = (unrefused-iff call).0 (answered-by call (refusal_of call) (sym result ∙ e)).0

  answer : {a : Answer} → r ≡ Ok a → answer_of (planned (plan_of call)) ≡ a
  unfolding allocation
  answer e = (answered-by call (refusal_of call) (sym result ∙ e)).1

  outcome : {a : Answer} → r ≡ Ok a → outcome_of (planned (plan_of call)).result ≡ a.outcome
  unfolding answer_of
  outcome e = ap (λ (b : Answer). b.outcome) (answer e)

  refused : {refusal : Refusal} → r ≡ Err refusal → refusal_of call ≡ some refusal
  unfolding allocation
  refused e = refused-by call (refusal_of call) (sym result ∙ e)

  pub promised : Promised call r table spare
  unfolding allocation answered_by plan_of answer_of
  promised =
      record {
        result = result;
        table = table_is;
        spare = spare-is;
        answered_exactly = (
          λ x. accepted x.1,
          λ ok. (answer_of (planned (plan_of call)), result ∙ ap (answered_by call) ((unrefused-iff call).1 ok)),
        );
        turned_down = λ refusal e.
            let kept = refused-keeps call refusal (refused e) in
            (refusal_on_numbers call refusal (refused e), table_is ∙ kept.1, spare-is ∙ kept.2);
        found_serves = λ a e f. rw (table_is, spare-is, ← answer e) (found-cells call (accepted e) (outcome e ∙ f));
        kept_unless_found = λ a e n.
            let other : outcome_of (planned (plan_of call)).result ≢ Found = λ h. n (sym (outcome e) ∙ h) in
            (table_is ∙ kept_table call (accepted e) other, spare-is ∙ kept-spare call (accepted e) other);
        stopped_exactly = λ a e. rw (← answer e) (stopped-exactly (plan_of call), stopped-tries (plan_of call));
        none_exactly = λ a e. rw (← answer e) (none-exactly (plan_of call) (accepted e).in_range);
        shortest_exactly = λ a e f.
            let finds = outcome e ∙ f in
            rw (← answer e) (
              λ mode. shortest_time (plan_of call) (accepted e).in_range mode finds,
              λ mode. (fixed_time (plan_of call) (accepted e).in_range mode finds).0,
            );
      }
