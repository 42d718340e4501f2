-- What the checks come to, by the verdict of the refusals; and for a caller: the plan by value of an accepted call stands for its plan and
-- can be planned.
-- Assumes nothing.
use Rattle.std.specs.Prelude.{◌≡◌, refl, List, ℕ, length, Ok, Err}
use Rattle.std.proofs.Common.{◌∙◌, arith}
use Rattle.std.proofs.Math.Path.{ap}
use Rattle.std.proofs.Math.Option.{Option, none, some}
use Rattle.std.proofs.lemmas.List.{length-replicate}
use Rattle.planning.specs.declared.Mode.TheVariants.{Fixed}
use Rattle.planning.specs.declared.Plan.{Plan as ByValue}
use Rattle.planning.specs.declared.PlanLists.{PlanLists}
use Rattle.planning.specs.declared.Refusal.{Refusal}
use Rattle.planning.specs.ByValue.{plan_in, Usable, by_value}
use Rattle.planning.proofs.Laws.ByValue.{by-value-plan, by-value-usable}
use Rattle.planning.proofs.Laws.Numbers.{unrefused-iff}
use Rattle.planning.specs.Numbers.{Call, call_of, Accepted, plan_of, refusal_of}
use Rattle.planning.specs.Refusals.{verdict_of}
use Rattle.checks.specs.Checked.{call_lent, plan_unless, checked_of}
use Rattle.checks.specs.Laws.Verdicts.{accepted-by, refused-by}

-- ---- by the verdict

module _ (call : Call) where
  pub by-refusal : {refusal : Refusal} → Err refusal ≡ verdict_of (refusal_of call) → Err refusal ≡ checked_of call
  unfolding checked_of plan_unless
  by-refusal e = rw (refused-by (refusal_of call) _ e)

  module _ (verdict : Ok tt ≡ verdict_of (refusal_of call)) where
    pub accepted : Accepted call
    accepted = (unrefused-iff call).0 (accepted-by (refusal_of call) verdict)

    pub by_acceptance : {plan : ByValue} → plan ≡ by_value call → Ok plan ≡ checked_of call
    unfolding checked_of plan_unless
    by_acceptance made = rw (accepted-by (refusal_of call) verdict, made)

-- ---- for a caller

-- the refusal does not depend on the mode
pub fixed-refusal : (call : Call) → refusal_of (record call { mode = Fixed }) ≡ refusal_of call
unfolding refusal_of plan_of
fixed-refusal call = refl

-- of the lent lists the refusal depends on the lengths alone
refusal-lent : (lists : PlanLists) (table spare : List ℕ)
    → refusal_of (call_lent lists (length table) (length spare)) ≡ refusal_of (call_of lists table spare)
unfolding refusal_of plan_of
refusal-lent lists table spare = simp length-replicate

module _ (lists : PlanLists) (table spare : List ℕ) where
  abbrev call : Call
  call = call_of lists table spare

  checked-of : checked_of (call_lent lists (length table) (length spare)) ≡ plan_unless (refusal_of call) call
  unfolding checked_of plan_unless by_value
  checked-of = rw (refusal-lent lists table spare) (go (refusal_of call))
    where
      go : (o : Option Refusal) → plan_unless o (call_lent lists (length table) (length spare)) ≡ plan_unless o call
      go none = refl
      go (some refusal) = refl

  refused-as : (o : Option Refusal) {refusal : Refusal} → Err refusal ≡ plan_unless o call → o ≡ some refusal
  unfolding plan_unless
  refused-as none e = cc
  refused-as (some r) e = cc

  accepted-as : (o : Option Refusal) {plan : ByValue} → Ok plan ≡ plan_unless o call → (o ≡ none) × (plan ≡ by_value call)
  unfolding plan_unless
  accepted-as none e = (refl, cc)
  accepted-as (some r) e = let z : ◌≡◌ {A = ℕ} 0 1 = cc in absurd (omega arith)

  pub refused-call : {refusal : Refusal} → Err refusal ≡ checked_of (call_lent lists (length table) (length spare)) → refusal_of call ≡ some refusal
  refused-call e = refused-as (refusal_of call) (e ∙ checked-of)

  module _ {plan : ByValue} (came : Ok plan ≡ checked_of (call_lent lists (length table) (length spare))) where
    pub accepted-call : Accepted call
    accepted-call = (unrefused-iff call).0 (accepted-as (refusal_of call) (came ∙ checked-of)).0

    plan-is : plan ≡ by_value call
    plan-is = (accepted-as (refusal_of call) (came ∙ checked-of)).1

    pub accepted-plan : plan_in plan ≡ plan_of call
    accepted-plan = ap plan_in plan-is ∙ by-value-plan call accepted-call

    pub accepted-usable : Usable plan
    accepted-usable = rw plan-is (by-value-usable call accepted-call)
