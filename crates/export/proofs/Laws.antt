-- What is proved about a mode as a number: without a mode a call is refused just as it is with 0 minutes, so the exported call keeps its
-- promises.
-- Assumes nothing.
use Rattle.std.specs.Prelude.{◌≡◌, refl, ◌⊎◌, Bool, true, false, List, [], ◌∷◌, ◌++◌, ℕ, ◌+◌, ◌≤◌, ◌<◌, length, Result, Err}
use Rattle.std.proofs.Common.{sym, ap, ◌∙◌, inl, inr, arith, le-leb}
use Rattle.std.proofs.Math.Option.{Option, none, some}
use Rattle.std.proofs.lemmas.Bool.{lt-leb}
use Rattle.planning.specs.declared.Answer.{Answer}
use Rattle.planning.specs.declared.Fault.{Fault}
use Rattle.planning.specs.declared.Fault.TheVariants.{Fields, Value, Count, NoEngine, Space, UnknownEngine, QuietSpan}
use Rattle.planning.specs.declared.Refusal.{Refusal}
use Rattle.planning.specs.Bounds.{most_minutes, most_tries}
use Rattle.planning.proofs.Laws.Finite.Decisions.{le-or-lt}
use Rattle.planning.proofs.Laws.Refusals.{Only, only-check, only_then, only-each}
use Rattle.planning.specs.Numbers.{Call, quiet_of, plan_of, within, engine_fault, delivery_fault, quiet_fault, check_quiet, refusal_of}
use Rattle.planning.specs.Numbers.{answered_by, allocation, call_on}
use Rattle.planning.specs.Plan.{Engine, Delivery}
use Rattle.planning.specs.Promises.{Promised}
use Rattle.planning.specs.Quiet.{Quiet}
use Rattle.planning.specs.Refusals.{check, check_each, ◌then◌}
use Rattle.export.specs.declared.PlanReply.{PlanReply}
use Rattle.export.specs.Numbers.{is_mode, no_mode, before_mode, without_mode, allocation_by, table_by, spare_by, minutes_under}
use Rattle.export.specs.Replies.{reply_of, Replied}

-- ---- checks that come behind that of the mode: 6, 10 and 11

abbrev Behind : Fault → (place : ℕ) → Type 0
Behind fault place = before_mode fault ≡ false

value-behind : (t : Bool) (r : ℕ) → Only Behind (check t Value r)
unfolding before_mode
value-behind t r = only-check Behind t Value r refl

engines-behind : (es : List Engine) → Only Behind (check_each engine_fault 2 es)
unfolding engine_fault
engines-behind es =
    only-each Behind engine_fault (1 + length es) (λ r e h k. only_then Behind (value-behind _ r) (value-behind _ r)) 2 es (omega arith) (omega arith)

deliveries-behind : (first : ℕ) (ds : List Delivery) → Only Behind (check_each delivery_fault (2 + first) ds)
unfolding delivery_fault
deliveries-behind first ds =
    only-each Behind delivery_fault (1 + first + length ds) (λ r d h k. only_then Behind (value-behind _ r) (value-behind _ r))
    (2 + first) ds (omega arith) (omega arith)

spans-behind : (engines : ℕ) (earlier quiet : List Quiet) → Only Behind (check_quiet engines earlier quiet)
unfolding check_quiet quiet_fault before_mode
spans-behind engines earlier [] = λ refusal e. let z : ◌≡◌ {A = ℕ} 0 1 = cc in absurd (omega arith)
spans-behind engines earlier (q ∷ quiet) =
    only_then Behind
    (only_then Behind (value-behind _ 0)
    (only_then Behind (value-behind _ 0)
    (only_then Behind (only-check Behind _ UnknownEngine 0 refl) (only-check Behind _ QuietSpan 0 refl))))
    (spans-behind engines (earlier ++ q ∷ []) quiet)

-- ---- the checks in order

-- without a mode, what they would say comes to 6 at the plan's record
only-behind : (later : Option Refusal) → Only Behind later → without_mode later ≡ no_mode
unfolding without_mode
only-behind none h = refl
only-behind (some refusal) h = rw (h refusal refl)

-- a check of another number refuses with a mode and without
other-check : (t : Bool) (fault : Fault) → without_mode (some (record { fault = fault; place = 0 })) ≡ record { fault = fault; place = 0 }
    → (a b : Option Refusal) → a ≡ some (without_mode b) → (check t fault 0 then a) ≡ some (without_mode (check t fault 0 then b))
unfolding check ◌then◌
other-check true fault h a b e = e
other-check false fault h a b e = ap some (sym h)

-- the same call with other minutes
abbrev pub in_minutes : (minutes : ℕ) → Call → Call
in_minutes minutes call =
    call_on
    call.mode
    minutes
    call.allowance
    call.watts
    call.fuels
    call.energies
    call.limits
    call.quiet
    call.table
    call.spare

-- minutes of 0 are refused by 6 at the plan's record
zero-minutes : (later : Option Refusal) → (check (within 1 most_minutes 0) Value 1 then later) ≡ some no_mode
unfolding check ◌then◌ within no_mode
zero-minutes later = refl

-- with 0 minutes a call is refused as it is without a mode
no_minutes : (call : Call) → refusal_of (in_minutes 0 call) ≡ some (without_mode (refusal_of call))
unfolding refusal_of without_mode before_mode
no_minutes call =
    let all-behind =
    only_then Behind (value-behind (within 1 most_minutes call.minutes) 1)
    (only_then Behind (value-behind (within 0 most_tries call.allowance) 1)
    (only_then Behind (engines-behind (plan_of call).engines)
    (only_then Behind (deliveries-behind (length call.watts) (plan_of call).deliveries)
    (spans-behind (length call.watts) [] (quiet_of call.quiet))))) in
    other-check _ Fields refl _ _
    (other-check _ Fields refl _ _
    (other-check _ Fields refl _ _
    (other-check _ NoEngine refl _ _
    (other-check _ Count refl _ _
    (other-check _ Count refl _ _
    (other-check _ Space refl _ _
    (other-check _ Space refl _ _ (zero-minutes _ ∙ ap some (sym (only-behind _ all-behind))))))))))

no_minutes-refused : (call : Call) → allocation (in_minutes 0 call) ≡ Err (without_mode (refusal_of call))
unfolding allocation answered_by
no_minutes-refused call = rw (no_minutes call)

-- ---- what the code hands on

-- the minutes that the code hands on are the call's where the mode is one, and 0 where it is none
with_mode : (mode minutes : ℕ) → mode ≤ 1 → minutes_under mode minutes ≡ minutes
unfolding is_mode minutes_under
with_mode mode minutes known = rw (le-leb mode 1 known)

without-mode : (mode minutes : ℕ) → 1 < mode → minutes_under mode minutes ≡ 0
unfolding is_mode minutes_under
without-mode mode minutes unknown = rw (lt-leb mode 1 unknown)

-- what the allocation promises of the minutes handed on, for a mode and for none
module _ (mode : ℕ) (call : Call) {answer : Result Answer Refusal} {table spare : List ℕ}
    (promised : Promised (in_minutes (minutes_under mode call.minutes) call) answer table spare) where
  known : mode ≤ 1 → Promised call answer table spare
  known k = rw (with_mode mode call.minutes k) at promised

  unknown : 1 < mode → (answer ≡ Err (without_mode (refusal_of call))) × (table ≡ call.table) × (spare ≡ call.spare)
  unknown k =
      let refused = (rw (without-mode mode call.minutes k) at promised.result) ∙ no_minutes-refused call in
      let kept = promised.turned_down _ refused in
      (refused, kept.1, kept.2)

  by_mode : (mode ≤ 1) ⊎ (1 < mode) → (answer ≡ allocation_by mode call) × (table ≡ table_by mode call) × (spare ≡ spare_by mode call)
  unfolding allocation_by table_by spare_by is_mode
  by_mode (inl k) = let p = known k in rw (le-leb mode 1 k) (p.result, p.table, p.spare)
  by_mode (inr k) = rw (lt-leb mode 1 k) (unknown k)

  -- so the exported call keeps its promises
  pub replied : {r : PlanReply} → r ≡ reply_of answer → Replied mode call r table spare
  replied e =
      let (result, left, spared) = by_mode (le-or-lt mode 1) in
      record {
        answer = answer;
        reply = e;
        result = result;
        table = left;
        spare = spared;
        promised = known;
        turned_down = λ k. let (refused, kept, spared) = unknown k in ((_, refused), kept, spared);
      }
