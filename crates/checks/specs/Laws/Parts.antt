-- The refusals in the parts that the code checks them in: the first member that fails, and that the parts make up planning's refusals.
-- Assumes nothing.
use Rattle.std.specs.Prelude.{◌≡◌, refl, Bool, true, false, not, ◌&&◌, List, [], ◌∷◌, ℕ, suc, ◌+◌, ◌%◌, eqb, length, Option as Place, Some, position, cond}
use Rattle.std.specs.List.{zip, position_from}
use Rattle.std.specs.Range.{range_inclusive_start, range_inclusive_end}
use Rattle.std.specs.declared.ops.RangeInclusive.{RangeInclusive}
use Rattle.std.proofs.Common.{◌∙◌, sym, arith}
use Rattle.std.proofs.Math.Option.{Option, none, some}
use Rattle.std.proofs.lemmas.Iterator.Adapters.{position_from-zero}
use Rattle.std.proofs.lemmas.List.{length-replicate}
use borrow.Author.Tests.{eq-eqb}
use Rattle.planning.specs.declared.Fault.{Fault}
use Rattle.planning.specs.declared.Fault.TheVariants.{Fields, Value}
use Rattle.planning.specs.declared.PlanLists.{PlanLists}
use Rattle.planning.specs.declared.Refusal.{Refusal}
use Rattle.planning.specs.Bounds.{most_minutes, most_tries}
use Rattle.planning.specs.Numbers.{Call, quiet_of, engines_of, deliveries_of, plan_of, within, engine_fault, delivery_fault, check_quiet, refusal_of}
use Rattle.planning.specs.Plan.{Delivery}
use Rattle.planning.specs.Quiet.{Quiet}
use Rattle.planning.specs.Refusals.{check, check_each, ◌then◌}
use Rattle.planning.specs.Tables.{at, listed}
use Rattle.planning.proofs.Laws.Tables.{listed-pairs}
use Rattle.checks.specs.Checked.{call_lent}
use Rattle.checks.specs.Laws.Verdicts.{passes}
use Rattle.checks.specs.Parts.{counts_refusal, values_refusal, value_at, sound, engine_sound, delivery_sound}

-- ---- the first member that fails

module _ {A : Type 0} (sound : A → Bool) where
  abbrev one : ℕ → A → Option Refusal
  one r x = check (sound x) Value r

  -- checking a list member by member refuses the first that fails
  first-from : (r i : ℕ) (xs : List A) → check_each one (r + i) xs ≡ value_at r (position_from (λ x. not (sound x)) i xs)
  unfolding check_each value_at
  first-from r i [] = refl
  first-from r i (x ∷ xs) = go (sound x) (first-from r (i + 1) xs)
    where
      next : r + i + 1 ≡ r + (i + 1)
      next = omega arith

      go : (b : Bool) → check_each one (r + (i + 1)) xs ≡ value_at r (position_from (λ x. not (sound x)) (i + 1) xs)
          → check b Value (r + i) then check_each one (r + i + 1) xs ≡ value_at r (cond (not b) (Some i) (position_from (λ x. not (sound x)) (i + 1) xs))
      go true later = unfold check ◌then◌ in rw next later
      go false later = unfold check ◌then◌ value_at in refl

  first : (r : ℕ) (xs : List A) → check_each one r xs ≡ value_at r (position (λ x. not (sound x)) xs)
  first r xs =
      let start : r + 0 ≡ r = omega arith in
      rw position_from-zero (rw start at (first-from r 0 xs))

-- what the code finds by two ranges that it makes of their ends
pub outside : (first second : RangeInclusive ℕ) (xs : List (ℕ × ℕ)) {a b c d : ℕ}
    → range_inclusive_start first ≡ a → range_inclusive_end first ≡ b → range_inclusive_start second ≡ c → range_inclusive_end second ≡ d
    → {o : Place ℕ} → o ≡ position (λ pair. not (sound first second pair)) xs
    → o ≡ position (λ pair. not (within a b pair.0 && within c d pair.1)) xs
outside first second xs start end start_2 end_2 is = rw (← start, ← end, ← start_2, ← end_2) is

-- the members of two paired lists, given place by place
pairs : {A : Type 0} (one : ℕ → A → Option Refusal) (sound : ℕ × ℕ → Bool) (f : ℕ → A) (xs ys : List ℕ) → length xs ≡ length ys
    → ((r i : ℕ) → one r (f i) ≡ check (sound (at xs i, at ys i)) Value r)
    → (r : ℕ) → check_each one r (listed (length xs) f) ≡ check_each (λ r q. check (sound q) Value r) r (zip xs ys)
unfolding check_each listed
pairs one sound f [] ys e h r = refl
pairs one sound f (x ∷ xs) [] e h r = absurd (omega (arith, e))
pairs one sound f (x ∷ xs) (y ∷ ys) e h r =
    rw (h r 0, pairs one sound (λ i. f (suc i)) xs ys (omega (arith, e)) (λ r i. h r (suc i)) (r + 1))

-- two checks of one fault at one place are one check
check_both : (a b : Bool) (fault : Fault) (place : ℕ) → check a fault place then check b fault place ≡ check (a && b) fault place
unfolding check ◌then◌
check_both true b fault place = refl
check_both false b fault place = refl

engines-first : (r : ℕ) (watts fuels : List ℕ) (quiet : List Quiet) → length watts ≡ length fuels
    → check_each engine_fault r (engines_of watts fuels quiet) ≡ value_at r (position (λ e. not (engine_sound e)) (zip watts fuels))
unfolding engine_fault engines_of
engines-first r watts fuels quiet e =
    pairs engine_fault engine_sound _ watts fuels e (λ r i. check_both _ _ Value r) r ∙ first engine_sound r (zip watts fuels)

deliveries-first : (r : ℕ) (energies limits : List ℕ) → length energies ≡ length limits
    → check_each delivery_fault r (deliveries_of energies limits) ≡ value_at r (position (λ d. not (delivery_sound d)) (zip energies limits))
unfolding delivery_fault deliveries_of
deliveries-first r energies limits e =
    rw (← listed-pairs {A = Delivery} (λ e l. record { energy = e; limit = l }) energies limits e)
    (pairs delivery_fault delivery_sound _ energies limits e (λ r i. check_both _ _ Value r) r)
    ∙ first delivery_sound r (zip energies limits)

-- ---- the parts of a call's refusal

then_assoc : (a b c : Option Refusal) → (a then b) then c ≡ a then (b then c)
unfolding ◌then◌
then_assoc none b c = refl
then_assoc (some r) b c = refl

-- the lengths of paired lists and of the quiet spans, then the counts, the values, and the quiet spans last
pub refusal-parts : (call : Call)
    → refusal_of call
    ≡ check (eqb (length call.watts) (length call.fuels)) Fields 0
    then check (eqb (length call.energies) (length call.limits)) Fields 0
    then check (eqb (length call.quiet % 3) 0) Fields 0
    then counts_refusal (length call.watts) (length call.energies) (length call.table) (length call.spare)
    then check (within 1 most_minutes call.minutes) Value 1
    then check (within 0 most_tries call.allowance) Value 1
    then check_each engine_fault 2 (plan_of call).engines
    then check_each delivery_fault (2 + length call.watts) (plan_of call).deliveries
    then check_quiet (length call.watts) [] (quiet_of call.quiet)
unfolding refusal_of counts_refusal
refusal-parts call = simp then_assoc

-- where the lists have their lengths, the counts, the values and the quiet spans decide
module _ (lists : PlanLists) (table spare : ℕ) (engines : length lists.watts.now ≡ length lists.fuels.now)
    (deliveries : length lists.energies.now ≡ length lists.limits.now) (threes : length lists.quiet.now % 3 ≡ 0) where
  pub parted : counts_refusal (length lists.watts.now) (length lists.energies.now) table spare
      then values_refusal (call_lent lists 0 0)
      then check_quiet (length lists.watts.now) [] (quiet_of lists.quiet.now)
      ≡ refusal_of (call_lent lists table spare)
  unfolding values_refusal plan_of
  parted =
      sym (refusal-parts (call_lent lists table spare)
      ∙ passes _ _ _ _ (eq-eqb _ _ engines)
      ∙ passes _ _ _ _ (eq-eqb _ _ deliveries)
      ∙ passes _ _ _ _ (eq-eqb _ _ threes)
      ∙ simp (
        length-replicate,
        engines-first 2 lists.watts.now lists.fuels.now (quiet_of lists.quiet.now) engines,
        deliveries-first (2 + length lists.watts.now) lists.energies.now lists.limits.now deliveries,
        then_assoc,
      ))
