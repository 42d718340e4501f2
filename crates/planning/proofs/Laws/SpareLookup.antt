-- The spare lookup: every list and amount has a permitted answer, and a permitted answer keeps every promise.
-- Assumes nothing.
use Rattle.std.proofs.Math.Path.{◌≡◌}
use Rattle.std.specs.Prelude.{refl, ◌⊎◌, List, ℕ, zero, suc, ◌≤◌, ◌<◌, length, Ok, Err, Some, None}
use Rattle.std.proofs.Common.{inl, inr, arith}
use Rattle.std.proofs.Math.Option.{Option, none, some}
use Rattle.planning.specs.declared.Fault.TheVariants.{Value, Count, NoEngine}
use Rattle.planning.specs.declared.Refusal.{Refusal}
use Rattle.planning.proofs.Laws.Finite.Decisions.{le-or-lt, below_next}
use Rattle.planning.specs.Lookup.{Lookup}
use Rattle.planning.specs.Tables.{at}
use Rattle.planning.proofs.Laws.Refusals.{Only, only-check, only_then}
use Rattle.planning.specs.SpareLookup.{lookup_refusal, Names, PermittedBy, Permitted, FaultInLookup, LookedUp}

-- some engine among the first n has the amount, or none of them has
some_or_none : (spare : List ℕ) (amount n : ℕ)
    → ((i : ℕ) × (i < n) × (amount ≤ at spare i)) ⊎ ((i : ℕ) → i < n → at spare i < amount)
some_or_none spare amount zero = inr (λ i l. absurd (omega arith))
some_or_none spare amount (suc n) = go (some_or_none spare amount n) (le-or-lt amount (at spare n))
  where
    go : ((i : ℕ) × (i < n) × (amount ≤ at spare i)) ⊎ ((i : ℕ) → i < n → at spare i < amount) → (amount ≤ at spare n) ⊎ (at spare n < amount)
        → ((i : ℕ) × (i < suc n) × (amount ≤ at spare i)) ⊎ ((i : ℕ) → i < suc n → at spare i < amount)
    go (inl h) k = inl (h.0, omega (arith, h.1), h.2)
    go (inr h) (inl k) = inl (n, omega arith, k)
    go (inr h) (inr k) = inr (below_next (λ i. at spare i < amount) n h k)

-- Every list and amount has a permitted answer.
pub some-answer-permitted : (spare : List ℕ) (amount : ℕ) → (answer : Lookup) × Permitted spare amount answer
unfolding Permitted PermittedBy Names
some-answer-permitted spare amount = go (lookup_refusal spare amount) (some_or_none spare amount (length spare))
  where
    go : (r : Option Refusal) → ((i : ℕ) × (i < length spare) × (amount ≤ at spare i)) ⊎ ((i : ℕ) → i < length spare → at spare i < amount)
        → (answer : Lookup) × PermittedBy r spare amount answer
    go (some refusal) h = (Err refusal, refl)
    go none (inl h) = (Ok (Some h.0), (h.1, h.2))
    go none (inr h) = (Ok None, h)

-- A refusal permits itself alone, and where there is none an answer is permitted that names rightly.
pub refused-permitted : (spare : List ℕ) (amount : ℕ) {refusal : Refusal} {r : Lookup} → lookup_refusal spare amount ≡ some refusal
    → r ≡ Err refusal → Permitted spare amount r
unfolding Permitted PermittedBy
refused-permitted spare amount e h = rw e h

pub named-permitted : (spare : List ℕ) (amount : ℕ) (r : Lookup) → lookup_refusal spare amount ≡ none → Names spare amount r → Permitted spare amount r
unfolding Permitted PermittedBy
named-permitted spare amount r e names = rw e names

-- a refusal is by 8, 7 or 6, at place 0
lookup_faults : (spare : List ℕ) (amount : ℕ) → Only FaultInLookup (lookup_refusal spare amount)
unfolding lookup_refusal FaultInLookup
lookup_faults spare amount =
    only_then FaultInLookup (only-check FaultInLookup _ NoEngine 0 refl)
    (only_then FaultInLookup (only-check FaultInLookup _ Count 0 refl) (only-check FaultInLookup _ Value 0 refl))

-- A permitted answer keeps every promise.
pub looked-up : (spare : List ℕ) (amount : ℕ) {r : Lookup} → Permitted spare amount r → LookedUp spare amount r
unfolding Permitted
looked-up spare amount {r} permitted =
    record {
      permitted = permitted;
      named = λ i e. named (lookup_refusal spare amount) i (rw e at permitted);
      nowhere = λ e. nowhere (lookup_refusal spare amount) (rw e at permitted);
      turned_down = λ refusal e. lookup_faults spare amount refusal (refused (lookup_refusal spare amount) refusal (rw e at permitted));
    }
  where
    named : (o : Option Refusal) (i : ℕ) → PermittedBy o spare amount (Ok (Some i)) → (i < length spare) × (amount ≤ at spare i)
    named none i p = unfold PermittedBy Names in p
    named (some refusal) i p = unfold PermittedBy in (let z : ◌≡◌ {A = ℕ} 0 1 = cc in absurd (omega arith))

    nowhere : (o : Option Refusal) → PermittedBy o spare amount (Ok None) → (i : ℕ) → i < length spare → at spare i < amount
    nowhere none p = unfold PermittedBy Names in p
    nowhere (some refusal) p = unfold PermittedBy in (let z : ◌≡◌ {A = ℕ} 0 1 = cc in absurd (omega arith))

    refused : (o : Option Refusal) (refusal : Refusal) → PermittedBy o spare amount (Err refusal) → o ≡ some refusal
    refused none refusal p = unfold PermittedBy Names in absurd p
    refused (some other) refusal p = unfold PermittedBy in cc
