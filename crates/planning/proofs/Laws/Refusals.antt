-- Checks in an order: what every refusal has that they may come to.
-- Assumes nothing.
use Rattle.std.proofs.Math.Path.{◌≡◌, subst}
use Rattle.std.specs.Prelude.{Bool, ℕ, ◌+◌, ◌≤◌, length}
use Rattle.std.proofs.Math.Bool.{true, false}
use mathlib.Core.List.{List, [], ◌∷◌}
use Rattle.std.proofs.Math.Option.{Option, none, some}
use Rattle.std.proofs.Common.{arith}
use Rattle.planning.specs.declared.Fault.{Fault}
use Rattle.planning.specs.declared.Refusal.{Refusal}
use Rattle.planning.specs.Refusals.{check, check_each, ◌then◌}

-- where there is a refusal, its fault and place have that
abbrev pub Only : (Fault → ℕ → Type 0) → Option Refusal → Type 0
Only P o = (refusal : Refusal) → o ≡ some refusal → P refusal.fault refusal.place

module _ (P : Fault → ℕ → Type 0) where
  pub only-check : (t : Bool) (fault : Fault) (place : ℕ) → P fault place → Only P (check t fault place)
  unfolding check
  only-check true fault place p refusal e = let z : ◌≡◌ {A = ℕ} 0 1 = cc in absurd (omega arith)
  only-check false fault place p refusal e = subst (λ (r : Refusal). P r.fault r.place) (cc) p

  pub only_then : {a b : Option Refusal} → Only P a → Only P b → Only P (a then b)
  unfolding ◌then◌
  only_then {a = none} p q = q
  only_then {a = some refusal} p q = p

  -- the members of a list, of which the first has the record number r
  pub only-each : {A : Type 0} (one : ℕ → A → Option Refusal) (last : ℕ) → ((r : ℕ) (x : A) → 1 ≤ r → r ≤ last → Only P (one r x))
      → (r : ℕ) (xs : List A) → 1 ≤ r → r + length xs ≤ last + 1 → Only P (check_each one r xs)
  unfolding check_each
  only-each one last p r [] h k = λ refusal e. let z : ◌≡◌ {A = ℕ} 0 1 = cc in absurd (omega arith)
  only-each one last p r (x ∷ xs) h k =
      only_then (p r x h (omega arith)) (only-each one last p (r + 1) xs (omega arith) (omega arith))
