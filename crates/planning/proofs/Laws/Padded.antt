-- A list made longer with some value, or with zeros: its length, its front and what stands in it.
-- Assumes nothing.
use Rattle.std.specs.Prelude.{◌≡◌, refl, List, [], ◌∷◌, ◌++◌, ℕ, zero, suc, ◌-◌, ◌≤◌, length, take, get_or, replicate}
use Rattle.std.proofs.Common.{length-append, take_at, arith}
use Rattle.std.proofs.lemmas.List.{length-replicate}
use Rattle.planning.specs.Tables.{at, filled, padded}

module _ {A : Type 0} (value : A) (n : ℕ) (xs : List A) where
  pub length-filled : length xs ≤ n → length (filled value n xs) ≡ n
  length-filled l = omega (arith, length-append xs (replicate (n - length xs) value), length-replicate {A = A} (n - length xs) value)

  pub take-filled : take (length xs) (filled value n xs) ≡ xs
  take-filled = take_at xs (replicate (n - length xs) value) (length xs) refl

  pub at-filled : (i : ℕ) → get_or (filled value n xs) i value ≡ get_or xs i value
  at-filled = behind xs (n - length xs)
    where
      alike : (k i : ℕ) → get_or (replicate k value) i value ≡ value
      alike zero i = refl
      alike (suc k) zero = refl
      alike (suc k) (suc i) = alike k i

      behind : (xs : List A) (k i : ℕ) → get_or (xs ++ replicate k value) i value ≡ get_or xs i value
      behind [] k i = alike k i
      behind (x ∷ xs) k zero = refl
      behind (x ∷ xs) k (suc i) = behind xs k i

pub length-padded : (n : ℕ) (xs : List ℕ) → length xs ≤ n → length (padded n xs) ≡ n
unfolding padded
length-padded = length-filled 0

pub take-padded : (n : ℕ) (xs : List ℕ) → take (length xs) (padded n xs) ≡ xs
unfolding padded
take-padded = take-filled 0

pub at-padded : (n : ℕ) (xs : List ℕ) (i : ℕ) → at (padded n xs) i ≡ at xs i
unfolding padded
at-padded = at-filled 0
