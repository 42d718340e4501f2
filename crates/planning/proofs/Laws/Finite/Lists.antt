-- Sums and counts over the entries of a list of numbers.
-- Assumes nothing.
use Rattle.std.specs.Prelude.{◌≡◌, ◌⊎◌, List, [], ◌∷◌, ◌++◌, ℕ, ◌+◌, ◌≤◌, ◌<◌, length, set}
use Rattle.std.proofs.Common.{ap, inl, inr, length-set, get_or-set_same, get_or-set_other, arith}
use Rattle.std.proofs.Math.ListN.{get_or-eq_default}
use Rattle.planning.proofs.Laws.Finite.Decisions.{le-or-lt}
use Rattle.planning.proofs.Laws.Finite.Sums.{sum-front, positives-one, positives-front}
use Rattle.planning.specs.Search.{total}
use Rattle.planning.specs.Tables.{at}
use Rattle.planning.specs.Sum.{sum, sgn, positives}

-- past its end a list has 0, so a place with more is inside
pub inside_of : (xs : List ℕ) (i : ℕ) → 0 < at xs i → i < length xs
inside_of xs i k = go (le-or-lt (length xs) i)
  where
    go : (length xs ≤ i) ⊎ (i < length xs) → i < length xs
    go (inl l) = absurd (omega (arith, get_or-eq_default xs 0 l))
    go (inr l) = l

pub total-cons : (c : ℕ) (cs : List ℕ) → total (c ∷ cs) ≡ c + total cs
unfolding total
total-cons c cs = sum-front (length cs) (at (c ∷ cs))

pub positives-cons : (c : ℕ) (cs : List ℕ) → positives (length (c ∷ cs)) (at (c ∷ cs)) ≡ sgn c + positives (length cs) (at cs)
positives-cons c cs = positives-front (length cs) (at (c ∷ cs))

pub positives-append : (xs ys : List ℕ) → positives (length (xs ++ ys)) (at (xs ++ ys)) ≡ positives (length xs) (at xs) + positives (length ys) (at ys)
unfolding positives sum
positives-append [] ys = omega arith
positives-append (x ∷ xs) ys =
    omega (arith, positives-cons x (xs ++ ys), positives-cons x xs, positives-append xs ys)

-- one entry replaced
pub positives-set : (xs : List ℕ) (i v : ℕ) → i < length xs
    → positives (length (set xs i v)) (at (set xs i v)) + sgn (at xs i) ≡ positives (length xs) (at xs) + sgn v
positives-set xs i v l =
    rw (length-set xs i v)
    (omega (arith, positives-one (length xs) (at (set xs i v)) (at xs) i l (λ k s n. get_or-set_other xs i k v 0 n), ap sgn (get_or-set_same xs i v 0 l)))
