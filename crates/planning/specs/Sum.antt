-- Finite sums and counts over the numbers below a bound.
-- Assumes nothing.
use Rattle.std.specs.Prelude.{ℕ, zero, suc, ◌+◌}

-- f 0 + f 1 + .. + f (m - 1)
unfoldable pub sum : ℕ → (ℕ → ℕ) → ℕ
sum zero f = 0
sum (suc m) f = sum m f + f m

-- 1 where a number is above 0, else 0
unfoldable pub sgn : ℕ → ℕ
sgn zero = 0
sgn (suc n) = 1

-- how many of f 0, .., f (m - 1) are above 0
unfoldable pub positives : ℕ → (ℕ → ℕ) → ℕ
positives m f = sum m (λ i. sgn (f i))
