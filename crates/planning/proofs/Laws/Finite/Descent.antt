-- Induction on three numbers compared from the left.
-- Assumes nothing.
use Rattle.std.specs.Prelude.{ℕ, zero, suc, ◌≤◌, ◌<◌}
use Rattle.std.proofs.Common.{arith}

-- the triple a b c is below the triple u v w
pub data Falls (a b c u v w : ℕ) : Type 0 where
  by_first : a < u → Falls a b c u v w
  by-second : a ≤ u → b < v → Falls a b c u v w
  by-third : a ≤ u → b ≤ v → c < w → Falls a b c u v w

module _ {A : Type 0} (P : A → Type 0) (f g h : A → ℕ)
    (step : (s : A) → ((t : A) → Falls (f t) (g t) (h t) (f s) (g s) (h s) → P t) → P s) where
  on_third : (u v : ℕ) → ((s : A) → f s < u → P s) → ((s : A) → f s ≤ u → g s < v → P s)
      → (w : ℕ) (s : A) → f s ≤ u → g s ≤ v → h s < w → P s
  on_third u v first second zero s k l m = absurd (omega arith)
  on_third u v first second (suc w) s k l m = step s (below (on_third u v first second w))
    where
      below : ((t : A) → f t ≤ u → g t ≤ v → h t < w → P t) → (t : A) → Falls (f t) (g t) (h t) (f s) (g s) (h s) → P t
      below third t (by_first p) = first t (omega arith)
      below third t (by-second p q) = second t (omega arith) (omega arith)
      below third t (by-third p q r) = third t (omega arith) (omega arith) (omega arith)

  on_second : (u : ℕ) → ((s : A) → f s < u → P s) → (v : ℕ) (s : A) → f s ≤ u → g s < v → P s
  on_second u first zero s k l = absurd (omega arith)
  on_second u first (suc v) s k l = on_third u v first (on_second u first v) (suc (h s)) s k (omega arith) (omega arith)

  on-first : (u : ℕ) (s : A) → f s < u → P s
  on-first zero s k = absurd (omega arith)
  on-first (suc u) s k = on_second u (on-first u) (suc (g s)) s (omega arith) (omega arith)

  pub descent : (s : A) → P s
  descent s = on-first (suc (f s)) s (omega arith)
