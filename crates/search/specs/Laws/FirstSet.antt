-- The set of the first n numbers, 2 ^ n - 1, what it has beside another set, and sets that have no member from a number on.
-- Assumes nothing.
use Rattle.std.specs.Prelude.{◌≡◌, refl, Bool, true, false, not, ℕ, zero, suc, ◌-◌, ◌/◌, ◌%◌, ◌^◌, ◌≤◌, ◌<◌, ltb}
use Rattle.std.proofs.Common.{sym, ap, ◌∙◌, pow_pos, pow-suc, div-one, arith, eq-eqb, lt-ltb, le-ltb}
use Prim.Native.Nat.compare
use Rattle.search.specs.Laws.Sets.{first-true, first-false, odd_first, even_first, has-zero, has_half, has-below}
use Rattle.search.specs.Sets.{has, Others}

ltb-suc : (m n : ℕ) → ltb (suc m) (suc n) ≡ ltb m n
ltb-suc m n = rw compare.suc-suc

-- a set below 2 ^ k has no member from k on
pub beyond : (k n i : ℕ) → n < 2 ^ k → k ≤ i → has n i ≡ false
beyond k n i l h = go (has n i) refl
  where
    go : (b : Bool) → has n i ≡ b → b ≡ false
    go true e = absurd (omega (arith, has-below k n i l e))
    go false e = refl

-- 2 ^ n - 1 has the members below n
pub has_first : (n p : ℕ) → has (2 ^ n - 1) p ≡ ltb p n
unfolding has
has_first zero p = has-zero p ∙ sym (le-ltb p 0 (omega arith))
has_first (suc n) zero =
    eq-eqb ((2 ^ suc n - 1) / 1 % 2) 1 (omega (arith, pow-suc 2 n, pow_pos n, div-one (2 ^ suc n - 1))) ∙ sym (lt-ltb 0 (suc n) (omega arith))
has_first (suc n) (suc p) =
    has_half (2 ^ suc n - 1) p ∙ ap (λ (m : ℕ). has m p) (omega (arith, pow-suc 2 n, pow_pos n)) ∙ has_first n p ∙ sym (ltb-suc p n)

-- and without a set of some of them it has the others
pub others_of : (n set : ℕ) → set < 2 ^ n → Others n set (2 ^ n - 1 - set)
others_of n set l = record { is_other = go n set l; below = omega (arith, pow_pos n) }
  where
    first : (n set : ℕ) → set < 2 ^ suc n → (b : Bool) → has set 0 ≡ b → has (2 ^ suc n - 1 - set) 0 ≡ not b
    first n set l true e = even_first (2 ^ suc n - 1 - set) (omega (arith, pow-suc 2 n, first-true set e))
    first n set l false e = odd_first (2 ^ suc n - 1 - set) (omega (arith, pow-suc 2 n, first-false set e))

    go : (n set : ℕ) → set < 2 ^ n → (i : ℕ) → i < n → has (2 ^ n - 1 - set) i ≡ not (has set i)
    go zero set l i k = absurd (omega arith)
    go (suc n) set l zero k = first n set l (has set 0) refl
    go (suc n) set l (suc i) k =
        has_half (2 ^ suc n - 1 - set) i
        ∙ ap (λ (m : ℕ). has m i) (omega (arith, pow-suc 2 n))
        ∙ go n (set / 2) (omega (arith, pow-suc 2 n)) i (omega arith)
        ∙ sym (ap not (has_half set i))
