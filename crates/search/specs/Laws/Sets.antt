-- Laws of sets as numbers: a member more, a member less, the least member and how many there are.
-- Assumes nothing.
use Rattle.std.specs.Prelude.{◌≡◌, refl, ◌≢◌, ◌⊎◌, Bool, true, false, ℕ, zero, suc, ◌+◌, ◌-◌, ◌*◌, ◌/◌, ◌%◌, ◌^◌, ◌≤◌, ◌<◌, eqb}
use Rattle.std.proofs.Common.{sym, ap, ◌∙◌, inl, inr, zero-add, one-mul, mod-eq_of_lt, pow-suc, div-one, arith, eqb-true, eq-eqb, ne_eqb}
use Rattle.std.proofs.Math.Nat.{pow-succ', div-div-eq-div-mul}
use Rattle.std.specs.Int.Count.{ones, ones_step, count_trailing_zeros, under}
use Rattle.std.proofs.Math.Pow.{pow-lt}
use Rattle.std.proofs.lemmas.Bool.{eqb-false}
use Rattle.planning.proofs.Laws.Finite.Decisions.{le-or-lt}
use Rattle.search.specs.Sets.{has}

-- a test is not both true and false
pub clash : (b : Bool) → b ≡ true → b ≡ false → ⊥
clash b p q = let z : ◌≡◌ {A = Bool} true false = sym p ∙ q in let o : ◌≡◌ {A = ℕ} 0 1 = cc in omega arith

-- 0 is a member of the odd numbers, and what is a member above 0 is one less in the half

pub first-true : (n : ℕ) → has n 0 ≡ true → n % 2 ≡ 1
unfolding has
first-true n h = omega (arith, div-one n, eqb-true (n / 1 % 2) 1 h)

pub first-false : (n : ℕ) → has n 0 ≡ false → n % 2 ≡ 0
unfolding has
first-false n h = go (le-or-lt (n % 2) 0)
  where
    go : (n % 2 ≤ 0) ⊎ (0 < n % 2) → n % 2 ≡ 0
    go (inl l) = omega arith
    go (inr l) = absurd (eqb-false (n / 1 % 2) 1 h (omega (arith, div-one n)))

pub odd_first : (n : ℕ) → n % 2 ≡ 1 → has n 0 ≡ true
unfolding has
odd_first n h = eq-eqb (n / 1 % 2) 1 (omega (arith, div-one n))

pub even_first : (n : ℕ) → n % 2 ≡ 0 → has n 0 ≡ false
unfolding has
even_first n h = ne_eqb (n / 1 % 2) 1 (λ e. omega (arith, div-one n))

-- two numbers of the same lowest digit
same_first : (m n : ℕ) → m % 2 ≡ n % 2 → has m 0 ≡ has n 0
unfolding has
same_first m n e = let d : m / 1 % 2 ≡ n / 1 % 2 = omega (arith, div-one m, div-one n) in ap (λ (x : ℕ). eqb x 1) d

pub has_half : (n i : ℕ) → has n (suc i) ≡ has (n / 2) i
unfolding has
has_half n i = ap (λ (m : ℕ). eqb (m % 2) 1) (ap (λ (m : ℕ). n / m) (pow-succ' 2 i) ∙ sym (div-div-eq-div-mul n 2 (2 ^ i)))

pub has-zero : (i : ℕ) → has 0 i ≡ false
has-zero zero = even_first 0 refl
has-zero (suc i) = has_half 0 i ∙ has-zero i

has-nothing : (n i : ℕ) → n ≡ 0 → has n i ≡ true → ⊥
has-nothing n i e h = clash (has n i) h (ap (λ (m : ℕ). has m i) e ∙ has-zero i)

pub has-below : (k n i : ℕ) → n < 2 ^ k → has n i ≡ true → i < k
has-below zero n i l h = absurd (has-nothing n i (omega arith) h)
has-below (suc k) n zero l h = omega arith
has-below (suc k) n (suc i) l h = omega (arith, has-below k (n / 2) i (omega (arith, pow-suc 2 k)) (sym (has_half n i) ∙ h))

pub power_le : (n i : ℕ) → has n i ≡ true → 2 ^ i ≤ n
power_le n zero h = omega (arith, first-true n h)
power_le n (suc i) h = omega (arith, pow-suc 2 i, power_le (n / 2) i (sym (has_half n i) ∙ h))

-- a member less

without_half : (n i : ℕ) → (n - 2 ^ suc i) / 2 ≡ n / 2 - 2 ^ i
without_half n i = omega (arith, pow-suc 2 i)

pub has-without-same : (n i : ℕ) → has n i ≡ true → has (n - 2 ^ i) i ≡ false
has-without-same n zero h = even_first (n - 2 ^ 0) (omega (arith, first-true n h))
has-without-same n (suc i) h =
    has_half (n - 2 ^ suc i) i ∙ ap (λ (m : ℕ). has m i) (without_half n i) ∙ has-without-same (n / 2) i (sym (has_half n i) ∙ h)

pub has-without-other : (n i j : ℕ) → has n i ≡ true → j ≢ i → has (n - 2 ^ i) j ≡ has n j
has-without-other n zero zero h d = absurd (d refl)
has-without-other n zero (suc j) h d =
    has_half (n - 2 ^ 0) j ∙ ap (λ (m : ℕ). has m j) (omega (arith, first-true n h)) ∙ sym (has_half n j)
has-without-other n (suc i) zero h d = same_first (n - 2 ^ suc i) n (omega (arith, pow-suc 2 i, power_le n (suc i) h))
has-without-other n (suc i) (suc j) h d =
    has_half (n - 2 ^ suc i) j ∙ ap (λ (m : ℕ). has m j) (without_half n i)
    ∙ has-without-other (n / 2) i j (sym (has_half n i) ∙ h) (λ e. d (ap suc e)) ∙ sym (has_half n j)

-- a member more

with_half : (n i : ℕ) → (n + 2 ^ suc i) / 2 ≡ n / 2 + 2 ^ i
with_half n i = omega (arith, pow-suc 2 i)

pub has_with_same : (n i : ℕ) → has n i ≡ false → has (n + 2 ^ i) i ≡ true
has_with_same n zero h = odd_first (n + 2 ^ 0) (omega (arith, first-false n h))
has_with_same n (suc i) h =
    has_half (n + 2 ^ suc i) i ∙ ap (λ (m : ℕ). has m i) (with_half n i) ∙ has_with_same (n / 2) i (sym (has_half n i) ∙ h)

pub has_with_other : (n i j : ℕ) → has n i ≡ false → j ≢ i → has (n + 2 ^ i) j ≡ has n j
has_with_other n zero zero h d = absurd (d refl)
has_with_other n zero (suc j) h d =
    has_half (n + 2 ^ 0) j ∙ ap (λ (m : ℕ). has m j) (omega (arith, first-false n h)) ∙ sym (has_half n j)
has_with_other n (suc i) zero h d = same_first (n + 2 ^ suc i) n (omega (arith, pow-suc 2 i))
has_with_other n (suc i) (suc j) h d =
    has_half (n + 2 ^ suc i) j ∙ ap (λ (m : ℕ). has m j) (with_half n i)
    ∙ has_with_other (n / 2) i j (sym (has_half n i) ∙ h) (λ e. d (ap suc e)) ∙ sym (has_half n j)

-- a set of one member

pub has-single-other : (i j : ℕ) → j ≢ i → has (2 ^ i) j ≡ false
has-single-other i j d = rw zero-add at (has_with_other 0 i j (has-zero i) d) ∙ has-zero j

-- the code's shift gives the set of one member
pub shifted : (w i : ℕ) → i < w → 1 * 2 ^ i % 2 ^ w ≡ 2 ^ i
shifted w i l = rw (one-mul (2 ^ i)) (mod-eq_of_lt (pow-lt l))

pub shifted-le : (w n i : ℕ) → i < w → has n i ≡ true → 1 * 2 ^ i % 2 ^ w ≤ n
shifted-le w n i l h = rw (shifted w i l) (power_le n i h)

-- the least member

pub least-member : (k n : ℕ) → 0 < n → n < 2 ^ k
    → (count_trailing_zeros k n < k) × (has n (count_trailing_zeros k n) ≡ true) × ((j : ℕ) → j < count_trailing_zeros k n → has n j ≡ false)
unfolding count_trailing_zeros
least-member zero n p l = absurd (omega arith)
least-member (suc k) n p l =
    go (n % 2) refl (λ (e : n % 2 ≡ 0). least-member k (n / 2) (omega arith) (omega (arith, pow-suc 2 k)))
  where
    go : (d : ℕ) → n % 2 ≡ d
        → (n % 2 ≡ 0
        → (count_trailing_zeros k (n / 2) < k) × (has (n / 2) (count_trailing_zeros k (n / 2)) ≡ true)
        × ((j : ℕ) → j < count_trailing_zeros k (n / 2) → has (n / 2) j ≡ false))
        → (under d (count_trailing_zeros k (n / 2)) < suc k) × (has n (under d (count_trailing_zeros k (n / 2))) ≡ true)
        × ((j : ℕ) → j < under d (count_trailing_zeros k (n / 2)) → has n j ≡ false)
    go zero e half =
        let (below, member, least) = half e in (omega (arith, below), has_half n (count_trailing_zeros k (n / 2)) ∙ member, none least)
      where
        none : ((j : ℕ) → j < count_trailing_zeros k (n / 2) → has (n / 2) j ≡ false) → (j : ℕ) → j < suc (count_trailing_zeros k (n / 2)) → has n j ≡ false
        none least zero s = even_first n e
        none least (suc j) s = has_half n j ∙ least j (omega arith)
    go (suc d) e half = (omega arith, odd_first n (omega arith), λ j s. absurd (omega arith))

below_power : (n : ℕ) → n < 2 ^ n
below_power zero = omega arith
below_power (suc n) = omega (arith, pow-suc 2 n, below_power n)

no_members : (n : ℕ) → ((i : ℕ) → has n i ≡ false) → n ≡ 0
no_members n h = go (le-or-lt n 0)
  where
    go : (n ≤ 0) ⊎ (0 < n) → n ≡ 0
    go (inl l) = omega arith
    go (inr l) = absurd (clash (has n (count_trailing_zeros n n)) (least-member n n l (below_power n)).1 (h (count_trailing_zeros n n)))

-- a set whose members are all below k
pub below_of_members : (k n : ℕ) → ((i : ℕ) → has n i ≡ true → i < k) → n < 2 ^ k
below_of_members zero n h = omega (arith, no_members n (λ i. none i (has n i) (h i)))
  where
    none : (i : ℕ) (b : Bool) → (b ≡ true → i < 0) → b ≡ false
    none i true f = absurd (omega (arith, f refl))
    none i false f = refl
below_of_members (suc k) n h =
    omega (arith, pow-suc 2 k, below_of_members k (n / 2) (λ i m. let l : suc i < suc k = h (suc i) (has_half n i ∙ m) in omega arith))

-- how many members

pub ones_with : (n i : ℕ) → has n i ≡ false → ones (n + 2 ^ i) ≡ ones n + 1
ones_with n zero h =
    omega (arith, first-false n h, ones_step (n + 2 ^ 0), ones_step n, ap ones (halves (first-false n h)))
  where
    halves : n % 2 ≡ 0 → (n + 2 ^ 0) / 2 ≡ n / 2
    halves e = omega arith
ones_with n (suc i) h =
    omega (
      arith,
      pow-suc 2 i,
      ones_step (n + 2 ^ suc i),
      ones_step n,
      ap ones (with_half n i),
      ones_with (n / 2) i (sym (has_half n i) ∙ h),
    )

pub ones_single : (i : ℕ) → ones (2 ^ i) ≡ 1
unfolding ones
ones_single i = rw (zero-add (2 ^ i)) at (ones_with 0 i (has-zero i))
