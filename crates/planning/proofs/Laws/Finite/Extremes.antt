-- A largest and a smallest entry above 0 of a function on the numbers below a bound, and what they say of its sum.
-- Assumes nothing.
use Rattle.std.specs.Prelude.{◌≡◌, ◌≢◌, ◌⊎◌, ℕ, zero, suc, ◌*◌, ◌≤◌, ◌<◌}
use Rattle.std.proofs.Common.{inl, inr, ⊎_elim, arith}
use Rattle.planning.specs.Sum.{sum, positives}
use Rattle.planning.proofs.Laws.Finite.Decisions.{le-or-lt, at-or_else}
use Rattle.planning.proofs.Laws.Finite.Sums.{sum-zero, sum-le-positives-mul, positives-mul-le-sum}

-- the entry at place, above 0, to which every entry above 0 is related
pub record Extreme (related : ℕ → ℕ → Type 0) (m : ℕ) (f : ℕ → ℕ) : Type 0 where
  pub place : ℕ
  pub place-below : place < m
  pub positive : 0 < f place
  pub extreme : (i : ℕ) → i < m → 0 < f i → related (f i) (f place)

-- for a total order: an extreme entry, or no entry above 0
pub extreme-or-none : (related : ℕ → ℕ → Type 0) → ((a b : ℕ) → related a b ⊎ related b a)
    → ((a b c : ℕ) → related a b → related b c → related a c)
    → (m : ℕ) (f : ℕ → ℕ) → Extreme related m f ⊎ ((i : ℕ) → i < m → f i ≡ 0)
extreme-or-none related total trans zero f = inr (λ i l. absurd (omega arith))
extreme-or-none related total trans (suc m) f = go (le-or-lt (f m) 0) (extreme-or-none related total trans m f)
  where
    Result : Type 0
    Result = Extreme related (suc m) f ⊎ ((i : ℕ) → i < suc m → f i ≡ 0)

    refl_related : (a : ℕ) → related a a ⊎ related a a → related a a
    refl_related a (inl r) = r
    refl_related a (inr r) = r

    -- what holds below m and at m holds below suc m
    extended : (P : ℕ → Type 0) → ((i : ℕ) → i < m → P i) → P m → (i : ℕ) → i < suc m → P i
    extended P h k = at-or_else (λ i. i < suc m → P i) m (λ l. k) (λ i (n : i ≢ m) (l : i < suc m). h i (omega arith))

    last : 0 < f m → ((i : ℕ) → i < m → 0 < f i → related (f i) (f m)) → Result
    last k h =
        inl
        (record {
          place = m;
          place-below = omega arith;
          positive = k;
          extreme = extended (λ i. 0 < f i → related (f i) (f m)) h (λ p. refl_related (f m) (total (f m) (f m)));
        })

    earlier : (b : Extreme related m f) → (0 < f m → related (f m) (f b.place)) → Result
    earlier b h =
        inl
        (record {
          place = b.place;
          place-below = omega arith;
          positive = b.positive;
          extreme = extended (λ i. 0 < f i → related (f i) (f b.place)) b.extreme h;
        })

    compare : 0 < f m → (b : Extreme related m f) → related (f m) (f b.place) ⊎ related (f b.place) (f m) → Result
    compare k b (inl r) = earlier b (λ p. r)
    compare k b (inr r) = last k (λ i l p. trans (f i) (f b.place) (f m) (b.extreme i l p) r)

    go : (f m ≤ 0) ⊎ (0 < f m) → Extreme related m f ⊎ ((i : ℕ) → i < m → f i ≡ 0) → Result
    go (inl z) (inl b) = earlier b (λ p. absurd (omega arith))
    go (inl z) (inr n) = inr (extended (λ i. f i ≡ 0) n (omega arith))
    go (inr k) (inl b) = compare k b (total (f m) (f b.place))
    go (inr k) (inr n) = last k (λ i l p. absurd (omega (arith, n i l)))

-- the order turned round
abbrev pub AtLeast : ℕ → ℕ → Type 0
AtLeast a b = b ≤ a

pub largest-or-none : (m : ℕ) (f : ℕ → ℕ) → Extreme ◌≤◌ m f ⊎ ((i : ℕ) → i < m → f i ≡ 0)
largest-or-none = extreme-or-none ◌≤◌ total (λ a b c h k. omega arith)
  where
    total : (a b : ℕ) → (a ≤ b) ⊎ (b ≤ a)
    total a b = ⊎_elim inl (λ (l : b < a). inr (omega arith)) (le-or-lt a b)

pub smallest-or-none : (m : ℕ) (f : ℕ → ℕ) → Extreme AtLeast m f ⊎ ((i : ℕ) → i < m → f i ≡ 0)
smallest-or-none = extreme-or-none AtLeast total (λ a b c h k. omega arith)
  where
    total : (a b : ℕ) → (b ≤ a) ⊎ (a ≤ b)
    total a b = ⊎_elim inl (λ (l : a < b). inr (omega arith)) (le-or-lt b a)

-- a function whose sum is above 0 has an entry above 0
some : {related : ℕ → ℕ → Type 0} (m : ℕ) (f : ℕ → ℕ) → 0 < sum m f
    → Extreme related m f ⊎ ((i : ℕ) → i < m → f i ≡ 0) → Extreme related m f
some m f h (inl b) = b
some m f h (inr n) = absurd (omega (arith, sum-zero m f n))

pub largest : (m : ℕ) (f : ℕ → ℕ) → 0 < sum m f → Extreme ◌≤◌ m f
largest m f h = some m f h (largest-or-none m f)

pub smallest : (m : ℕ) (f : ℕ → ℕ) → 0 < sum m f → Extreme AtLeast m f
smallest m f h = some m f h (smallest-or-none m f)

pub sum-le-largest : {m : ℕ} {f : ℕ → ℕ} (b : Extreme ◌≤◌ m f) → sum m f ≤ positives m f * f b.place
sum-le-largest {m} {f} b = sum-le-positives-mul m f (f b.place) b.extreme

pub smallest-le-sum : {m : ℕ} {f : ℕ → ℕ} (b : Extreme AtLeast m f) → positives m f * f b.place ≤ sum m f
smallest-le-sum {m} {f} b = positives-mul-le-sum m f (f b.place) b.extreme
