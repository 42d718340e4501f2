-- Laws of finite sums and of counts of the entries above 0.
-- Assumes nothing.
use Rattle.std.specs.Prelude.{◌≡◌, refl, ◌≢◌, ◌⊎◌, ℕ, zero, suc, ◌+◌, ◌*◌, ◌≤◌, ◌<◌}
use Rattle.std.proofs.Common.{sym, ap, ◌∙◌, inl, inr, mul-zero, mul-add, add-one, arith}
use Rattle.planning.specs.Sum.{sum, sgn, positives}
use Rattle.planning.proofs.Laws.Finite.Decisions.{equal_or_not, le-or-lt, at-or_else}
use Rattle.planning.proofs.Laws.Finite.Update.{update, update_same, update_other, only, only_same, only-other}

pub sum_ext : (m : ℕ) (f g : ℕ → ℕ) → ((i : ℕ) → i < m → f i ≡ g i) → sum m f ≡ sum m g
unfolding sum
sum_ext zero f g h = refl
sum_ext (suc m) f g h = omega (arith, sum_ext m f g (λ i (k : i < m). h i (omega arith)), h m (omega arith))

pub sum_mono : (m : ℕ) (f g : ℕ → ℕ) → ((i : ℕ) → i < m → f i ≤ g i) → sum m f ≤ sum m g
unfolding sum
sum_mono zero f g h = omega arith
sum_mono (suc m) f g h = omega (arith, sum_mono m f g (λ i (k : i < m). h i (omega arith)), h m (omega arith))

pub sum-add : (m : ℕ) (f g : ℕ → ℕ) → sum m (λ i. f i + g i) ≡ sum m f + sum m g
unfolding sum
sum-add zero f g = refl
sum-add (suc m) f g = omega (arith, sum-add m f g)

-- two functions that differ at a alone
pub sum_one : (m : ℕ) (f g : ℕ → ℕ) (a : ℕ) → a < m → ((i : ℕ) → i < m → i ≢ a → f i ≡ g i) → sum m f + g a ≡ sum m g + f a
unfolding sum
sum_one zero f g a l h = absurd (omega arith)
sum_one (suc m) f g a l h = go (equal_or_not a m) (λ (k : a < m). sum_one m f g a k (λ i (s : i < m). h i (omega arith)))
  where
    go : (a ≡ m) ⊎ (a ≢ m) → (a < m → sum m f + g a ≡ sum m g + f a) → sum m f + f m + g a ≡ sum m g + g m + f a
    go (inl e) r = omega (arith, ap f e, ap g e, sum_ext m f g (λ i (s : i < m). h i (omega arith) (omega arith)))
    go (inr n) r = omega (arith, r (omega arith), h m (omega arith) (omega arith))

-- two functions that differ at a and b alone
pub sum_two : (m : ℕ) (f g : ℕ → ℕ) (a b : ℕ) → a < m → b < m → a ≢ b → ((i : ℕ) → i < m → i ≢ a → i ≢ b → f i ≡ g i)
    → sum m f + (g a + g b) ≡ sum m g + (f a + f b)
sum_two m f g a b k l n h =
    omega (
      arith,
      sum_one m between f a k (λ i s c. update_other f a (g a) c),
      sum_one m between g b l agrees,
      update_same f a (g a) {i = a} refl,
      update_other f a (g a) {i = b} (omega arith),
    )
  where
    between : ℕ → ℕ
    between = update f a (g a)

    agrees : (i : ℕ) → i < m → i ≢ b → between i ≡ g i
    agrees =
        at-or_else (λ i. i < m → i ≢ b → between i ≡ g i) a (λ s d. update_same f a (g a) refl)
        (λ i c s d. update_other f a (g a) c ∙ h i s c d)

pub sum-zero : (m : ℕ) (f : ℕ → ℕ) → ((i : ℕ) → i < m → f i ≡ 0) → sum m f ≡ 0
unfolding sum
sum-zero zero f h = refl
sum-zero (suc m) f h = omega (arith, sum-zero m f (λ i (s : i < m). h i (omega arith)), h m (omega arith))

-- a function that is 0 everywhere but at a
pub sum-single : (m : ℕ) (f : ℕ → ℕ) (a : ℕ) → a < m → ((i : ℕ) → i < m → i ≢ a → f i ≡ 0) → sum m f ≡ f a
sum-single m f a l h = omega (arith, sum_one m f (λ i. 0) a l h, sum-zero m (λ i. 0) (λ i s. refl))

pub sum-only : (m a d : ℕ) → a < m → sum m (only a d) ≡ d
sum-only m a d l = omega (arith, sum-single m (only a d) a l (λ i s n. only-other a d n), only_same a d {i = a} refl)

pub entry-le-sum : (m : ℕ) (f : ℕ → ℕ) (i : ℕ) → i < m → f i ≤ sum m f
unfolding sum
entry-le-sum zero f i l = absurd (omega arith)
entry-le-sum (suc m) f i l = go (equal_or_not i m) (λ (k : i < m). entry-le-sum m f i k)
  where
    go : (i ≡ m) ⊎ (i ≢ m) → (i < m → f i ≤ sum m f) → f i ≤ sum m f + f m
    go (inl e) r = omega (arith, ap f e)
    go (inr n) r = omega (arith, r (omega arith))

-- smaller or equal everywhere, smaller at a
pub sum_lt : (m : ℕ) (f g : ℕ → ℕ) (a : ℕ) → ((i : ℕ) → i < m → f i ≤ g i) → a < m → f a < g a → sum m f < sum m g
sum_lt m f g a h l k =
    omega (arith, sum_one m raised f a l (λ i s c. update_other f a (g a) c), sum_mono m raised g below, update_same f a (g a) {i = a} refl)
  where
    raised : ℕ → ℕ
    raised = update f a (g a)

    below : (i : ℕ) → i < m → raised i ≤ g i
    below =
        at-or_else (λ i. i < m → raised i ≤ g i) a (λ s. omega (arith, update_same f a (g a) {i = a} refl))
        (λ i c s. omega (arith, update_other f a (g a) {i = i} c, h i s))

pub sgn-zero : (n : ℕ) → n ≡ 0 → sgn n ≡ 0
unfolding sgn
sgn-zero zero e = refl
sgn-zero (suc n) e = absurd (omega arith)

pub sgn-pos : (n : ℕ) → 0 < n → sgn n ≡ 1
unfolding sgn
sgn-pos zero k = absurd (omega arith)
sgn-pos (suc n) k = refl

pub sgn-le-one : (n : ℕ) → sgn n ≤ 1
unfolding sgn
sgn-le-one zero = omega arith
sgn-le-one (suc n) = omega arith

-- a number that is 0 wherever another is has no larger sign
pub sgn_mono : (a b : ℕ) → (b ≡ 0 → a ≡ 0) → sgn a ≤ sgn b
sgn_mono a b h = go (le-or-lt b 0)
  where
    go : (b ≤ 0) ⊎ (0 < b) → sgn a ≤ sgn b
    go (inl z) = omega (arith, sgn-zero a (h (omega arith)))
    go (inr k) = omega (arith, sgn-pos b k, sgn-le-one a)

pub sgn-add : (a b : ℕ) → sgn (a + b) ≤ sgn a + sgn b
sgn-add a b = go (le-or-lt a 0)
  where
    go : (a ≤ 0) ⊎ (0 < a) → sgn (a + b) ≤ sgn a + sgn b
    go (inl z) = omega (arith, sgn_mono (a + b) b (λ (e : b ≡ 0). omega arith))
    go (inr k) = omega (arith, sgn-pos a k, sgn-le-one (a + b))

pub positives-le-bound : (m : ℕ) (f : ℕ → ℕ) → positives m f ≤ m
unfolding positives sum
positives-le-bound zero f = omega arith
positives-le-bound (suc m) f = omega (arith, positives-le-bound m f, sgn-le-one (f m))

-- g is 0 wherever f is
pub positives_mono : (m : ℕ) (f g : ℕ → ℕ) → ((i : ℕ) → i < m → f i ≡ 0 → g i ≡ 0) → positives m g ≤ positives m f
unfolding positives
positives_mono m f g h = sum_mono m (λ i. sgn (g i)) (λ i. sgn (f i)) (λ i l. sgn_mono (g i) (f i) (h i l))

-- g is 0 wherever f is, and at a besides
pub positives-lt : (m : ℕ) (f g : ℕ → ℕ) (a : ℕ) → ((i : ℕ) → i < m → f i ≡ 0 → g i ≡ 0) → a < m → 0 < f a → g a ≡ 0
    → positives m g < positives m f
unfolding positives
positives-lt m f g a h l k z =
    sum_lt m (λ i. sgn (g i)) (λ i. sgn (f i)) a (λ i s. sgn_mono (g i) (f i) (h i s)) l (omega (arith, sgn-zero (g a) z, sgn-pos (f a) k))

-- two functions that differ at a alone
pub positives-one : (m : ℕ) (f g : ℕ → ℕ) (a : ℕ) → a < m → ((i : ℕ) → i < m → i ≢ a → f i ≡ g i)
    → positives m f + sgn (g a) ≡ positives m g + sgn (f a)
unfolding positives
positives-one m f g a l h = sum_one m (λ i. sgn (f i)) (λ i. sgn (g i)) a l (λ i s n. ap sgn (h i s n))

-- two functions that differ at a and b alone
pub positives_two : (m : ℕ) (f g : ℕ → ℕ) (a b : ℕ) → a < m → b < m → a ≢ b
    → ((i : ℕ) → i < m → i ≢ a → i ≢ b → f i ≡ g i)
    → positives m f + (sgn (g a) + sgn (g b)) ≡ positives m g + (sgn (f a) + sgn (f b))
unfolding positives
positives_two m f g a b k l n h = sum_two m (λ i. sgn (f i)) (λ i. sgn (g i)) a b k l n (λ i s c d. ap sgn (h i s c d))

-- f without its entry at a
pub sum-without : (m : ℕ) (f : ℕ → ℕ) (a : ℕ) → a < m → sum m (update f a 0) + f a ≡ sum m f
sum-without m f a l =
    omega (arith, sum_one m (update f a 0) f a l (λ i s n. update_other f a 0 n), update_same f a 0 {i = a} refl)

-- f without its entry at a, which is above 0
pub positives-without : (m : ℕ) (f : ℕ → ℕ) (a : ℕ) → a < m → 0 < f a → positives m (update f a 0) + 1 ≡ positives m f
positives-without m f a l k =
    omega (
      arith,
      positives-one m (update f a 0) f a l (λ i s n. update_other f a 0 n),
      sgn-pos (f a) k,
      sgn-zero (update f a 0 a) (update_same f a 0 refl),
    )

pub two_entries_le-sum : (m : ℕ) (f : ℕ → ℕ) (a b : ℕ) → a < m → b < m → a ≢ b → f a + f b ≤ sum m f
two_entries_le-sum m f a b k l n =
    omega (arith, sum-without m f a k, entry-le-sum m (update f a 0) b l, update_other f a 0 {i = b} (omega arith))

-- every entry above 0 is at most c
pub sum-le-positives-mul : (m : ℕ) (f : ℕ → ℕ) (c : ℕ) → ((i : ℕ) → i < m → 0 < f i → f i ≤ c) → sum m f ≤ positives m f * c
unfolding sum positives
sum-le-positives-mul zero f c h = omega arith
sum-le-positives-mul (suc m) f c h = go (le-or-lt (f m) 0) (sum-le-positives-mul m f c (λ i (l : i < m). h i (omega arith)))
  where
    go : (f m ≤ 0) ⊎ (0 < f m) → sum m f ≤ positives m f * c → sum m f + f m ≤ (positives m f + sgn (f m)) * c
    go (inl z) r = rw (sgn-zero (f m) (omega arith)) (omega arith)
    go (inr k) r = rw (sgn-pos (f m) k) (omega (arith, h m (omega arith) k))

-- every entry above 0 is at least c
pub positives-mul-le-sum : (m : ℕ) (f : ℕ → ℕ) (c : ℕ) → ((i : ℕ) → i < m → 0 < f i → c ≤ f i) → positives m f * c ≤ sum m f
unfolding sum positives
positives-mul-le-sum zero f c h = omega arith
positives-mul-le-sum (suc m) f c h = go (le-or-lt (f m) 0) (positives-mul-le-sum m f c (λ i (l : i < m). h i (omega arith)))
  where
    go : (f m ≤ 0) ⊎ (0 < f m) → positives m f * c ≤ sum m f → (positives m f + sgn (f m)) * c ≤ sum m f + f m
    go (inl z) r = rw (sgn-zero (f m) (omega arith)) (omega arith)
    go (inr k) r = rw (sgn-pos (f m) k) (omega (arith, h m (omega arith) k))

pub positives_ext : (m : ℕ) (f g : ℕ → ℕ) → ((i : ℕ) → i < m → f i ≡ g i) → positives m f ≡ positives m g
unfolding positives
positives_ext m f g h = sum_ext m (λ i. sgn (f i)) (λ i. sgn (g i)) (λ i l. ap sgn (h i l))

pub positives-zero : (m : ℕ) (f : ℕ → ℕ) → ((i : ℕ) → i < m → f i ≡ 0) → positives m f ≡ 0
unfolding positives
positives-zero m f h = sum-zero m (λ i. sgn (f i)) (λ i l. sgn-zero (f i) (h i l))

-- the first entry apart
pub sum-front : (m : ℕ) (f : ℕ → ℕ) → sum (suc m) f ≡ f 0 + sum m (λ i. f (suc i))
unfolding sum
sum-front zero f = omega arith
sum-front (suc m) f = omega (arith, sum-front m f)

pub positives-front : (m : ℕ) (f : ℕ → ℕ) → positives (suc m) f ≡ sgn (f 0) + positives m (λ i. f (suc i))
unfolding positives
positives-front m f = sum-front m (λ i. sgn (f i))

pub sum_scale : (k m : ℕ) (f : ℕ → ℕ) → sum m (λ i. k * f i) ≡ k * sum m f
unfolding sum
sum_scale k zero f = sym (mul-zero k)
sum_scale k (suc m) f = omega (arith, sum_scale k m f, mul-add k (sum m f) (f m))

-- by rows or by columns
pub sum-exchange : (m n : ℕ) (x : ℕ → ℕ → ℕ) → sum m (λ p. sum n (λ i. x p i)) ≡ sum n (λ i. sum m (λ p. x p i))
unfolding sum
sum-exchange zero n x = sym (sum-zero n (λ i. 0) (λ i l. refl))
sum-exchange (suc m) n x =
    omega (arith, sum-exchange m n x, sum-add n (λ i. sum m (λ p. x p i)) (λ i. x m i))

-- a function without its entry at a
pub positives-without-le : (m : ℕ) (f : ℕ → ℕ) (a : ℕ) → positives m (update f a 0) ≤ positives m f
positives-without-le m f a =
    positives_mono m f (update f a 0)
    (λ i l. at-or_else (λ k. f k ≡ 0 → update f a 0 k ≡ 0) a (λ e. update_same f a 0 refl) (λ k n e. update_other f a 0 n ∙ e) i)

-- ---- a sum number by number

pub sum-next : (m : ℕ) (f : ℕ → ℕ) → sum (m + 1) f ≡ sum m f + f m
unfolding sum
sum-next m f = rw add-one

-- the sum of the first m numbers and the next is at most that of the first n
pub next-within : (m n : ℕ) (f : ℕ → ℕ) → m < n → sum m f + f m ≤ sum n f
unfolding sum
next-within m zero f l = absurd (omega arith)
next-within m (suc n) f l = go (le-or-lt n m) (next-within m n f)
  where
    go : (n ≤ m) ⊎ (m < n) → (m < n → sum m f + f m ≤ sum n f) → sum m f + f m ≤ sum n f + f n
    go (inl h) before = let e : m ≡ n = omega arith in rw e (omega arith)
    go (inr h) before = omega (arith, before h)
