-- Decisions between numbers: sums of the two cases, to be taken apart by clauses.
-- Assumes nothing.
use Rattle.std.specs.Prelude.{◌≡◌, ◌≢◌, ◌⊎◌, ℕ, suc, ◌≤◌, ◌<◌}
use Rattle.std.proofs.Common.{inl, inr, arith}
use Rattle.std.proofs.Math.Decide.{dec_le, ℕ_discrete}

pub equal_or_not : (a b : ℕ) → (a ≡ b) ⊎ (a ≢ b)
equal_or_not a b = go (ℕ_discrete a b)
  where
    go : Dec (a ≡ b) → (a ≡ b) ⊎ (a ≢ b)
    go (yes e) = inl e
    go (no n) = inr n

pub le-or-lt : (a b : ℕ) → (a ≤ b) ⊎ (b < a)
le-or-lt a b = go (dec_le a b)
  where
    go : Dec (a ≤ b) → (a ≤ b) ⊎ (b < a)
    go (yes l) = inl l
    go (no n) = inr (omega arith)

-- what holds at a and everywhere else holds everywhere
pub at-or_else : (P : ℕ → Type 0) (a : ℕ) → P a → ((i : ℕ) → i ≢ a → P i) → (i : ℕ) → P i
at-or_else P a h k i = go (equal_or_not i a)
  where
    go : (i ≡ a) ⊎ (i ≢ a) → P i
    go (inl e) = rw e h
    go (inr n) = k i n

pub at_two_or_else : (P : ℕ → Type 0) (a b : ℕ) → P a → P b → ((i : ℕ) → i ≢ a → i ≢ b → P i) → (i : ℕ) → P i
at_two_or_else P a b h k e = at-or_else P a h (λ i n. at-or_else (λ s. s ≢ a → P s) b (λ c. k) (λ s m c. e s c m) i n)

-- what holds below n and at n holds below n + 1
pub below_next : (P : ℕ → Type 0) (n : ℕ) → ((q : ℕ) → q < n → P q) → P n → (q : ℕ) → q < suc n → P q
below_next P n h k = at-or_else (λ q. q < suc n → P q) n (λ l. k) (λ q d l. h q (omega arith))
