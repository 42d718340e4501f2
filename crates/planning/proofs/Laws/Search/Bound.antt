-- The bound that the search recurses on: each try lowers a state's size, any bound from the size on gives the same result, and so
-- the search obeys steps B to F with no bound in them. For every state and every allowance.
-- Assumes nothing.
use Rattle.std.specs.Prelude.{◌≡◌, refl, Bool, true, false, List, ℕ, zero, suc, ◌+◌, ◌-◌, ◌≤◌, ◌<◌, length, set}
use Rattle.std.proofs.Common.{sym, ap, ap₂, ◌∙◌, arith, length-set, get_or-set_same, get_or-set_other}
use Rattle.std.proofs.Math.Path.{fun_ext}
use Rattle.planning.specs.Sum.{positives}
use Rattle.planning.specs.Search.{State, Step, finished, fills, lays, cuts, step_of, can_lay, after_laying, can_cut, after_cutting, Result, with_piece}
use Rattle.planning.specs.Search.{or_else, Allowance, Permission, granted, exceeds, permission, one_engine, each_engine, perform, size, search_within}
use Rattle.planning.specs.Search.{search_from}
use Rattle.planning.specs.Tables.{at, cell}
use Rattle.planning.proofs.Laws.Finite.Decisions.{at-or_else}
use Rattle.planning.proofs.Laws.Search.Steps.{Chosen, step-lays, step-fills, step-cuts, can_lay-true, can_cut-true}
use Rattle.planning.proofs.Laws.Finite.Lists.{inside_of}
use Rattle.planning.proofs.Laws.Finite.Sums.{positives_mono, positives-lt}

-- how many entries of a list are above 0
abbrev above : List ℕ → ℕ
above xs = positives (length xs) (at xs)

-- an entry that is lowered: no further entry is above 0
lowered_zero : (xs : List ℕ) (i v : ℕ) → i < length xs → v ≤ at xs i → (j : ℕ) → at xs j ≡ 0 → at (set xs i v) j ≡ 0
lowered_zero xs i v l k =
    at-or_else (λ j. at xs j ≡ 0 → at (set xs i v) j ≡ 0) i (λ z. omega (arith, get_or-set_same xs i v 0 l))
    (λ j n z. get_or-set_other xs i j v 0 n ∙ z)

above_lowered : (xs : List ℕ) (i v : ℕ) → i < length xs → v ≤ at xs i → above (set xs i v) ≤ above xs
above_lowered xs i v l k =
    rw (length-set xs i v) (positives_mono (length xs) (at xs) (at (set xs i v)) (λ j m. lowered_zero xs i v l k j))

-- an entry above 0 that becomes 0: one entry less is above 0
above_zeroed : (xs : List ℕ) (i : ℕ) → 0 < at xs i → above (set xs i 0) < above xs
above_zeroed xs i k =
    rw (length-set xs i 0)
    (positives-lt (length xs) (at xs) (at (set xs i 0)) i (λ j m. lowered_zero xs i 0 l (omega arith) j) l k (get_or-set_same xs i 0 0 l))
  where
    l : i < length xs
    l = inside_of xs i k

-- a try of D lowers the size
pub size-laying : (s : State) (p i : ℕ) → 0 < at s.rest p → can_lay s p i ≡ true → size (after_laying s p i) < size s
unfolding size after_laying
size-laying s p i k e =
    omega (
      arith,
      above_lowered s.remaining i (at s.remaining i - at s.rest p) (inside_of s.remaining i (can_lay-true s p i e).0) (omega arith),
      above_zeroed s.rest p k,
    )

-- a try of F lowers the size
pub size-cutting : (s : State) (p i : ℕ) → can_cut s p i ≡ true → size (after_cutting s p i) < size s
unfolding size after_cutting
size-cutting s p i e =
    omega (
      arith,
      above_zeroed s.remaining i tried.0,
      above_lowered s.rest p (at s.rest p - at s.remaining i) (inside_of s.rest p (omega (arith, tried))) (omega arith),
    )
  where
    tried : (0 < at s.remaining i) × (at s.remaining i < at s.rest p)
    tried = can_cut-true s p i e

-- two ways to try that agree on the engines that are tried
each_engine_agree : (n : ℕ) (eligible : ℕ → Bool) (f g : ℕ → ℕ → Result) (allowance : Allowance)
    → ((i : ℕ) → eligible i ≡ true → (t : ℕ) → f i t ≡ g i t) → (i made : ℕ)
    → each_engine n eligible f allowance i made ≡ each_engine n eligible g allowance i made
unfolding each_engine one_engine
each_engine_agree zero eligible f g allowance h i made = refl
each_engine_agree (suc n) eligible f g allowance h i made =
    go (eligible i) refl (permission allowance made) (λ t. each_engine_agree n eligible f g allowance h (i + 1) t)
  where
    go : (b : Bool) → eligible i ≡ b → (more : Permission)
        → ((t : ℕ) → each_engine n eligible f allowance (i + 1) t ≡ each_engine n eligible g allowance (i + 1) t)
        → one_engine b more made (λ t. f i t) (λ t. each_engine n eligible f allowance (i + 1) t)
        ≡ one_engine b more made (λ t. g i t) (λ t. each_engine n eligible g allowance (i + 1) t)
    go false e more r = r made
    go true e (exceeds a) r = refl
    go true e granted r = ap₂ or_else (h i e (made + 1)) (fun_ext r)

-- two ways to go on that agree on the states of smaller size
perform_agree : (s : State) (f g : State → ℕ → Result) (allowance : Allowance) (made : ℕ)
    → ((after : State) → size after < size s → (t : ℕ) → f after t ≡ g after t)
    → perform (step_of s) f allowance s made ≡ perform (step_of s) g allowance s made
unfolding perform
perform_agree s f g allowance made h = go (step_of s) refl
  where
    go : (step : Step) → step_of s ≡ step → perform step f allowance s made ≡ perform step g allowance s made
    go finished e = refl
    go fills e = refl
    go (lays p) e =
        each_engine_agree (length s.remaining) (λ i. can_lay s p i) _ _ allowance
        (λ i k t. ap (with_piece (cell (length s.remaining) p i) (at s.rest p))
        (h (after_laying s p i) (size-laying s p i (step-lays s p e).chosen.left k) t)) 0 made
    go (cuts p) e =
        each_engine_agree (length s.remaining) (λ i. can_cut s p i) _ _ allowance
        (λ i k t. ap (with_piece (cell (length s.remaining) p i) (at s.remaining i))
        (h (after_cutting s p i) (size-cutting s p i k) t)) 0 made

size-chosen : (s : State) (p : ℕ) → Chosen s p → 0 < size s
unfolding size
size-chosen s p c = omega (arith, above_zeroed s.rest p c.left)

-- with no open engine and no delivery left, B applies
step-none : (s : State) → size s ≡ 0 → step_of s ≡ finished
step-none s z = go (step_of s) refl
  where
    go : (step : Step) → step_of s ≡ step → step ≡ finished
    go finished e = refl
    go fills e = absurd (omega (arith, size-chosen s (step-fills s e).0 (step-fills s e).1.chosen))
    go (lays p) e = absurd (omega (arith, size-chosen s p (step-lays s p e).chosen))
    go (cuts p) e = absurd (omega (arith, size-chosen s p (step-cuts s p e).chosen))

bounds_agree : (m n : ℕ) (allowance : Allowance) (s : State) (made : ℕ) → size s ≤ m → size s ≤ n
    → search_within m allowance s made ≡ search_within n allowance s made
unfolding search_within perform
bounds_agree zero zero allowance s made k l = refl
bounds_agree zero (suc n) allowance s made k l = rw (step-none s (omega arith))
bounds_agree (suc m) zero allowance s made k l = rw (step-none s (omega arith))
bounds_agree (suc m) (suc n) allowance s made k l =
    perform_agree s (λ after tries. search_within m allowance after tries) (λ after tries. search_within n allowance after tries) allowance made
    (λ after h t. bounds_agree m n allowance after t (omega arith) (omega arith))

-- any bound from the size on gives the same result
pub any_bound : (allowance : Allowance) (s : State) (made bound : ℕ) → size s ≤ bound
    → search_within bound allowance s made ≡ search_from allowance s made
unfolding search_from
any_bound allowance s made bound l = bounds_agree bound (size s) allowance s made l (omega arith)

-- steps B to F: after a try the search goes on as the search from the state after it
pub search_steps : (allowance : Allowance) (s : State) (made : ℕ)
    → search_from allowance s made ≡ perform (step_of s) (λ after tries. search_from allowance after tries) allowance s made
unfolding search_within
search_steps allowance s made =
    sym (any_bound allowance s made (suc (size s)) (omega arith))
    ∙ perform_agree s (λ after tries. search_within (size s) allowance after tries) (λ after tries. search_from allowance after tries)
    allowance made (λ after h t. any_bound allowance after t (size s) (omega arith))
