-- The bisection of shortest: an induction over its turns, and that any bound from the distance of low and high on gives the same.
-- Assumes nothing.
use Rattle.std.specs.Prelude.{◌≡◌, refl, Bool, true, false, ℕ, zero, suc, ◌+◌, ◌-◌, ◌/◌, ◌≤◌, ◌<◌, ltb}
use Rattle.std.proofs.Common.{arith, ltb-true, ltb-false, le-ltb}
use Rattle.planning.specs.declared.Outcome.TheVariants.{Found, None, Stopped}
use Rattle.planning.specs.Modes.{search_at, Planned, planned_at, by_outcome, while_above, bisect, outcome_of}
use Rattle.planning.specs.Plan.{Plan}
use Rattle.planning.specs.Search.{Result, found, none, stopped}

-- what holds after each outcome holds
pub by-outcome : {A : Type 0} (P : A → Type 0) (r : Result) (if_found if_none if_stopped : Unit {0} → A)
    → (outcome_of r ≡ Found → P (if_found tt)) → (outcome_of r ≡ None → P (if_none tt)) → (outcome_of r ≡ Stopped → P (if_stopped tt))
    → P (by_outcome r if_found if_none if_stopped)
unfolding by_outcome outcome_of
by-outcome P (found tries table) if_found if_none if_stopped f n s = f refl
by-outcome P (none tries) if_found if_none if_stopped f n s = n refl
by-outcome P (stopped tries) if_found if_none if_stopped f n s = s refl

while-above : {A : Type 0} (P : A → Type 0) (low high : ℕ) (turn answer : Unit {0} → A)
    → (1 < high - low → P (turn tt)) → (high - low ≤ 1 → P (answer tt))
    → P (while_above (ltb 1 (high - low)) turn answer)
unfolding while_above
while-above P low high turn answer t a = go (ltb 1 (high - low)) refl
  where
    go : (b : Bool) → ltb 1 (high - low) ≡ b → P (while_above b turn answer)
    go true e = t (ltb-true 1 (high - low) e)
    go false e = a (ltb-false 1 (high - low) e)

-- Induction over the turns: an invariant of low and high that each turn keeps, and what the answers have.
pub bisect_induction : (plan : Plan) (P : Planned → Type 0) (Between : ℕ → ℕ → Type 0)
    → ((low high : ℕ) → Between low high → high - low ≤ 1 → P (planned_at plan high))
    → ((low high : ℕ) → Between low high → 1 < high - low → outcome_of (search_at plan ((low + high) / 2)) ≡ Found → Between low ((low + high) / 2))
    → ((low high : ℕ) → Between low high → 1 < high - low → outcome_of (search_at plan ((low + high) / 2)) ≡ None → Between ((low + high) / 2) high)
    → ((low high : ℕ) → Between low high → 1 < high - low → outcome_of (search_at plan ((low + high) / 2)) ≡ Stopped → P (planned_at plan ((low + high) / 2)))
    → (bound low high : ℕ) → high - low ≤ suc bound → Between low high → P (bisect bound plan low high)
unfolding bisect
bisect_induction plan P Between end f n s zero low high l b = end low high b l
bisect_induction plan P Between end f n s (suc bound) low high l b =
    while-above P low high _ _
    (λ k. by-outcome P (search_at plan ((low + high) / 2)) _ _ _
    (λ e. bisect_induction plan P Between end f n s bound low ((low + high) / 2) (omega arith) (f low high b k e))
    (λ e. bisect_induction plan P Between end f n s bound ((low + high) / 2) high (omega arith) (n low high b k e))
    (λ e. s low high b k e))
    (λ k. end low high b k)

-- what follows found and none may be replaced by equals
by-outcome_ext : {A : Type 0} (r : Result) (f g f' g' h : Unit {0} → A) → f tt ≡ f' tt → g tt ≡ g' tt
    → by_outcome r f g h ≡ by_outcome r f' g' h
unfolding by_outcome
by-outcome_ext (found tries table) f g f' g' h a b = a
by-outcome_ext (none tries) f g f' g' h a b = b
by-outcome_ext (stopped tries) f g f' g' h a b = refl

while_above_ext : {A : Type 0} (low high : ℕ) (turn turn' answer : Unit {0} → A) → (1 < high - low → turn tt ≡ turn' tt)
    → while_above (ltb 1 (high - low)) turn answer ≡ while_above (ltb 1 (high - low)) turn' answer
unfolding while_above
while_above_ext low high turn turn' answer h = go (ltb 1 (high - low)) refl
  where
    go : (b : Bool) → ltb 1 (high - low) ≡ b → while_above b turn answer ≡ while_above b turn' answer
    go true e = h (ltb-true 1 (high - low) e)
    go false e = refl

-- Any larger bound than high - low, or one turn less, gives the same.
pub bisect-bound : (plan : Plan) (bound larger low high : ℕ) → high - low ≤ suc bound → bound ≤ larger
    → bisect larger plan low high ≡ bisect bound plan low high
unfolding bisect while_above
bisect-bound plan zero zero low high l m = refl
bisect-bound plan zero (suc larger) low high l m = rw (le-ltb 1 (high - low) l)
bisect-bound plan (suc bound) zero low high l m = absurd (omega arith)
bisect-bound plan (suc bound) (suc larger) low high l m =
    while_above_ext low high _ _ _
    (λ k. by-outcome_ext (search_at plan ((low + high) / 2)) _ _ _ _ _
    (bisect-bound plan bound larger low ((low + high) / 2) (omega arith) (omega arith))
    (bisect-bound plan bound larger ((low + high) / 2) high (omega arith) (omega arith)))
