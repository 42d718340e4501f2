-- Completeness of the search: where a cutting serves, in any number of parts, the search does not answer none, whatever its
-- allowance.
-- Assumes nothing.
pub mod Removal
pub mod FromState
use Rattle.std.specs.Prelude.{◌≡◌, refl, ◌≢◌, ◌⊎◌, Bool, true, false, List, ℕ, zero, suc, ◌+◌, ◌*◌, ◌≤◌, ◌<◌, length, get_or, T}
use Rattle.std.proofs.Common.{sym, subst, inl, inr, arith, le-ltb}
use Rattle.std.proofs.Math.Nat.{le_of_mul-le-mul_left}
use Rattle.planning.specs.Sum.{sum}
use Rattle.planning.specs.Cutting.{Cuts}
use Rattle.planning.specs.Search.{State, total, Step, finished, fills, lays, cuts, step_of, Result, found, none, stopped, with_piece, or_else, Allowance}
use Rattle.planning.specs.Search.{Permission, granted, exceeds, permission, one_engine, each_engine, perform, size, search_within, search_from}
use Rattle.planning.specs.Search.{unless_too_much, searched}
use Rattle.planning.specs.Tables.{at, cell}
use Rattle.planning.proofs.Laws.Finite.Decisions.{equal_or_not}
use Rattle.planning.proofs.Laws.Completeness.FromState.{Servable, Tried, lays-tried, cuts-tried}
use Rattle.planning.proofs.Laws.Search.Steps.{step-lays, step-cuts}
use Rattle.planning.proofs.Laws.Finite.Sums.{sum_ext, sum_mono, sum_scale, sum-exchange}

-- found or stopped
abbrev pub NotNone : Result → Type 0
NotNone (found tries table) = Unit {0}
NotNone (none tries) = ⊥
NotNone (stopped tries) = Unit {0}

not_none : {r : Result} (t : ℕ) → NotNone r → r ≡ none t → ⊥
not_none t h e = subst NotNone e h

with_piece-not-none : (place amount : ℕ) (r : Result) → NotNone r → NotNone (with_piece place amount r)
unfolding with_piece
with_piece-not-none place amount (found tries table) h = tt
with_piece-not-none place amount (none tries) h = h
with_piece-not-none place amount (stopped tries) h = tt

-- a try that is not none is not followed by another
or_else_first : (r : Result) (next : ℕ → Result) → NotNone r → NotNone (or_else r next)
unfolding or_else
or_else_first (found tries table) next h = tt
or_else_first (none tries) next h = absurd h
or_else_first (stopped tries) next h = tt

or_else_next : (r : Result) (next : ℕ → Result) → ((t : ℕ) → NotNone (next t)) → NotNone (or_else r next)
unfolding or_else
or_else_next (found tries table) next h = tt
or_else_next (none tries) next h = h tries
or_else_next (stopped tries) next h = tt

this_engine : (b : Bool) (more : Permission) (made : ℕ) (try next : ℕ → Result) → b ≡ true → ((t : ℕ) → NotNone (try t))
    → NotNone (one_engine b more made try next)
unfolding one_engine
this_engine false more made try next e h = absurd (subst T (sym e) tt)
this_engine true (exceeds allowance) made try next e h = tt
this_engine true granted made try next e h = or_else_first (try (made + 1)) next (h (made + 1))

later-engine : (b : Bool) (more : Permission) (made : ℕ) (try next : ℕ → Result) → ((t : ℕ) → NotNone (next t))
    → NotNone (one_engine b more made try next)
unfolding one_engine
later-engine false more made try next h = h made
later-engine true (exceeds allowance) made try next h = tt
later-engine true granted made try next h = or_else_next (try (made + 1)) next h

-- Of the n engines from i on, an eligible one whose try never ends in none.
each-engine-not-none : (n : ℕ) (eligible : ℕ → Bool) (try : ℕ → ℕ → Result) (allowance : Allowance) (i made k : ℕ)
    → i ≤ k → k < i + n → eligible k ≡ true → ((t : ℕ) → NotNone (try k t))
    → NotNone (each_engine n eligible try allowance i made)
unfolding each_engine
each-engine-not-none zero eligible try allowance i made k l h e never = absurd (omega arith)
each-engine-not-none (suc n) eligible try allowance i made k l h e never =
    go (equal_or_not k i) (λ c t. each-engine-not-none n eligible try allowance (i + 1) t k (omega arith) (omega arith) e never)
  where
    go : (k ≡ i) ⊎ (k ≢ i) → (k ≢ i → (t : ℕ) → NotNone (each_engine n eligible try allowance (i + 1) t))
        → NotNone (one_engine (eligible i) (permission allowance made) made (λ t. try i t) (λ t. each_engine n eligible try allowance (i + 1) t))
    go (inl c) r =
        this_engine (eligible i) (permission allowance made) made (λ t. try i t) (λ t. each_engine n eligible try allowance (i + 1) t)
        (rw (← c) e) (rw (← c) never)
    go (inr c) r =
        later-engine (eligible i) (permission allowance made) made (λ t. try i t) (λ t. each_engine n eligible try allowance (i + 1) t) (r c)

-- The loop of D or F, where one of its engines leads to a servable state.
tried-not-none : {n : ℕ} {s : State} {after : ℕ → State} {eligible : ℕ → Bool} (p : ℕ) (amount : ℕ → ℕ) (go_to_b : State → ℕ → Result)
    (allowance : Allowance) (made : ℕ) → Tried n s after eligible → ((next : State) (tries : ℕ) → Servable n next → NotNone (go_to_b next tries))
    → NotNone (each_engine (length s.remaining) eligible
    (λ i tries. with_piece (cell (length s.remaining) p i) (amount i) (go_to_b (after i) tries)) allowance 0 made)
tried-not-none {s = s} {after} {eligible} p amount go_to_b allowance made c h =
    each-engine-not-none (length s.remaining) eligible
    (λ i tries. with_piece (cell (length s.remaining) p i) (amount i) (go_to_b (after i) tries))
    allowance 0 made c.engine (omega arith) (omega (arith, c.inside)) c.tried
    (λ t. with_piece-not-none (cell (length s.remaining) p c.engine) (amount c.engine) (go_to_b (after c.engine) t) (h (after c.engine) t c.served))

-- The search from a servable state, on any bound (on bound 0 it ends in found), does not answer none.
pub search_not-none : (bound : ℕ) {n : ℕ} (allowance : Allowance) (s : State) (made : ℕ) → Servable n s
    → NotNone (search_within bound allowance s made)
unfolding search_within perform
search_not-none zero allowance s made b = tt
search_not-none (suc bound) {n} allowance s made b =
    go (step_of s) refl (λ after tries c. search_not-none bound {n = n} allowance after tries c)
  where
    go_to_b : State → ℕ → Result
    go_to_b after tries = search_within bound allowance after tries

    go : (step : Step) → step_of s ≡ step → ((after : State) (tries : ℕ) → Servable n after → NotNone (go_to_b after tries))
        → NotNone (perform step go_to_b allowance s made)
    go finished e h = tt
    go fills e h = tt
    go (lays p) e h = tried-not-none p (λ i. at s.rest p) go_to_b allowance made (lays-tried p b (step-lays s p e)) h
    go (cuts p) e h = tried-not-none p (λ i. at s.remaining i) go_to_b allowance made (cuts-tried p b (step-cuts s p e)) h

-- Step A: where some cutting serves, the energies are at most the capacities.
cutting-total : {n : ℕ} {capacity energy limit : List ℕ} {x : ℕ → ℕ → ℕ} → Cuts n capacity energy limit x → total energy ≤ total capacity
unfolding total
cutting-total {n} {capacity} {energy} {limit} {x} c =
    le_of_mul-le-mul_left {k = n}
    (omega (
      arith,
      sum_scale n (length energy) (at energy),
      sum_scale n (length capacity) (at capacity),
      sum_ext (length energy) (λ p. sum (length capacity) (x p)) (λ p. n * at energy p) c.fits.whole,
      sum-exchange (length energy) (length capacity) x,
      sum_mono (length capacity) (λ i. sum (length energy) (λ p. x p i)) (λ i. n * at capacity i) c.fits.within,
    ))
    c.from_one

-- Where some cutting serves, in any number of parts, the search does not answer none.
pub cutting_never_none : {n : ℕ} (capacity energy limit : List ℕ) {x : ℕ → ℕ → ℕ} → length limit ≡ length energy
    → ((p : ℕ) → p < length energy → 1 ≤ get_or limit p 0) → Cuts n capacity energy limit x → (allowance : Allowance)
    → (t : ℕ) → searched capacity energy limit allowance ≡ none t → ⊥
unfolding searched search_from unless_too_much
cutting_never_none {n} capacity energy limit {x} aligned limits c allowance t =
    not_none t
    (rw (le-ltb (total capacity) (total energy) (cutting-total c))
    (search_not-none (size start) {n = n} allowance start 0
    (record { parts = c.from_one; aligned = aligned; limits = λ p l some. limits p l; piece = x; serving = c.fits })))
  where
    start : State
    start = record { remaining = capacity; rest = energy; limit = limit }
