-- What the steps of the search mean: which step applies to a state, the smallest remaining of open engines, and the engines that
-- D and F try.
-- Assumes nothing.
use Rattle.std.specs.Prelude.{◌≡◌, refl, ◌≢◌, ◌⊎◌, Bool, true, false, ◌&&◌, List, ℕ, zero, suc, ◌*◌, ◌-◌, ◌≤◌, ◌<◌, min, ltb, leb, eqb, length}
use Rattle.std.proofs.Common.{sym, ◌∙◌, inl, inr, arith, ltb-true, ltb-false, leb-true, leb-false, eqb-true, lt-ltb, le-leb}
use Rattle.std.proofs.lemmas.Bool.{eqb-false}
use Rattle.planning.specs.Search.{State, comes_first, bulkier, Choice, none_left, chosen, bulkiest_of, smaller, smallest_of, smallest, Step, finished, fills}
use Rattle.planning.specs.Search.{lays, cuts, step_by, step_with, step_of, can_lay, can_cut}
use Rattle.planning.specs.Tables.{at}
use Rattle.planning.proofs.Laws.Search.Choice.{FirstBulkiest, chosen-first, none_left_lem}
use Rattle.planning.proofs.Laws.Finite.Decisions.{le-or-lt, below_next}

-- p is left, and no delivery that is left comes before it
pub record Chosen (s : State) (p : ℕ) : Type 0 where
  pub inside : p < length s.rest
  pub left : 0 < at s.rest p
  pub first : (q : ℕ) → q < length s.rest → 0 < at s.rest q
      → bulkier (at s.rest q) (at s.limit q) (at s.rest p) (at s.limit p) ≡ false

-- D applies
pub record Lays (s : State) (p : ℕ) : Type 0 where
  pub chosen : Chosen s p
  pub one : at s.limit p ≡ 1

-- E applies
pub record Fills (s : State) (p : ℕ) : Type 0 where
  pub chosen : Chosen s p
  pub several : at s.limit p ≢ 1
  pub small : at s.rest p ≤ (at s.limit p - 1) * smallest s

-- F applies
pub record CutsStep (s : State) (p : ℕ) : Type 0 where
  pub chosen : Chosen s p
  pub several : at s.limit p ≢ 1
  pub large : (at s.limit p - 1) * smallest s < at s.rest p

-- what a step says of the state that it applies to
abbrev Means : State → Step → Type 0
Means s finished = (p : ℕ) → p < length s.rest → at s.rest p ≡ 0
Means s fills = (p : ℕ) × Fills s p
Means s (lays p) = Lays s p
Means s (cuts p) = CutsStep s p

meant-by : (s : State) (p : ℕ) → Chosen s p → (one small : Bool) → eqb (at s.limit p) 1 ≡ one
    → leb (at s.rest p) ((at s.limit p - 1) * smallest s) ≡ small → Means s (step_by one small p)
unfolding step_by
meant-by s p h true small e d = record { chosen = h; one = eqb-true (at s.limit p) 1 e }
meant-by s p h false true e d = (
  p,
  record {
    chosen = h;
    several = eqb-false (at s.limit p) 1 e;
    small = leb-true (at s.rest p) ((at s.limit p - 1) * smallest s) d;
  },
)
meant-by s p h false false e d =
    record {
      chosen = h;
      several = eqb-false (at s.limit p) 1 e;
      large = leb-false (at s.rest p) ((at s.limit p - 1) * smallest s) d;
    }

meant : (s : State) → Means s (step_of s)
unfolding step_of step_with
meant s = go (bulkiest_of s (length s.rest)) refl
  where
    go : (c : Choice) → bulkiest_of s (length s.rest) ≡ c → Means s (step_with s c)
    go none_left e = (none_left_lem s (length s.rest)).0 e
    go (chosen p) e =
        let h : FirstBulkiest s (length s.rest) p = (chosen-first s (length s.rest) p).0 e in
        meant-by s p (record { inside = h.inside; left = h.left; first = h.first }) (eqb (at s.limit p) 1)
        (leb (at s.rest p) ((at s.limit p - 1) * smallest s)) refl refl

-- B applies only where no delivery is left
pub step-finished : (s : State) → step_of s ≡ finished → (p : ℕ) → p < length s.rest → at s.rest p ≡ 0
step-finished s e = rw e at (meant s)

pub step-lays : (s : State) (p : ℕ) → step_of s ≡ lays p → Lays s p
step-lays s p e = rw e at (meant s)

pub step-fills : (s : State) → step_of s ≡ fills → (p : ℕ) × Fills s p
step-fills s e = rw e at (meant s)

pub step-cuts : (s : State) (p : ℕ) → step_of s ≡ cuts p → CutsStep s p
step-cuts s p e = rw e at (meant s)

-- where q does not come before p and p's limit is not 1, q's limit is not 1 either, and q is at most as bulky as p
pub not-bulkier : (rest_q limit_q rest_p limit_p : ℕ) → bulkier rest_q limit_q rest_p limit_p ≡ false → limit_p ≢ 1
    → (limit_q ≢ 1) × (rest_q * (limit_p - 1) ≤ rest_p * (limit_q - 1))
unfolding bulkier comes_first
not-bulkier rest_q limit_q rest_p limit_p h n = go (eqb limit_q 1) (eqb limit_p 1) refl refl h
  where
    go : (q_one p_one : Bool) → eqb limit_q 1 ≡ q_one → eqb limit_p 1 ≡ p_one → comes_first q_one p_one rest_q limit_q rest_p limit_p ≡ false
        → (limit_q ≢ 1) × (rest_q * (limit_p - 1) ≤ rest_p * (limit_q - 1))
    go true true e d g = absurd (n (eqb-true limit_p 1 d))
    go false true e d g = absurd (n (eqb-true limit_p 1 d))
    go true false e d g = let z : ◌≡◌ {A = ℕ} 0 1 = cc in absurd (omega arith)
    go false false e d g = (eqb-false limit_q 1 e, ltb-false (rest_p * (limit_q - 1)) (rest_q * (limit_p - 1)) g)

-- the smaller of two remainings, where an engine with remaining 0 is not counted
smaller-first : (m c : ℕ) → 0 < m → (0 < smaller m c) × (smaller m c ≤ m)
unfolding smaller
smaller-first m zero k = omega arith
smaller-first zero (suc c) k = omega arith
smaller-first (suc m) (suc c) k = omega arith

smaller-second : (m c : ℕ) → 0 < c → (0 < smaller m c) × (smaller m c ≤ c)
unfolding smaller
smaller-second m zero k = absurd (omega arith)
smaller-second zero (suc c) k = omega arith
smaller-second (suc m) (suc c) k = omega arith

smaller-either : (m c : ℕ) → (smaller m c ≡ m) ⊎ (smaller m c ≡ c)
unfolding smaller
smaller-either m zero = inl refl
smaller-either zero (suc c) = inr refl
smaller-either (suc m) (suc c) = go (le-or-lt m c)
  where
    go : (m ≤ c) ⊎ (c < m) → (min (suc m) (suc c) ≡ suc m) ⊎ (min (suc m) (suc c) ≡ suc c)
    go (inl l) = inl (omega arith)
    go (inr l) = inr (omega arith)

smallest_of_open : (cs : List ℕ) (n i : ℕ) → i < n → 0 < at cs i → (0 < smallest_of cs n) × (smallest_of cs n ≤ at cs i)
unfolding smallest_of
smallest_of_open cs zero = λ i l. absurd (omega arith)
smallest_of_open cs (suc n) =
    below_next (λ i. 0 < at cs i → (0 < smallest_of cs (suc n)) × (smallest_of cs (suc n) ≤ at cs i)) n
    (λ i l k. let h = smallest_of_open cs n i l k in omega (arith, h, smaller-first (smallest_of cs n) (at cs n) h.0))
    (smaller-second (smallest_of cs n) (at cs n))

-- the smallest remaining is that of an engine, where one is open
smallest_of-at : (cs : List ℕ) (n : ℕ) → 0 < smallest_of cs n → (i : ℕ) × (i < n) × (at cs i ≡ smallest_of cs n)
unfolding smallest_of
smallest_of-at cs zero k = absurd (omega arith)
smallest_of-at cs (suc n) k = go (smaller-either (smallest_of cs n) (at cs n)) (smallest_of-at cs n)
  where
    go : (smaller (smallest_of cs n) (at cs n) ≡ smallest_of cs n) ⊎ (smaller (smallest_of cs n) (at cs n) ≡ at cs n)
        → (0 < smallest_of cs n → (i : ℕ) × (i < n) × (at cs i ≡ smallest_of cs n))
        → (i : ℕ) × (i < suc n) × (at cs i ≡ smaller (smallest_of cs n) (at cs n))
    go (inl e) r = let h = r (omega arith) in (h.0, omega (arith, h.1), h.2 ∙ sym e)
    go (inr e) r = (n, omega arith, cc)

pub smallest-positive : (s : State) (i : ℕ) → i < length s.remaining → 0 < at s.remaining i → 0 < smallest s
unfolding smallest
smallest-positive s i l k = (smallest_of_open s.remaining (length s.remaining) i l k).0

pub smallest-le : (s : State) (i : ℕ) → i < length s.remaining → 0 < at s.remaining i → smallest s ≤ at s.remaining i
unfolding smallest
smallest-le s i l k = (smallest_of_open s.remaining (length s.remaining) i l k).1

pub smallest-at : (s : State) → 0 < smallest s → (i : ℕ) × (i < length s.remaining) × (at s.remaining i ≡ smallest s)
unfolding smallest
smallest-at s = smallest_of-at s.remaining (length s.remaining)

and_true-left : (a b : Bool) → (a && b) ≡ true → a ≡ true
and_true-left true b e = refl
and_true-left false b e = cc

and_true_right : (a b : Bool) → (a && b) ≡ true → b ≡ true
and_true_right true b e = e
and_true_right false b e = cc

-- the engines that D tries: open, with remaining at or above the rest
pub can_lay-true : (s : State) (p i : ℕ) → can_lay s p i ≡ true → (0 < at s.remaining i) × (at s.rest p ≤ at s.remaining i)
unfolding can_lay
can_lay-true s p i e = (
  ltb-true 0 (at s.remaining i) (and_true-left (ltb 0 (at s.remaining i)) (leb (at s.rest p) (at s.remaining i)) e),
  leb-true (at s.rest p) (at s.remaining i) (and_true_right (ltb 0 (at s.remaining i)) (leb (at s.rest p) (at s.remaining i)) e),
)

pub lay_can : (s : State) (p i : ℕ) → (0 < at s.remaining i) × (at s.rest p ≤ at s.remaining i) → can_lay s p i ≡ true
unfolding can_lay
lay_can s p i h = rw (lt-ltb 0 (at s.remaining i) h.0, le-leb (at s.rest p) (at s.remaining i) h.1)

-- the engines that F tries: open, with remaining below the rest
pub can_cut-true : (s : State) (p i : ℕ) → can_cut s p i ≡ true → (0 < at s.remaining i) × (at s.remaining i < at s.rest p)
unfolding can_cut
can_cut-true s p i e = (
  ltb-true 0 (at s.remaining i) (and_true-left (ltb 0 (at s.remaining i)) (ltb (at s.remaining i) (at s.rest p)) e),
  ltb-true (at s.remaining i) (at s.rest p) (and_true_right (ltb 0 (at s.remaining i)) (ltb (at s.remaining i) (at s.rest p)) e),
)

pub cut_can : (s : State) (p i : ℕ) → (0 < at s.remaining i) × (at s.remaining i < at s.rest p) → can_cut s p i ≡ true
unfolding can_cut
cut_can s p i h = rw (lt-ltb 0 (at s.remaining i) h.0, lt-ltb (at s.remaining i) (at s.rest p) h.1)
