-- A function on the numbers with its value replaced at one place.
-- Assumes nothing.
use Rattle.std.specs.Prelude.{◌≡◌, ◌≢◌, true, false, eqb, ℕ, ◌<◌}
use Rattle.std.proofs.Common.{eq-eqb, ne_eqb, arith}

-- f, but v at a
pub update : {A : Type 0} → (ℕ → A) → ℕ → A → ℕ → A
update f a v i = elim (eqb a i) [ true ↦ v | false ↦ f i ]

pub update_same : {A : Type 0} (f : ℕ → A) (a : ℕ) (v : A) {i : ℕ} → i ≡ a → update f a v i ≡ v
unfolding update
update_same f a v {i} e = rw (update, eq-eqb a i (cc))

pub update_other : {A : Type 0} (f : ℕ → A) (a : ℕ) (v : A) {i : ℕ} → i ≢ a → update f a v i ≡ f i
unfolding update
update_other f a v {i} n = rw (update, ne_eqb a i (λ e. n (cc)))

-- an entry above 0 of f without its entry at a lies elsewhere
pub update-zero-elsewhere : (f : ℕ → ℕ) (a i : ℕ) → 0 < update f a 0 i → i ≢ a
update-zero-elsewhere f a i h e = omega (arith, update_same f a 0 e)

-- d at a, and 0 elsewhere
pub only : ℕ → ℕ → ℕ → ℕ
only a d = update (λ i. 0) a d

pub only_same : (a d : ℕ) {i : ℕ} → i ≡ a → only a d i ≡ d
unfolding only
only_same a d e = update_same (λ i. 0) a d e

pub only-other : (a d : ℕ) {i : ℕ} → i ≢ a → only a d i ≡ 0
unfolding only
only-other a d n = update_other (λ i. 0) a d n
