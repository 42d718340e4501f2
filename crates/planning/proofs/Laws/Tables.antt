-- Lists given place by place: their lengths and entries, and what holds of each entry.
-- Assumes nothing.
use Rattle.std.specs.Prelude.{◌≡◌, refl, ℕ, zero, suc, ◌≤◌, ◌<◌, length, take, get_or, replicate}
use Rattle.std.proofs.Common.{ap, ap₂, arith}
use mathlib.Core.List.{List, [], ◌∷◌, ◌++◌, map, zip_with}
use Rattle.std.proofs.Math.Nat.{suc_inj}
use Rattle.planning.specs.Plan.{All}
use Rattle.planning.specs.Tables.{at, listed}

-- the list f 0, .., f (n - 1) has n items, and f k at place k
pub length-listed : {A : Type 0} (n : ℕ) (f : ℕ → A) → length (listed n f) ≡ n
unfolding listed
length-listed zero f = refl
length-listed (suc n) f = ap suc (length-listed n (λ k. f (suc k)))

pub listed_at : {A : Type 0} (n k : ℕ) (f : ℕ → A) (other : A) → k < n → get_or (listed n f) k other ≡ f k
unfolding listed
listed_at zero k f other l = absurd (omega arith)
listed_at (suc n) zero f other l = refl
listed_at (suc n) (suc k) f other l = listed_at n k (λ j. f (suc j)) other (omega arith)

pub at_listed : (n : ℕ) (f : ℕ → ℕ) (i : ℕ) → i < n → at (listed n f) i ≡ f i
at_listed n f i l = listed_at n i f 0 l

-- place by place the same
pub listed_same : {A : Type 0} (n : ℕ) (f g : ℕ → A) → ((k : ℕ) → k < n → f k ≡ g k) → listed n f ≡ listed n g
unfolding listed
listed_same zero f g e = refl
listed_same (suc n) f g e = ap₂ ◌∷◌ (e 0 (omega arith)) (listed_same n (λ k. f (suc k)) (λ k. g (suc k)) (λ k l. e (suc k) (omega arith)))

-- one item more, behind the others
pub listed-last : {A : Type 0} (n : ℕ) (f : ℕ → A) → listed (suc n) f ≡ listed n f ++ f n ∷ []
unfolding listed
listed-last zero f = refl
listed-last (suc n) f = ap (λ (items : List _). f 0 ∷ items) (listed-last n (λ k. f (suc k)))

-- each item changed
pub map-listed : {A B : Type 0} (h : A → B) (n : ℕ) (f : ℕ → A) → map h (listed n f) ≡ listed n (λ k. h (f k))
unfolding listed
map-listed h zero f = refl
map-listed h (suc n) f = ap (λ (items : List _). h (f 0) ∷ items) (map-listed h n (λ k. f (suc k)))

-- what holds of every item holds of each
pub listed-each : {A : Type 0} (P : A → Type 0) (n : ℕ) (f : ℕ → A) → All P (listed n f) → (k : ℕ) → k < n → P (f k)
unfolding listed
listed-each P zero f h k l = absurd (omega arith)
listed-each P (suc n) f h zero l = h.0
listed-each P (suc n) f h (suc k) l = listed-each P n (λ j. f (suc j)) h.1 k (omega arith)

pub listed-all : {A : Type 0} (P : A → Type 0) (n : ℕ) (f : ℕ → A) → ((k : ℕ) → k < n → P (f k)) → All P (listed n f)
unfolding listed
listed-all P zero f h = tt
listed-all P (suc n) f h = (h 0 (omega arith), listed-all P n (λ j. f (suc j)) (λ k l. h (suc k) (omega arith)))

-- the front of a list, and two lists paired, place by place
pub listed-take : (n : ℕ) (xs : List ℕ) → n ≤ length xs → listed n (λ k. at xs k) ≡ take n xs
unfolding listed
listed-take zero xs l = refl
listed-take (suc n) [] l = absurd (omega arith)
listed-take (suc n) (x ∷ xs) l = ap (λ (ys : List ℕ). x ∷ ys) (listed-take n xs (omega arith))

pub listed-pairs : {A : Type 0} (pair : ℕ → ℕ → A) (xs ys : List ℕ) → length xs ≡ length ys
    → listed (length xs) (λ k. pair (at xs k) (at ys k)) ≡ zip_with pair xs ys
unfolding listed zip_with
listed-pairs pair [] ys e = refl
listed-pairs pair (x ∷ xs) [] e = absurd (omega arith)
listed-pairs pair (x ∷ xs) (y ∷ ys) e = ap (λ (items : List _). pair x y ∷ items) (listed-pairs pair xs ys (suc_inj e))

-- a list of zeros
pub at-zeros : (n k : ℕ) → at (replicate n 0) k ≡ 0
at-zeros zero k = refl
at-zeros (suc n) zero = refl
at-zeros (suc n) (suc k) = at-zeros n k
