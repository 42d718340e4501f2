-- Lists of numbers given place by place, alike but at one place, and document 01's states given by their lists.
-- Assumes nothing.
use Rattle.std.specs.Prelude.{◌≡◌, ◌≢◌, List, ◌∷◌, ℕ, zero, suc, ◌<◌, set}
use Rattle.std.proofs.Common.{ap₂, arith}
use Rattle.planning.proofs.Laws.Tables.{listed_same}
use Rattle.planning.specs.Search.{State as Document}
use Rattle.planning.specs.Tables.{listed}

-- alike but at one place
pub listed-set : (n : ℕ) (f g : ℕ → ℕ) (a v : ℕ) → a < n → ((i : ℕ) → i < n → i ≢ a → g i ≡ f i) → g a ≡ v → listed n g ≡ set (listed n f) a v
unfolding listed
listed-set zero f g a v l h e = absurd (omega arith)
listed-set (suc n) f g zero v l h e =
    ap₂ ◌∷◌ e (listed_same n (λ i. g (suc i)) (λ i. f (suc i)) (λ i (s : i < n). h (suc i) (omega arith) (omega arith)))
listed-set (suc n) f g (suc a) v l h e =
    ap₂ ◌∷◌ (h 0 (omega arith) (omega arith))
    (listed-set n (λ i. f (suc i)) (λ i. g (suc i)) a v (omega arith) (λ i (s : i < n) (d : i ≢ a). h (suc i) (omega arith) (omega arith)) e)

-- two of document 01's states with the same lists
pub same_document : (c b r q l k : List ℕ) → c ≡ b → r ≡ q → l ≡ k
    → ◌≡◌ {A = Document} (record { remaining = c; rest = r; limit = l }) (record { remaining = b; rest = q; limit = k })
same_document c b r q l k d e f = λ i. record { remaining = d i; rest = e i; limit = f i }
