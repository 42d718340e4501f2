-- Lists made longer by one value, filled from the front. Assumes nothing.
use Rattle.std.specs.Prelude.{◌≡◌, List, [], ◌∷◌, ◌++◌, ℕ, suc, ◌+◌, ◌-◌, ◌≤◌, ◌<◌, length, take, drop, set, replicate}
use Rattle.std.proofs.Common.{sym, ap, ◌∙◌, arith, length-append, length-take}
use Rattle.std.proofs.lemmas.List.{set_at, drop-replicate}
use Rattle.std.proofs.Math.Seq.{append_snoc}
use Rattle.planning.proofs.Laws.Padded.{length-padded}
use Rattle.planning.specs.Tables.{padded}

-- a value stored behind the others
pub stored-behind : {A : Type 0} (filler : A) (m n : ℕ) (xs : List A) (v : A) → n ≡ length xs → n < m
    → set (xs ++ replicate (m - length xs) filler) n v ≡ (xs ++ v ∷ []) ++ replicate (m - length (xs ++ v ∷ [])) filler
stored-behind filler m n xs v count room =
    let more : m - length xs ≡ suc (m - (length xs + 1)) = omega arith in
    let less : m - length (xs ++ v ∷ []) ≡ m - (length xs + 1) = omega (arith, length-append xs (v ∷ [])) in
    rw (more, less)
    (set_at xs filler (replicate (m - (length xs + 1)) filler) v n (sym count) ∙ sym (append_snoc xs v (replicate (m - (length xs + 1)) filler)))

pub padded-set : (m n : ℕ) (xs : List ℕ) (v : ℕ) → n ≡ length xs → n < m → set (padded m xs) n v ≡ padded m (xs ++ v ∷ [])
unfolding padded
padded-set m n xs v count room = stored-behind 0 m n xs v count room

-- a text at the front of zeros
pub padded-front : (m : ℕ) (xs : List ℕ) → xs ++ drop {A = ℕ} (length xs) (replicate m 0) ≡ padded m xs
unfolding padded
padded-front m xs = ap (λ (zs : List ℕ). xs ++ zs) (drop-replicate (length xs) m 0)

-- how many of a list count is how long that front is
pub front-size : (m size : ℕ) (xs : List ℕ) → size ≤ m → xs ≡ padded m (take size xs) → length (take size xs) ≡ size
front-size m size xs l e = omega (arith, length-take size xs, length-padded m (take size xs), ap length e)
