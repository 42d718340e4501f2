-- Piece tables as lists: a row for each delivery, a number for each engine in it. Which cells differ, and the pieces of a table with one cell
-- set, of a table of zeros, and of a row put before a table.
-- Assumes nothing.
use Rattle.std.specs.Prelude.{◌≡◌, refl, ◌⊎◌, List, ◌++◌, ℕ, zero, suc, ◌+◌, ◌*◌, ◌≤◌, ◌<◌, length, set, replicate}
use Rattle.std.proofs.Common.{ap, ◌∙◌, inl, inr, get_or-set_same, get_or-set_other, get_or-append-add, mul-le-mul_right, suc-mul, arith}
use Rattle.std.proofs.Math.ListN.{get_or-append}
use Rattle.planning.proofs.Laws.Finite.Decisions.{le-or-lt}
use Rattle.planning.specs.Tables.{piece_in, at, cell}

-- the row of an earlier delivery ends before that of a later one begins
row_before : (engines p q : ℕ) → p < q → p * engines + engines ≤ q * engines
row_before engines p q l = omega (arith, mul-le-mul_right engines l, suc-mul p engines)

-- no two deliveries and engines have the same cell
pub cell-delivery : (engines p i q k : ℕ) → i < engines → k < engines → cell engines p i ≡ cell engines q k → p ≡ q
unfolding cell
cell-delivery engines p i q k l m e = go (le-or-lt p q) (le-or-lt q p)
  where
    go : (p ≤ q) ⊎ (q < p) → (q ≤ p) ⊎ (p < q) → p ≡ q
    go (inl a) (inl b) = omega arith
    go (inl a) (inr b) = absurd (omega (arith, row_before engines p q b))
    go (inr a) b = absurd (omega (arith, row_before engines q p a))

pub cell-engine : (engines p i q k : ℕ) → i < engines → k < engines → cell engines p i ≡ cell engines q k → i ≡ k
unfolding cell
cell-engine engines p i q k l m e = omega (arith, ap (λ r. r * engines) (cell-delivery engines p i q k l m e))

pub cell-inside : (engines deliveries p i : ℕ) → p < deliveries → i < engines → cell engines p i < deliveries * engines
unfolding cell
cell-inside engines deliveries p i l m = omega (arith, row_before engines p deliveries l)

pub piece-set-same : (engines : ℕ) (table : List ℕ) (p i v : ℕ) → cell engines p i < length table
    → piece_in engines (set table (cell engines p i) v) p i ≡ v
unfolding piece_in
piece-set-same engines table p i v l = get_or-set_same table (cell engines p i) v 0 l

pub piece-set-other : (engines : ℕ) (table : List ℕ) (p i v q k : ℕ) → i < engines → k < engines → (q ≡ p → k ≡ i → ⊥)
    → piece_in engines (set table (cell engines p i) v) q k ≡ piece_in engines table q k
unfolding piece_in
piece-set-other engines table p i v q k l m n =
    get_or-set_other table (cell engines p i) (cell engines q k) v 0
    (λ e. n (cell-delivery engines q k p i m l e) (cell-engine engines q k p i m l e))

pub entry_of_zeros : (n i : ℕ) → at (replicate n 0) i ≡ 0
entry_of_zeros zero i = refl
entry_of_zeros (suc n) zero = refl
entry_of_zeros (suc n) (suc i) = entry_of_zeros n i

pub piece_of_zeros : (engines n p i : ℕ) → piece_in engines (replicate n 0) p i ≡ 0
unfolding piece_in
piece_of_zeros engines n p i = entry_of_zeros n (cell engines p i)

-- a row put before a table is the row of delivery 0
pub piece_of_row : (engines : ℕ) (row table : List ℕ) (i : ℕ) → length row ≡ engines → i < engines
    → piece_in engines (row ++ table) 0 i ≡ at row i
unfolding piece_in cell
piece_of_row engines row table i e l = ap (at (row ++ table)) (omega arith) ∙ get_or-append row table 0 i (omega arith)

-- and the table's rows are those of the deliveries after it
pub piece-after-row : (engines : ℕ) (row table : List ℕ) (p i : ℕ) → length row ≡ engines
    → piece_in engines (row ++ table) (suc p) i ≡ piece_in engines table p i
unfolding piece_in cell
piece-after-row engines row table p i e =
    ap (at (row ++ table)) (omega (arith, suc-mul p engines)) ∙ get_or-append-add row table (p * engines + i) 0
