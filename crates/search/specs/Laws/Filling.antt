-- What the code writes from the front of a list: straight fill's row engine by engine, and its table row by row.
-- Assumes nothing.
use Rattle.std.specs.Prelude.{◌≡◌, refl, length, drop, set}
use Rattle.std.proofs.Common.{ap, ◌∙◌, mul-le-mul_right, arith, length-append, drop_of_length-le, take_all, length-take-le, drop-set-lt, take-suc-set}
use mathlib.Core.List.{List, [], ◌∷◌, ◌++◌, append_assoc, append-nil}
use Prim.Native.Nat.{ℕ, zero, suc, ◌+◌, ◌-◌, ◌*◌, ◌≤◌, ◌<◌, min}
use Rattle.std.proofs.Math.Nat.{zero-mul, suc-mul}
use Rattle.std.proofs.Math.Numerals.{add-one}
use Rattle.std.proofs.Math.ListN.{take}
use Rattle.std.proofs.Math.Seq.{drop-cons, take_at}
use Rattle.planning.proofs.Laws.Soundness.StraightFill.{drawn-length, undrawn-length}
use Rattle.planning.specs.Tables.{listed, at}
use Rattle.planning.specs.Search.{drawn, undrawn, straight_fill}

-- ---- a row

-- the row once it is whole, of which i numbers are written, and what then remains of the engines
unfoldable pub row_whole : (row remaining : List ℕ) → (rest i : ℕ) → List ℕ
row_whole row remaining rest i = take i row ++ drawn rest (drop i remaining)

unfoldable pub remains_whole : (remaining : List ℕ) → (rest i : ℕ) → List ℕ
remains_whole remaining rest i = take i remaining ++ undrawn rest (drop i remaining)

-- one number more
write_one : (xs ys : List ℕ) (i v : ℕ) → i < length xs → take (suc i) (set xs i v) ++ ys ≡ take i xs ++ (v ∷ ys)
write_one xs ys i v l = rw (take-suc-set xs i v l, append_assoc (take i xs) (v ∷ []) ys)

module _ (remaining : List ℕ) (rest i : ℕ) where
  pub row-none : (row : List ℕ) → i ≡ 0 → row_whole row remaining rest i ≡ drawn rest remaining
  unfolding row_whole
  row-none row e = rw e

  pub remains-none : i ≡ 0 → remains_whole remaining rest i ≡ undrawn rest remaining
  unfolding remains_whole
  remains-none e = rw e

  -- the piece is what the engine has, at most the rest
  module _ (l : i < length remaining) (piece : ℕ) (e : piece ≡ min rest (at remaining i)) where
    fewer : rest - piece ≡ rest - at remaining i
    fewer = omega arith

    less : at remaining i - piece ≡ at remaining i - rest
    less = omega arith

    pub row_more : (row : List ℕ) → i < length row
        → row_whole (set row i piece) (set remaining i (at remaining i - piece)) (rest - piece) (i + 1) ≡ row_whole row remaining rest i
    unfolding row_whole drawn
    row_more row m =
        rw (
          fewer,
          less,
          add-one i,
          drop-set-lt (suc i) remaining i (at remaining i - rest) (omega arith),
          drop-cons remaining i 0 l,
          e,
        )
        (write_one row (drawn (rest - at remaining i) (drop (suc i) remaining)) i (min rest (at remaining i)) m)

    pub remains-more : remains_whole (set remaining i (at remaining i - piece)) (rest - piece) (i + 1) ≡ remains_whole remaining rest i
    unfolding remains_whole undrawn
    remains-more =
        rw (
          fewer,
          less,
          add-one i,
          drop-set-lt (suc i) remaining i (at remaining i - rest) (omega arith),
          drop-cons remaining i 0 l,
        )
        (write_one remaining (undrawn (rest - at remaining i) (drop (suc i) remaining)) i (at remaining i - rest) l)

  pub row-all : (row : List ℕ) → length row ≤ i → length remaining ≤ i → row_whole row remaining rest i ≡ row
  unfolding row_whole drawn
  row-all row l m = rw (drop_of_length-le remaining {i = i} m, append-nil (take i row)) (take_all i row l)

  pub remains-all : length remaining ≤ i → remains_whole remaining rest i ≡ remaining
  unfolding remains_whole undrawn
  remains-all m = rw (drop_of_length-le remaining {i = i} m, append-nil (take i remaining)) (take_all i remaining m)

-- ---- the table

-- the table once it is whole, of which p rows are written
unfoldable pub table_whole : (table rests remaining : List ℕ) → (engines p : ℕ) → List ℕ
table_whole table rests remaining engines p = take (p * engines) table ++ straight_fill (drop p rests) (take engines remaining)

-- the numbers of row p are in the table
pub row_fits : (p engines deliveries : ℕ) → p < deliveries → p * engines + engines ≤ deliveries * engines
row_fits p engines deliveries l = omega (arith, mul-le-mul_right engines l, suc-mul p engines)

module _ (table rests remaining : List ℕ) (engines p : ℕ) where
  pub table_none : p ≡ 0 → table_whole table rests remaining engines p ≡ straight_fill rests (take engines remaining)
  unfolding table_whole
  table_none e = rw (e, zero-mul engines)

  pub table_more : p < length rests → engines ≤ length remaining → p * engines + engines ≤ length table
      → (rest : ℕ) → rest ≡ at rests p → (table' remaining' : List ℕ)
      → table' ≡ take (p * engines) table ++ (drawn rest (take engines remaining) ++ drop (p * engines + engines) table)
      → remaining' ≡ undrawn rest (take engines remaining) ++ drop engines remaining
      → table_whole table' rests remaining' engines (p + 1) ≡ table_whole table rests remaining engines p
  unfolding table_whole straight_fill
  table_more l m n rest e table' remaining' et er =
      rw (
        et,
        er,
        e,
        add-one p,
        suc-mul p engines,
        drop-cons rests p 0 l,
        ← append_assoc above row below,
        take_at (above ++ row) below (p * engines + engines) row-end,
        take_at left (drop engines remaining) engines left-length,
      )
      (append_assoc above row (straight_fill (drop (suc p) rests) left))
    where
      above : List ℕ
      above = take (p * engines) table

      row : List ℕ
      row = drawn (at rests p) (take engines remaining)

      below : List ℕ
      below = drop (p * engines + engines) table

      left : List ℕ
      left = undrawn (at rests p) (take engines remaining)

      row-end : length (above ++ row) ≡ p * engines + engines
      row-end =
          omega (
            arith,
            length-append above row,
            length-take-le (p * engines) table (omega arith),
            drawn-length (at rests p) (take engines remaining),
            length-take-le engines remaining m,
          )

      left-length : length left ≡ engines
      left-length = undrawn-length (at rests p) (take engines remaining) ∙ length-take-le engines remaining m

  pub table-all : length table ≡ p * engines → length rests ≡ p → table_whole table rests remaining engines p ≡ table
  unfolding table_whole straight_fill
  table-all e f =
      rw (drop_of_length-le rests {i = p} (omega arith), append-nil (take (p * engines) table)) (take_all (p * engines) table (omega arith))

-- the first of listed numbers
pub take-listed : (m n : ℕ) (f : ℕ → ℕ) → m ≤ n → take m (listed n f) ≡ listed m f
unfolding listed
take-listed zero n f l = refl
take-listed (suc m) zero f l = absurd (omega arith)
take-listed (suc m) (suc n) f l = ap (λ xs. f 0 ∷ xs) (take-listed m n (λ i. f (suc i)) (omega arith))
