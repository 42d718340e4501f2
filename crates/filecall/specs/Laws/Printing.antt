-- The lines of a print one after the other, as loops put them, and by the names of the file. Assumes nothing.
use Rattle.std.specs.Prelude.{◌≡◌, length, take, drop, get_or, cond, nat_lt, count_by}
use Rattle.std.proofs.Math.Path.{refl, sym, ap, fun_ext}
use Rattle.std.proofs.Common.{ap₂, ◌∙◌, add-one, arith, drop_of_length-le, get_or-take, get_or-drop, drop_at}
use mathlib.Core.List.{List, [], ◌∷◌, ◌++◌}
use Prim.Native.Nat.{ℕ, zero, suc, ◌+◌, ◌*◌, ◌≤◌, ◌<◌}
use Rattle.std.proofs.Math.Nat.{zero-mul, suc-mul}
use Rattle.std.proofs.Math.Seq.{drop-cons, take_at}
use Rattle.std.proofs.lemmas.Bool.{lt-ltb}
use Rattle.std.proofs.lemmas.List.Sums.{sum_by-cons}
use Rattle.planning.proofs.Laws.Finite.Sums.{positives-front}
use Rattle.planning.specs.Sum.{sum, sgn, positives}
use Rattle.planning.specs.Modes.{Planned, answer_of, outcome_of, tries_of}
use Rattle.planning.specs.Tables.{piece_in, at, cell}
use Rattle.planning.specs.Search.{Result, found, none, stopped}
use Rattle.planfile.specs.FilePlan.{FilePlan, engine_names, delivery_names}
use Rattle.planfile.proofs.Laws.PieceLines.{engines-named}
use Rattle.planfile.specs.Numerals.{decimal}
use Rattle.planfile.specs.Print.{Line, line_of, piece_line, row_lines, piece_lines, lines_of, answer_line, answer_lines}
use Rattle.filecall.specs.Printing.{lines_behind, print_lines}

-- ---- a delivery's lines

-- those from engine i on
abbrev pub row_from : (delivery : List ℕ) → (engines : List (List ℕ)) → (row : List ℕ) → (i : ℕ) → List Line
row_from delivery engines row i = row_lines delivery (drop i engines) (at (drop i row))

module _ (delivery : List ℕ) (engines : List (List ℕ)) (row : List ℕ) (i : ℕ) where
  pub row-end : length engines ≤ i → row_from delivery engines row i ≡ []
  unfolding row_lines
  row-end past = rw (drop_of_length-le engines {i = i} past)

  module _ (inside : i < length engines) (cells : i < length row) where
    -- a piece above 0 has a line, 0 has none
    pub row-piece : 0 < at row i
        → row_from delivery engines row i ≡ (line_of delivery (get_or engines i []) (decimal (at row i)) ∷ []) ++ row_from delivery engines row (i + 1)
    unfolding row_lines
    row-piece above = rw (add-one, drop-cons engines i [] inside, drop-cons row i 0 cells) (go (at row i) above)
      where
        go : (piece : ℕ) → 0 < piece → piece_line delivery (get_or engines i []) piece ++ row_lines delivery (drop (suc i) engines) (at (drop (suc i) row))
            ≡ line_of delivery (get_or engines i []) (decimal piece) ∷ row_lines delivery (drop (suc i) engines) (at (drop (suc i) row))
        go zero l = absurd (omega arith)
        go (suc n) l = unfold piece_line in refl

    pub row-none : at row i ≡ 0 → row_from delivery engines row i ≡ row_from delivery engines row (i + 1)
    unfolding row_lines piece_line
    row-none e = rw (add-one, drop-cons engines i [] inside, drop-cons row i 0 cells, e)

-- the lines of a row go by the pieces that it has
row_same : (delivery : List ℕ) (engines : List (List ℕ)) (x y : ℕ → ℕ) → ((i : ℕ) → i < length engines → x i ≡ y i)
    → row_lines delivery engines x ≡ row_lines delivery engines y
unfolding row_lines
row_same delivery [] x y same = refl
row_same delivery (engine ∷ engines) x y same =
    ap₂ (λ n (lines : List Line). piece_line delivery engine n ++ lines) (same 0 (omega arith))
    (row_same delivery engines (λ i. x (suc i)) (λ i. y (suc i)) (λ i l. same (suc i) (omega arith)))

-- ---- all deliveries' lines

-- the first row of a table, and the others
table_split : (delivery : List ℕ) (deliveries engines : List (List ℕ)) (table : List ℕ) (n : ℕ) → length engines ≡ n
    → piece_lines (delivery ∷ deliveries) engines (piece_in n table)
    ≡ row_lines delivery engines (at (take n table)) ++ piece_lines deliveries engines (piece_in n (drop n table))
unfolding piece_lines
table_split delivery deliveries engines table n count =
    ap₂ (λ (row others : List Line). row ++ others) (row_same delivery engines (λ i. piece_in n table 0 i) (at (take n table)) first)
    (ap (piece_lines deliveries engines) (fun_ext (λ p. fun_ext (others p))))
  where
    first : (i : ℕ) → i < length engines → piece_in n table 0 i ≡ at (take n table) i
    first i l = unfold piece_in cell in ap (at table) (omega (arith, zero-mul n)) ∙ sym (get_or-take n table i 0 (omega arith))

    others : (p i : ℕ) → piece_in n table (suc p) i ≡ piece_in n (drop n table) p i
    others p i = unfold piece_in cell in ap (at table) (omega (arith, suc-mul p n)) ∙ sym (get_or-drop n table (p * n + i) 0)

-- so by deliveries and rows side by side, as long as a delivery is left
module _ (engines : List (List ℕ)) {names : List (List ℕ)} (pieces : List ℕ) where
  pub table-row : {name bytes : List ℕ} {others : List (List ℕ)} (row rest : List ℕ) → names ≡ name ∷ others → bytes ≡ name → pieces ≡ row ++ rest
      → length row ≡ length engines → piece_lines names engines (piece_in (length engines) pieces)
      ≡ row_lines bytes engines (at row) ++ piece_lines others engines (piece_in (length engines) rest)
  table-row {name} {others = others} row rest listed named split whole =
      let front = take_at row rest (length engines) whole in
      let back = drop_at row rest (length engines) whole in
      rw (listed, named, split) (rw (front, back) at (table_split name others engines (row ++ rest) (length engines) refl))

  pub table-end : names ≡ [] → piece_lines names engines (piece_in (length engines) pieces) ≡ []
  unfolding piece_lines
  table-end ended = rw ended

-- ---- prints

-- the lines of a plan's answer, by the names of the file and the pieces that are found
pub print-by-names : (f : FilePlan) (a : Planned) (pieces : List ℕ)
    → ((tries : ℕ) (table : List ℕ) → a.result ≡ found tries table → pieces ≡ table)
    → print_lines (answer_of a) (delivery_names f) (engine_names f) pieces ≡ answer_lines a.minutes a.result (lines_of f a.result)
unfolding answer_lines print_lines answer_of
print-by-names f a pieces same =
    ap (λ (lines : List Line). answer_line (outcome_of a.result) a.minutes (tries_of a.result) (length lines) ∷ lines) (go a.result refl)
  where
    go : (r : Result) → a.result ≡ r → lines_behind (outcome_of r) (delivery_names f) (engine_names f) pieces ≡ lines_of f r
    go (found tries table) e = unfold lines_of lines_behind outcome_of in rw (engines-named f, same tries table e)
    go (none tries) e = unfold lines_of lines_behind outcome_of in refl
    go (stopped tries) e = unfold lines_of lines_behind outcome_of in refl

-- ---- pieces

-- a piece is counted where it is above 0
sign-counted : (n : ℕ) → cond (nat_lt 0 n) 1 0 ≡ sgn n
unfolding sgn
sign-counted zero = refl
sign-counted (suc n) = rw (lt-ltb 0 (suc n) (omega arith))

pub positives-counted : (pieces : List ℕ) → count_by (λ n. nat_lt 0 n) pieces ≡ positives (length pieces) (at pieces)
unfolding positives sum
positives-counted [] = refl
positives-counted (n ∷ pieces) =
    sum_by-cons (λ n. cond (nat_lt 0 n) 1 0) n pieces ∙ ap₂ (λ (a b : ℕ). a + b) (sign-counted n) (positives-counted pieces)
    ∙ sym (positives-front (length pieces) (at (n ∷ pieces)))
