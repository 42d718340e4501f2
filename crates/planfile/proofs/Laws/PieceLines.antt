-- The lines of pieces: what is true of each of them, and how many there are.
-- Assumes nothing.
use Rattle.std.specs.Prelude.{◌≡◌, refl, length}
use Rattle.std.proofs.Common.{sym, ap, ◌∙◌, add-zero, add-suc, zero-mul, suc-mul, arith, length-append}
use Prim.Native.Nat.{ℕ, zero, suc, ◌<◌, ◌+◌, ◌*◌}
use mathlib.Core.List.{List, [], ◌∷◌}
use Rattle.std.proofs.lemmas.List.{length-map}
use Rattle.planning.proofs.Laws.Finite.Sums.{sum-front, positives-front}
use Rattle.planning.specs.Tables.{piece_in, at, cell}
use Rattle.planning.specs.Plan.{All}
use Rattle.planning.specs.Search.{found}
use Rattle.planning.specs.Sum.{sum, sgn, positives}
use Rattle.planning.proofs.Laws.All.{all_append}
use Rattle.planfile.specs.FilePlan.{FilePlan, NamedEngine, NamedDelivery, engine_names, delivery_names}
use Rattle.planfile.specs.Numerals.{decimal}
use Rattle.planfile.specs.Print.{Line, line_of, piece_line, row_lines, piece_lines, lines_of}

-- a file names as many engines and deliveries as it has
pub engines-named : (f : FilePlan) → length (engine_names f) ≡ length f.engines
engines-named f = length-map f.engines (λ (e : NamedEngine). e.name)

pub deliveries-named : (f : FilePlan) → length (delivery_names f) ≡ length f.deliveries
deliveries-named f = length-map f.deliveries (λ (d : NamedDelivery). d.name)

-- ---- what is true of each line

-- what is true of the line of a piece above 0, where its names and its number are of some kind, is true of all lines of pieces
module _ (Named : List ℕ → Type 0) (Amount : ℕ → Type 0) (Good : Line → Type 0)
    (good : (delivery engine : List ℕ) (n : ℕ) → Named delivery → Named engine → Amount (suc n)
    → Good (line_of delivery engine (decimal (suc n)))) where
  -- of a piece's line, if it has one, of a row's lines ..
  piece_good : (delivery engine : List ℕ) (n : ℕ) → Named delivery → Named engine → Amount n → All Good (piece_line delivery engine n)
  unfolding piece_line
  piece_good delivery engine zero d e a = tt
  piece_good delivery engine (suc n) d e a = (good delivery engine n d e a, tt)

  row_good : (delivery : List ℕ) → Named delivery → (es : List (List ℕ)) → All Named es → (x : ℕ → ℕ)
      → ((i : ℕ) → i < length es → Amount (x i)) → All Good (row_lines delivery es x)
  unfolding row_lines
  row_good delivery d [] named x a = tt
  row_good delivery d (e ∷ es) named x a =
      (all_append Good (piece_line delivery e (x 0)) (row_lines delivery es (λ i. x (suc i)))).1 (
        piece_good delivery e (x 0) d named.0 (a 0 (omega arith)),
        row_good delivery d es named.1 (λ i. x (suc i)) (λ i l. a (suc i) (omega arith)),
      )

  -- .. and of all
  pub lines_good : (ds es : List (List ℕ)) → All Named ds
      → All Named es → (x : ℕ → ℕ → ℕ)
      → ((p i : ℕ) → p < length ds → i < length es → Amount (x p i)) → All Good (piece_lines ds es x)
  unfolding piece_lines
  lines_good [] es named engines x a = tt
  lines_good (d ∷ ds) es named engines x a =
      (all_append Good (row_lines d es (λ i. x 0 i)) (piece_lines ds es (λ p i. x (suc p) i))).1 (
        row_good d named.0 es engines (λ i. x 0 i) (λ i l. a 0 i (omega arith) l),
        lines_good ds es named.1 engines (λ p i. x (suc p) i) (λ p i k l. a (suc p) i (omega arith) l),
      )

-- ---- how many lines

-- a piece above 0 has a line, 0 has none
pub piece-count : (delivery engine : List ℕ) (n : ℕ) → length (piece_line delivery engine n) ≡ sgn n
unfolding piece_line sgn
piece-count delivery engine zero = refl
piece-count delivery engine (suc n) = refl

-- a row has a line for every piece above 0 ..
pub row_count : (delivery : List ℕ) (es : List (List ℕ)) (x : ℕ → ℕ) → length (row_lines delivery es x) ≡ positives (length es) x
unfolding row_lines positives sum
row_count delivery [] x = refl
row_count delivery (e ∷ es) x =
    omega (
      arith,
      length-append (piece_line delivery e (x 0)) (row_lines delivery es (λ i. x (suc i))),
      piece-count delivery e (x 0),
      row_count delivery es (λ i. x (suc i)),
      positives-front (length es) x,
    )

-- .. and so have all rows
pub lines-count : (ds es : List (List ℕ)) (x : ℕ → ℕ → ℕ)
    → length (piece_lines ds es x) ≡ sum (length ds) (λ p. positives (length es) (x p))
unfolding piece_lines sum
lines-count [] es x = refl
lines-count (d ∷ ds) es x =
    omega (
      arith,
      length-append (row_lines d es (λ i. x 0 i)) (piece_lines ds es (λ p i. x (suc p) i)),
      row_count d es (λ i. x 0 i),
      lines-count ds es (λ p i. x (suc p) i),
      sum-front (length ds) (λ p. positives (length es) (x p)),
    )

-- a sum in two parts
pub sum-behind : (m n : ℕ) (f : ℕ → ℕ) → sum (m + n) f ≡ sum m f + sum n (λ i. f (m + i))
unfolding sum
sum-behind m zero f = rw (add-zero m) (omega arith)
sum-behind m (suc n) f = rw (add-suc m n) (omega (arith, sum-behind m n f))

-- a table has as many pieces above 0 row by row as cell by cell
pub by_rows : (deliveries engines : ℕ) (table : List ℕ)
    → sum deliveries (λ p. positives engines (piece_in engines table p)) ≡ positives (deliveries * engines) (at table)
unfolding positives sum piece_in cell
by_rows zero engines table = rw (zero-mul engines)
by_rows (suc deliveries) engines table =
    rw (suc-mul deliveries engines)
    (omega (arith, by_rows deliveries engines table, sum-behind (deliveries * engines) engines (λ i. sgn (at table i))))

-- a table's lines are as many as its pieces above 0
pub table-lines : (deliveries engines : List (List ℕ)) (table : List ℕ) → length table ≡ length deliveries * length engines
    → length (piece_lines deliveries engines (piece_in (length engines) table)) ≡ positives (length table) (at table)
table-lines deliveries engines table e =
    lines-count deliveries engines (piece_in (length engines) table) ∙ by_rows (length deliveries) (length engines) table
    ∙ ap (λ k. positives k (at table)) (sym e)

-- so are those of a found print
pub found-lines : (f : FilePlan) (tries : ℕ) (table : List ℕ) → length table ≡ length f.deliveries * length f.engines
    → length (lines_of f (found tries table)) ≡ positives (length table) (at table)
unfolding lines_of
found-lines f tries table e =
    rw (engines-named f) at (table-lines (delivery_names f) (engine_names f) table (rw (deliveries-named f, engines-named f) e))
