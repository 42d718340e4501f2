-- A found print read back gives the pieces above 0 of its table: one line for each, in the table's order, under the names of its
-- delivery and engine and with its number.
-- Assumes nothing.
use Rattle.std.specs.Prelude.{◌≡◌, refl, ◌↔◌, ◌⊎◌, ℕ, zero, suc, ◌+◌, ◌-◌, ◌*◌, ◌<◌, length, get_or}
use Rattle.std.proofs.Common.{sym, ap, ◌∙◌, subst, subst₂, inl, inr, zero-add, arith, get_or-append-add}
use Rattle.std.proofs.Math.Logic.Iff
use mathlib.Core.List.Memᴰ
use mathlib.Core.List.{List, [], ◌∷◌, ◌++◌, nil≢cons, cons-eq-cons, Memᴰ}
use Rattle.std.proofs.Math.ListN.{get_or-append}
use Rattle.rfc4180.specs.Grammar.{File}
use Rattle.rfc4180.proofs.Laws.Files.{file_unique}
use Rattle.rfc4180.specs.Text.{ascii}
use Rattle.planning.proofs.Laws.Finite.Sums.{sgn-pos, sum-front, positives-front}
use Rattle.planning.specs.Modes.{Planned, outcome_of, tries_of}
use Rattle.planning.specs.Tables.{piece_in, at, cell}
use Rattle.planning.specs.Plan.{All}
use Rattle.planning.specs.Search.{found}
use Rattle.planning.specs.Sum.{sum, sgn, positives}
use Rattle.planfile.specs.FilePlan.{FilePlan, engine_names, delivery_names, name_at}
use Rattle.planfile.specs.Holding.{Unlike, Holds}
use Rattle.planfile.proofs.Laws.Decimals.{numeral_iff}
use Rattle.planfile.proofs.Laws.Print.{print-reads}
use Rattle.planfile.proofs.Laws.PieceLines.{engines-named, deliveries-named, piece-count, row_count, sum-behind, by_rows}
use Rattle.planfile.specs.Numerals.{Numeral, decimal}
use Rattle.planfile.specs.Print.{Line, word_of, piece_line, row_lines, piece_lines, lines_of, answer_lines, print_of, line_of}

-- ---- in order

-- fewer entries above 0 stand before one of them than in all
positives-before : (m i : ℕ) (f : ℕ → ℕ) → i < m → 0 < f i → positives i f < positives m f
unfolding positives sum
positives-before m i f l k =
    let whole : suc i + (m - suc i) ≡ m = omega arith in
    subst (λ n. positives i f < positives n f) whole (omega (arith, sum-behind (suc i) (m - suc i) (λ j. sgn (f j)), sgn-pos (f i) k))

-- what stands behind the lines of another list
behind : (first others : List Line) (k n : ℕ) → n ≡ length first + k → get_or (first ++ others) n [] ≡ get_or others k []
behind first others k n e = ap (λ m. get_or (first ++ others) m []) e ∙ get_or-append-add first others k []

-- a piece above 0 has the first line where its own begin
piece-first : (delivery engine : List ℕ) (n : ℕ) (others : List Line) → 0 < n
    → get_or (piece_line delivery engine n ++ others) 0 [] ≡ line_of delivery engine (decimal n)
unfolding piece_line
piece-first delivery engine zero others k = absurd (omega arith)
piece-first delivery engine (suc n) others k = refl

-- in its row the line of a piece stands behind one for each earlier piece above 0
row-place : (delivery : List ℕ) (es : List (List ℕ)) (x : ℕ → ℕ) (i : ℕ) → i < length es → 0 < x i
    → get_or (row_lines delivery es x) (positives i x) [] ≡ line_of delivery (name_at es i) (decimal (x i))
unfolding row_lines positives sum
row-place delivery [] x i l k = absurd (omega arith)
row-place delivery (e ∷ es) x zero l k = piece-first delivery e (x 0) (row_lines delivery es (λ i. x (suc i))) k
row-place delivery (e ∷ es) x (suc i) l k =
    behind (piece_line delivery e (x 0)) (row_lines delivery es (λ i. x (suc i))) (positives i (λ i. x (suc i))) _
    (omega (arith, positives-front i x, piece-count delivery e (x 0)))
    ∙ row-place delivery es (λ i. x (suc i)) i (omega arith) k

-- among all lines it stands behind those of the earlier rows too
lines-place : (ds es : List (List ℕ)) (x : ℕ → ℕ → ℕ) (p i : ℕ) → p < length ds → i < length es → 0 < x p i
    → get_or (piece_lines ds es x) (sum p (λ q. positives (length es) (x q)) + positives i (x p)) []
    ≡ line_of (name_at ds p) (name_at es i) (decimal (x p i))
unfolding piece_lines sum
lines-place [] es x p i l m k = absurd (omega arith)
lines-place (d ∷ ds) es x zero i l m k =
    ap (λ n. get_or (piece_lines (d ∷ ds) es x) n []) (zero-add (positives i (x 0)))
    ∙ get_or-append (row_lines d es (λ i. x 0 i)) (piece_lines ds es (λ p i. x (suc p) i)) [] (positives i (x 0))
    (omega (arith, row_count d es (λ i. x 0 i), positives-before (length es) i (x 0) m k))
    ∙ row-place d es (λ i. x 0 i) i m k
lines-place (d ∷ ds) es x (suc p) i l m k =
    behind (row_lines d es (λ i. x 0 i)) (piece_lines ds es (λ p i. x (suc p) i))
    (sum p (λ q. positives (length es) (x (suc q))) + positives i (x (suc p))) _
    (omega (arith, row_count d es (λ i. x 0 i), sum-front p (λ q. positives (length es) (x q))))
    ∙ lines-place ds es (λ p i. x (suc p) i) p i (omega arith) m k

-- behind line 1 the line of a piece above 0 has before it a line for each piece above 0 in an earlier cell of the table
pub found-place : (f : FilePlan) (tries : ℕ) (table : List ℕ) (p i : ℕ) → p < length f.deliveries → i < length f.engines
    → 0 < piece_in (length f.engines) table p i
    → get_or (lines_of f (found tries table)) (positives (cell (length f.engines) p i) (at table)) []
    ≡ line_of (name_at (delivery_names f) p) (name_at (engine_names f) i) (decimal (piece_in (length f.engines) table p i))
unfolding lines_of
found-place f tries table p i l m k =
    ap (λ n. get_or (lines_of f (found tries table)) n []) (sym earlier)
    ∙ lines-place (delivery_names f) (engine_names f) (λ p i. piece_in engines table p i) p i (rw (deliveries-named f) l) (rw (engines-named f) m) k
  where
    engines : ℕ
    engines = length f.engines

    earlier : sum p (λ q. positives (length (engine_names f)) (piece_in engines table q)) + positives i (piece_in engines table p)
        ≡ positives (cell engines p i) (at table)
    earlier =
        unfold positives piece_in cell in
        rw (engines-named f) (omega (arith, by_rows p engines table, sum-behind (p * engines) i (λ j. sgn (at table j))))

-- ---- by names

-- what is true of all members is true at every place
pub all-at : {A : Type 0} (P : A → Type 0) (xs : List A) (other : A) (i : ℕ) → All P xs → i < length xs → P (get_or xs i other)
all-at P [] other i h l = absurd (omega arith)
all-at P (x ∷ xs) other zero h l = h.0
all-at P (x ∷ xs) other (suc i) h l = all-at P xs other i h.1 (omega arith)

-- of names used once, each has one place
one_place : (names : List (List ℕ)) → Unlike names → (p q : ℕ) → p < length names → q < length names → name_at names p ≡ name_at names q → p ≡ q
one_place [] u p q l m e = absurd (omega arith)
one_place (name ∷ names) u zero zero l m e = refl
one_place (name ∷ names) u zero (suc q) l m e = absurd (all-at _ names [] q u.0 (omega arith) e)
one_place (name ∷ names) u (suc p) zero l m e = absurd (all-at _ names [] p u.0 (omega arith) (sym e))
one_place (name ∷ names) u (suc p) (suc q) l m e = ap suc (one_place names u.1 p q (omega arith) (omega arith) e)

-- the line of a piece above 0 in a row
record Drawn (line : Line) (delivery : List ℕ) (engines : List (List ℕ)) (x : ℕ → ℕ) : Type 0 where
  engine : ℕ
  inside : engine < length engines
  above : 0 < x engine
  same : line ≡ line_of delivery (name_at engines engine) (decimal (x engine))

-- a row has no other lines ..
row-drawn : {line : Line} (delivery : List ℕ) (es : List (List ℕ)) (x : ℕ → ℕ) → Memᴰ line (row_lines delivery es x)
    → Drawn line delivery es x
unfolding row_lines
row-drawn delivery [] x h = absurd (Memᴰ.not-nil h)
row-drawn {line} delivery (e ∷ es) x h = go (Memᴰ.append_cases (piece_line delivery e (x 0)) h) (row-drawn delivery es (λ i. x (suc i)))
  where
    piece : (n : ℕ) → x 0 ≡ n → Memᴰ line (piece_line delivery e n) → Drawn line delivery (e ∷ es) x
    piece zero z m = unfold piece_line in absurd (Memᴰ.not-nil m)
    piece (suc n) z m = unfold piece_line in
        record { engine = 0; inside = omega arith; above = omega arith; same = rw z (Memᴰ.eq_of_singleton m) }

    go : Memᴰ line (piece_line delivery e (x 0)) ⊎ Memᴰ line (row_lines delivery es (λ i. x (suc i)))
        → (Memᴰ line (row_lines delivery es (λ i. x (suc i))) → Drawn line delivery es (λ i. x (suc i)))
        → Drawn line delivery (e ∷ es) x
    go (inl m) r = piece (x 0) refl m
    go (inr m) r = let d = r m in record { engine = suc d.engine; inside = omega (arith, d.inside); above = d.above; same = d.same }

-- .. and all rows together have none
lines-drawn : {line : Line} (ds es : List (List ℕ)) (x : ℕ → ℕ → ℕ) → Memᴰ line (piece_lines ds es x)
    → (p : ℕ) × (p < length ds) × Drawn line (name_at ds p) es (x p)
unfolding piece_lines
lines-drawn [] es x h = absurd (Memᴰ.not-nil h)
lines-drawn {line} (d ∷ ds) es x h = go (Memᴰ.append_cases (row_lines d es (λ i. x 0 i)) h) (lines-drawn ds es (λ p i. x (suc p) i))
  where
    Somewhere : List (List ℕ) → (ℕ → ℕ → ℕ) → Type 0
    Somewhere ds x = (p : ℕ) × (p < length ds) × Drawn line (name_at ds p) es (x p)

    go : Memᴰ line (row_lines d es (λ i. x 0 i)) ⊎ Memᴰ line (piece_lines ds es (λ p i. x (suc p) i))
        → (Memᴰ line (piece_lines ds es (λ p i. x (suc p) i)) → Somewhere ds (λ p i. x (suc p) i)) → Somewhere (d ∷ ds) x
    go (inl m) r = (0, omega arith, row-drawn d es (λ i. x 0 i) m)
    go (inr m) r = let (p, l, drawn) = r m in (suc p, omega (arith, l), drawn)

-- what stands at a place of a list stands in it
stands_at : {a : List ℕ} {others : Line} (lines : List Line) (n : ℕ) → get_or lines n [] ≡ a ∷ others → Memᴰ (a ∷ others) lines
stands_at [] n e = absurd (nil≢cons e)
stands_at (line ∷ lines) zero e = Memᴰ.head (sym e)
stands_at (line ∷ lines) (suc n) e = Memᴰ.tail (stands_at lines n e)

-- a line with two names stands among those of the pieces where their piece is above 0 and the line has its number
lines-iff : (ds es : List (List ℕ)) (x : ℕ → ℕ → ℕ) → Unlike ds → Unlike es
    → (p i : ℕ) → p < length ds → i < length es → (text : List ℕ)
    → Memᴰ (line_of (name_at ds p) (name_at es i) text) (piece_lines ds es x) ↔ ((0 < x p i) × Numeral text (x p i))
lines-iff ds es x u v p i l m text = (
  λ h. only (lines-drawn ds es x h),
  λ h. rw ((numeral_iff text (x p i)).0 h.1) (stands_at _ _ (lines-place ds es x p i l m h.0)),
)
  where
    only : ((q : ℕ) × (q < length ds)
        × Drawn (line_of (name_at ds p) (name_at es i) text) (name_at ds q) es (x q))
        → (0 < x p i) × Numeral text (x p i)
    only (q, k, drawn) =
        let (word, (delivery, (engine, (number, end)))) = simp cons-eq-cons at drawn.same in
        let row : p ≡ q = one_place ds u p q l k delivery in
        let column : i ≡ drawn.engine = one_place es v i drawn.engine m drawn.inside engine in
        subst₂ (λ q j. (0 < x q j) × Numeral text (x q j)) (sym row) (sym column) (drawn.above, (numeral_iff text _).1 number)

-- line 1 is none of them
behind-first : (minutes tries : ℕ) (table delivery engine text : List ℕ) (lines : List Line)
    → Memᴰ (line_of delivery engine text) (answer_lines minutes (found tries table) lines) ↔ Memᴰ (line_of delivery engine text) lines
unfolding answer_lines outcome_of tries_of word_of ascii
behind-first minutes tries table delivery engine text lines = (λ h. go (Memᴰ.cases_cons h), λ h. Memᴰ.tail h)
  where
    go : (line_of delivery engine text ≡ ascii "found" ∷ decimal minutes ∷ decimal tries ∷ decimal (length lines) ∷ [])
        ⊎ Memᴰ (line_of delivery engine text) lines → Memᴰ (line_of delivery engine text) lines
    go (inl e) = let first = (cons-eq-cons.0 (cons-eq-cons.0 e).0).0 in absurd (omega arith)
    go (inr h) = h

-- The print of found, read by the grammar, has a line with the names of delivery p and engine i exactly where their piece is above 0, and
-- the numeral in it is the piece's.
pub found-read-back : {bytes : List ℕ} {f : FilePlan} → Holds bytes f → (a : Planned) {tries : ℕ} {table : List ℕ} → a.result ≡ found tries table
    → {lines : List Line} → File (print_of f a) lines → (p i : ℕ) → p < length f.deliveries → i < length f.engines → (text : List ℕ)
    → Memᴰ (line_of (name_at (delivery_names f) p) (name_at (engine_names f) i) text) lines
    ↔ ((0 < piece_in (length f.engines) table p i) × Numeral text (piece_in (length f.engines) table p i))
unfolding lines_of
found-read-back {f = f} h a {tries = tries} {table = table} finds file p i l m text =
    rw (file_unique file (print-reads f h.engines_named h.deliveries_named a), finds)
    (Iff.trans (behind-first a.minutes tries table _ _ text (lines_of f (found tries table)))
    (lines-iff (delivery_names f) (engine_names f) (λ p i. piece_in (length f.engines) table p i) h.deliveries_unlike h.engines_unlike p i
    (rw (deliveries-named f) l) (rw (engines-named f) m) text))
