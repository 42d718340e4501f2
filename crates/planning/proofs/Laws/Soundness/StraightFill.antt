-- Step E's straight fill (document 000's Lemma 1): where the rests are no more than what remains, and each is at most (limit - 1) * m for an m that no
-- open engine is below, its table serves every delivery within its limit. It has at most as many pieces as open engines and deliveries left.
-- Assumes nothing.
use Rattle.std.specs.Prelude.{◌≡◌, refl, ◌⊎◌, length}
use Rattle.std.proofs.Math.Path.{ap}
use Rattle.std.proofs.Common.{◌∙◌, inl, inr, length-append, suc-mul, mul-le-mul_right, lt_of_mul-lt-mul_right}
use mathlib.Core.List.{List, [], ◌∷◌}
use Prim.Native.Nat.{ℕ, zero, suc, ◌+◌, ◌*◌, ◌-◌, ◌≤◌, ◌<◌, min}
use native.Mathlib.Omega.{arith}
use Rattle.planning.proofs.Laws.Finite.Decisions.{le-or-lt}
use Rattle.planning.proofs.Laws.Finite.Sums.{sum_ext, sgn-zero, sgn-pos, sgn-le-one, sgn_mono, positives_ext, positives-zero, sum-front}
use Rattle.planning.proofs.Laws.Finite.Lists.{total-cons, positives-cons, positives-append}
use Rattle.planning.proofs.Laws.Soundness.Table.{piece_of_row, piece-after-row}
use Rattle.planning.specs.Tables.{piece_in, at}
use Rattle.planning.specs.Search.{total, drawn, undrawn, straight_fill}
use Rattle.planning.specs.Sum.{sum, sgn, positives}

-- One row: what a delivery with rest r draws from the engines, and what then remains of them.

pub drawn-length : (r : ℕ) (cs : List ℕ) → length (drawn r cs) ≡ length cs
unfolding drawn
drawn-length r [] = refl
drawn-length r (c ∷ cs) = ap suc (drawn-length (r - c) cs)

pub undrawn-length : (r : ℕ) (cs : List ℕ) → length (undrawn r cs) ≡ length cs
unfolding undrawn
undrawn-length r [] = refl
undrawn-length r (c ∷ cs) = ap suc (undrawn-length (r - c) cs)

pub drawn-undrawn : (r : ℕ) (cs : List ℕ) (i : ℕ) → at (drawn r cs) i + at (undrawn r cs) i ≡ at cs i
unfolding drawn undrawn
drawn-undrawn r [] i = omega arith
drawn-undrawn r (c ∷ cs) zero = omega arith
drawn-undrawn r (c ∷ cs) (suc i) = drawn-undrawn (r - c) cs i

pub drawn-total : (r : ℕ) (cs : List ℕ) → r ≤ total cs → total (drawn r cs) ≡ r
unfolding drawn total sum
drawn-total r [] l = omega arith
drawn-total r (c ∷ cs) l =
    omega (arith, total-cons c cs, total-cons (min r c) (drawn (r - c) cs), drawn-total (r - c) cs (omega (arith, total-cons c cs)))

pub undrawn-total : (r : ℕ) (cs : List ℕ) → r ≤ total cs → total (undrawn r cs) + r ≡ total cs
unfolding undrawn total sum
undrawn-total r [] l = omega arith
undrawn-total r (c ∷ cs) l =
    omega (arith, total-cons c cs, total-cons (c - r) (undrawn (r - c) cs), undrawn-total (r - c) cs (omega (arith, total-cons c cs)))

-- A delivery with rest 0, that is one that is not left, draws nothing.
undrawn-nothing : (r : ℕ) (cs : List ℕ) (i : ℕ) → r ≡ 0 → at (undrawn r cs) i ≡ at cs i
unfolding undrawn
undrawn-nothing r [] i z = refl
undrawn-nothing r (c ∷ cs) zero z = omega arith
undrawn-nothing r (c ∷ cs) (suc i) z = undrawn-nothing (r - c) cs i (omega arith)

drawn-nothing : (r : ℕ) (cs : List ℕ) → r ≡ 0 → positives (length (drawn r cs)) (at (drawn r cs)) ≡ 0
drawn-nothing r cs z =
    positives-zero (length (drawn r cs)) (at (drawn r cs)) (λ i l. omega (arith, drawn-undrawn r cs i, undrawn-nothing r cs i z))

-- Each piece of a row finishes its engine, or else the delivery.

sgn_split : (r c : ℕ) → sgn (min r c) + sgn (c - r) + sgn (r - c) ≤ sgn c + sgn r
sgn_split r c = go (le-or-lt r c)
  where
    go : (r ≤ c) ⊎ (c < r) → sgn (min r c) + sgn (c - r) + sgn (r - c) ≤ sgn c + sgn r
    go (inl l) =
        omega (
          arith,
          sgn-zero (r - c) (omega arith),
          sgn_mono (min r c) r (λ (z : r ≡ 0). omega arith),
          sgn_mono (c - r) c (λ (z : c ≡ 0). omega arith),
        )
    go (inr l) =
        omega (
          arith,
          sgn-zero (c - r) (omega arith),
          sgn_mono (min r c) c (λ (z : c ≡ 0). omega arith),
          sgn_mono (r - c) r (λ (z : r ≡ 0). omega arith),
        )

row-pieces : (r : ℕ) (cs : List ℕ)
    → positives (length (drawn r cs)) (at (drawn r cs)) + positives (length (undrawn r cs)) (at (undrawn r cs)) ≤ positives (length cs) (at cs) + sgn r
unfolding drawn undrawn positives sum
row-pieces r [] = omega arith
row-pieces r (c ∷ cs) =
    omega (
      arith,
      row-pieces (r - c) cs,
      sgn_split r c,
      positives-cons c cs,
      positives-cons (min r c) (drawn (r - c) cs),
      positives-cons (c - r) (undrawn (r - c) cs),
    )

-- Where every open engine has at least m remaining, a row with n pieces covers n - 1 whole engines and a bit more. While filling, the first
-- open engine may have less: then the row covers n - 2 whole engines and a bit more.

-- every open engine has at least m remaining
abbrev pub AllAtLeast : ℕ → List ℕ → Type 0
AllAtLeast m cs = (i : ℕ) → 0 < at cs i → m ≤ at cs i

-- every open engine but the first has at least m remaining
abbrev pub OthersAtLeast : ℕ → List ℕ → Type 0
OthersAtLeast m [] = Unit {0}
OthersAtLeast m (c ∷ cs) = ((c ≡ 0) × OthersAtLeast m cs) ⊎ AllAtLeast m cs

pub all_others : (m : ℕ) (cs : List ℕ) → AllAtLeast m cs → OthersAtLeast m cs
all_others m [] h = tt
all_others m (c ∷ cs) h = inr (λ i. h (suc i))

undrawn-others : (m r : ℕ) (cs : List ℕ) → OthersAtLeast m cs → OthersAtLeast m (undrawn r cs)
unfolding undrawn
undrawn-others m r [] h = tt
undrawn-others m r (c ∷ cs) (inl h) = inl (omega (arith, h.0), undrawn-others m (r - c) cs h.1)
undrawn-others m r (c ∷ cs) (inr h) = go (le-or-lt c r) (undrawn-others m (r - c) cs (all_others m cs h))
  where
    go : (c ≤ r) ⊎ (r < c) → OthersAtLeast m (undrawn (r - c) cs) → ((c - r ≡ 0) × OthersAtLeast m (undrawn (r - c) cs)) ⊎ AllAtLeast m (undrawn (r - c) cs)
    go (inl l) t = inl (omega arith, t)
    go (inr l) t =
        inr (λ i (k : 0 < at (undrawn (r - c) cs) i). rw (undrawn-nothing (r - c) cs i (omega arith))
        (h i (omega (arith, undrawn-nothing (r - c) cs i (omega arith)))))

row_covers_all : (m r : ℕ) (cs : List ℕ) → 0 < m → AllAtLeast m cs → positives (length (drawn r cs)) (at (drawn r cs)) * m < r + m
unfolding drawn positives sum
row_covers_all m r [] k h = omega arith
row_covers_all m r (c ∷ cs) k h =
    rw (positives-cons (min r c) (drawn (r - c) cs))
    (go (le-or-lt (min r c) 0) (le-or-lt r c) (row_covers_all m (r - c) cs k (λ i. h (suc i))))
  where
    n : ℕ
    n = positives (length (drawn (r - c) cs)) (at (drawn (r - c) cs))

    go : (min r c ≤ 0) ⊎ (0 < min r c) → (r ≤ c) ⊎ (c < r) → n * m < r - c + m → (sgn (min r c) + n) * m < r + m
    go (inl z) o t = rw (sgn-zero (min r c) (omega arith)) (omega arith)
    go (inr z) (inl l) t =
        rw (sgn-pos (min r c) z) (omega (arith, ap (λ j. j * m) (drawn-nothing (r - c) cs (omega arith))))
    go (inr z) (inr l) t = rw (sgn-pos (min r c) z) (omega (arith, h 0 (omega arith)))

row_covers : (m r : ℕ) (cs : List ℕ) → 0 < m → OthersAtLeast m cs → positives (length (drawn r cs)) (at (drawn r cs)) * m < r + m + m
unfolding drawn positives sum
row_covers m r [] k h = omega arith
row_covers m r (c ∷ cs) k (inl h) =
    rw (positives-cons (min r c) (drawn (r - c) cs), sgn-zero (min r c) (omega (arith, h.0))) (omega (arith, row_covers m (r - c) cs k h.1))
row_covers m r (c ∷ cs) k (inr h) =
    rw (positives-cons (min r c) (drawn (r - c) cs))
    (omega (arith, row_covers_all m (r - c) cs k h, mul-le-mul_right m (sgn-le-one (min r c))))

-- a delivery with rest at most (limit - 1) * m has at most limit pieces
row-few : (m r limit : ℕ) (cs : List ℕ) → 0 < m → OthersAtLeast m cs → (0 < r → (1 ≤ limit) × (r ≤ (limit - 1) * m))
    → positives (length (drawn r cs)) (at (drawn r cs)) ≤ limit
row-few m r limit cs k h b = go (le-or-lt r 0)
  where
    n : ℕ
    n = positives (length (drawn r cs)) (at (drawn r cs))

    several : (1 ≤ limit) × (r ≤ (limit - 1) * m) → n < limit + 1
    several t =
        let e : limit - 1 + 1 ≡ limit = omega (arith, t.0) in
        lt_of_mul-lt-mul_right m (omega (arith, t.1, row_covers m r cs k h, ap (λ j. j * m) e))

    go : (r ≤ 0) ⊎ (0 < r) → n ≤ limit
    go (inl z) = omega (arith, drawn-nothing r cs (omega arith))
    go (inr s) = omega (arith, several (b s))

-- The whole table.

pub fill_length : (rs cs : List ℕ) → length (straight_fill rs cs) ≡ length rs * length cs
unfolding straight_fill
fill_length [] cs = omega arith
fill_length (r ∷ rs) cs =
    omega (
      arith,
      length-append (drawn r cs) (straight_fill rs (undrawn r cs)),
      drawn-length r cs,
      fill_length rs (undrawn r cs),
      ap (λ n. length rs * n) (undrawn-length r cs),
      suc-mul (length rs) (length cs),
    )

-- the pieces are at most as many as the open engines and the deliveries left
pub fill_pieces : (rs cs : List ℕ)
    → positives (length (straight_fill rs cs)) (at (straight_fill rs cs)) ≤ positives (length cs) (at cs) + positives (length rs) (at rs)
unfolding straight_fill positives sum
fill_pieces [] cs = omega arith
fill_pieces (r ∷ rs) cs =
    omega (
      arith,
      positives-append (drawn r cs) (straight_fill rs (undrawn r cs)),
      row-pieces r cs,
      fill_pieces rs (undrawn r cs),
      positives-cons r rs,
    )

-- The table's rows and columns, with the number of engines named: it is the same after each row.
module _ (engines : ℕ) where
  first_piece : (r : ℕ) (rs cs : List ℕ) → length cs ≡ engines → (i : ℕ) → i < engines
      → piece_in engines (straight_fill (r ∷ rs) cs) 0 i ≡ at (drawn r cs) i
  unfolding straight_fill
  first_piece r rs cs e i l = piece_of_row engines (drawn r cs) (straight_fill rs (undrawn r cs)) i (drawn-length r cs ∙ e) l

  later-piece : (r : ℕ) (rs cs : List ℕ) → length cs ≡ engines → (p i : ℕ)
      → piece_in engines (straight_fill (r ∷ rs) cs) (suc p) i ≡ piece_in engines (straight_fill rs (undrawn r cs)) p i
  unfolding straight_fill
  later-piece r rs cs e p i = piece-after-row engines (drawn r cs) (straight_fill rs (undrawn r cs)) p i (drawn-length r cs ∙ e)

  -- each delivery's pieces add up to its rest
  pub fill_whole : (rs cs : List ℕ) → length cs ≡ engines → total rs ≤ total cs → (p : ℕ) → p < length rs
      → sum engines (piece_in engines (straight_fill rs cs) p) ≡ at rs p
  unfolding total
  fill_whole [] cs e t p l = absurd (omega arith)
  fill_whole (r ∷ rs) cs e t zero l =
      sum_ext engines (piece_in engines (straight_fill (r ∷ rs) cs) 0) (at (drawn r cs)) (first_piece r rs cs e)
      ∙ ap (λ n. sum n (at (drawn r cs))) (omega (arith, drawn-length r cs))
      ∙ drawn-total r cs (omega (arith, total-cons r rs))
  fill_whole (r ∷ rs) cs e t (suc p) l =
      sum_ext engines (piece_in engines (straight_fill (r ∷ rs) cs) (suc p)) (piece_in engines (straight_fill rs (undrawn r cs)) p)
      (λ i s. later-piece r rs cs e p i)
      ∙ fill_whole rs (undrawn r cs) (undrawn-length r cs ∙ e)
      (omega (arith, total-cons r rs, undrawn-total r cs (omega (arith, total-cons r rs)))) p (omega arith)

  -- each engine's pieces add up to at most what remains of it
  pub fill_within : (rs cs : List ℕ) → length cs ≡ engines → (i : ℕ) → i < engines
      → sum (length rs) (λ p. piece_in engines (straight_fill rs cs) p i) ≤ at cs i
  unfolding sum
  fill_within [] cs e i l = omega arith
  fill_within (r ∷ rs) cs e i l =
      omega (
        arith,
        sum-front (length rs) (λ p. piece_in engines (straight_fill (r ∷ rs) cs) p i),
        first_piece r rs cs e i l,
        sum_ext (length rs) (λ p. piece_in engines (straight_fill (r ∷ rs) cs) (suc p) i) (λ p. piece_in engines (straight_fill rs (undrawn r cs)) p i)
            (λ p s. later-piece r rs cs e p i),
        fill_within rs (undrawn r cs) (undrawn-length r cs ∙ e) i l,
        drawn-undrawn r cs i,
      )

  -- a delivery with rest at most (limit - 1) * m has at most limit pieces
  pub fill_few : (m : ℕ) (limit : ℕ → ℕ) (rs cs : List ℕ) → length cs ≡ engines → 0 < m → OthersAtLeast m cs
      → ((p : ℕ) → p < length rs → 0 < at rs p → (1 ≤ limit p) × (at rs p ≤ (limit p - 1) * m)) → (p : ℕ) → p < length rs
      → positives engines (piece_in engines (straight_fill rs cs) p) ≤ limit p
  fill_few m limit [] cs e k h b p l = absurd (omega arith)
  fill_few m limit (r ∷ rs) cs e k h b zero l =
      rw (positives_ext engines (piece_in engines (straight_fill (r ∷ rs) cs) 0) (at (drawn r cs)) (first_piece r rs cs e), ← e, ← drawn-length r cs)
      (row-few m r (limit 0) cs k h (b 0 (omega arith)))
  fill_few m limit (r ∷ rs) cs e k h b (suc p) l =
      rw (positives_ext engines (piece_in engines (straight_fill (r ∷ rs) cs) (suc p)) (piece_in engines (straight_fill rs (undrawn r cs)) p)
      (λ i s. later-piece r rs cs e p i))
      (fill_few m (λ q. limit (suc q)) rs (undrawn r cs) (undrawn-length r cs ∙ e) k (undrawn-others m r cs h)
      (λ q (s : q < length rs). b (suc q) (omega arith)) p (omega arith))
