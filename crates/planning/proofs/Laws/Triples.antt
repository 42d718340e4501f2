-- Spans as lists of three numbers each: one after the other, and there and back.
-- Assumes nothing.
use Rattle.std.specs.Prelude.{◌≡◌, ◌⊎◌, Bool, ◌&&◌, ◌==◌, cond, List, [], ◌∷◌, ◌++◌, map, filter, ℕ, zero, suc, ◌+◌, ◌*◌, ◌/◌, ◌≤◌, ◌<◌, drop}
use Rattle.std.specs.List.{list_all, enumerate_from}
use Rattle.std.proofs.lemmas.Bool.Decides.{nat_tests}
use Rattle.planning.proofs.Laws.Finite.Decisions.{le-or-lt}
use Rattle.std.proofs.Math.Path.{refl}
use Rattle.std.proofs.Common.{inl, inr, ap, ◌∙◌, arith}
use Rattle.std.proofs.Math.Bool.{true, false}
use Rattle.std.proofs.Math.Dec.{ltb}
use Rattle.std.proofs.Math.ListN.{length, get_or}
use Rattle.std.proofs.lemmas.List.{length-map, get_or-drop, get_or-take}
use Rattle.std.specs.Simd.{first_chunks}
use Rattle.planning.specs.Bounds.{most_spans}
use Rattle.planning.specs.Numbers.{quiet_of, quiet_three, triples_of}
use Rattle.planning.specs.Quiet.{Span, Quiet, spans_of, clear, clear_of, fits}
use Rattle.planning.specs.Tables.{at}

-- ---- there and back

pub quiet_triples : (quiet : List Quiet) → quiet_of (triples_of quiet) ≡ quiet
unfolding quiet_of triples_of
quiet_triples [] = refl
quiet_triples (q ∷ quiet) = ap (λ (others : List Quiet). q ∷ others) (quiet_triples quiet)

pub length_triples : (quiet : List Quiet) → length (triples_of quiet) ≡ 3 * length quiet
unfolding triples_of
length_triples [] = refl
length_triples (q ∷ quiet) = omega (arith, length_triples quiet)

pub triples_append : (quiet more : List Quiet) → triples_of (quiet ++ more) ≡ triples_of quiet ++ triples_of more
unfolding triples_of
triples_append [] more = refl
triples_append (q ∷ quiet) more = ap (λ (others : List ℕ). q.engine ∷ q.span.from ∷ q.span.to ∷ others) (triples_append quiet more)

-- ---- one after the other

-- how many there are
pub quiet-count : (xs : List ℕ) → length (quiet_of xs) ≡ length xs / 3
unfolding quiet_of
quiet-count [] = refl
quiet-count (a ∷ []) = omega arith
quiet-count (a ∷ b ∷ []) = omega arith
quiet-count (a ∷ b ∷ c ∷ xs) = omega (arith, quiet-count xs)

-- the numbers of the k-th of n threes stand one behind the other
pub three_at : (xs : List ℕ) (n k j : ℕ) → k < n → j < 3 → at (get_or (first_chunks 3 n xs) k []) j ≡ at xs (3 * k + j)
three_at xs zero k j l h = absurd (omega arith)
three_at xs (suc n) zero j l h = get_or-take 3 xs j 0 h ∙ ap (λ (i : ℕ). at xs i) (omega arith)
three_at xs (suc n) (suc k) j l h =
    three_at (drop 3 xs) n k j (omega arith) h ∙ get_or-drop 3 xs (3 * k + j) 0 ∙ ap (λ (i : ℕ). at xs i) (omega arith)

-- three after three, as the code goes over them
pub quiet_threes : (xs : List ℕ) → quiet_of xs ≡ map quiet_three (first_chunks 3 (length xs / 3) xs)
unfolding quiet_of
quiet_threes [] = refl
quiet_threes (a ∷ []) = refl
quiet_threes (a ∷ b ∷ []) = refl
quiet_threes (a ∷ b ∷ c ∷ xs) =
    let more : length (a ∷ b ∷ c ∷ xs) / 3 ≡ suc (length xs / 3) = omega arith in
    rw more (ap (λ (others : List Quiet). quiet_three (a ∷ b ∷ c ∷ []) ∷ others) (quiet_threes xs))

-- ---- whether a span fits behind those of a list of threes

module _ (engine : ℕ) (s : Span) where
  -- the spans of the engine are those of its own threes
  abbrev own : List (List ℕ) → List (List ℕ)
  own threes = filter (λ three. at three 0 == engine) threes

  spans-threes : (threes : List (List ℕ)) → spans_of engine (map quiet_three threes) ≡ map (λ three. (quiet_three three).span) (own threes)
  unfolding spans_of
  spans-threes [] = refl
  spans-threes (three ∷ threes) =
      let this = (quiet_three three).span in
      let others = spans_of engine (map quiet_three threes) in
      elim (at three 0 == engine) as (λ (same : Bool).
      cond same (this ∷ others) others ≡ map (λ three. (quiet_three three).span) (cond same (three ∷ own threes) (own threes))) [
        | true ↦ ap (λ (spans : List Span). this ∷ spans) (spans-threes threes)
        | false ↦ spans-threes threes
      ]

  -- the k-th of them may be followed by another of the engine, and is clear of the span
  abbrev allows : ℕ × List ℕ → Bool
  allows (k, three) = ltb (k + 1) most_spans && clear s (quiet_three three).span

  counted : (k : ℕ) (threes : List (List ℕ)) → k < most_spans
      → list_all allows (enumerate_from k threes)
      ≡ (clear_of s (map (λ three. (quiet_three three).span) threes) && ltb (k + length threes) most_spans)
  unfolding clear_of
  counted k [] l = grind (arith, nat_tests)
  counted k (three ∷ threes) l = go (le-or-lt most_spans (k + 1)) (counted (k + 1) threes)
    where
      go : (most_spans ≤ k + 1) ⊎ (k + 1 < most_spans)
          → (k + 1 < most_spans
          → list_all allows (enumerate_from (k + 1) threes)
          ≡ (clear_of s (map (λ three. (quiet_three three).span) threes) && ltb (k + 1 + length threes) most_spans))
          → list_all allows (enumerate_from k (three ∷ threes))
          ≡ (clear_of s (map (λ three. (quiet_three three).span) (three ∷ threes)) && ltb (k + length (three ∷ threes)) most_spans)
      go (inl m) others = grind (arith, nat_tests)
      go (inr m) others = let same = others m in grind (arith, nat_tests)

  -- 11 by the threes
  pub fits_threes : (threes : List (List ℕ))
      → fits s (spans_of engine (map quiet_three threes)) ≡ (ltb s.from s.to && list_all allows (enumerate_from 0 (own threes)))
  unfolding fits
  fits_threes threes =
      rw (spans-threes threes, counted 0 (own threes) (omega arith), length-map (own threes) (λ three. (quiet_three three).span))
      (grind (arith, nat_tests))
