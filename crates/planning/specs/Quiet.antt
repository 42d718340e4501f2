-- Quiet hours (document 02, K1): spans of minutes in which an engine stands still, and how many minutes it runs.
-- Assumes nothing.
use Rattle.std.specs.Prelude.{ℕ, Bool, true, cond, not, ◌&&◌, ◌||◌, List, [], ◌∷◌, length, leb, ltb, eqb}
use Rattle.planning.specs.Bounds.{most_spans}
use Rattle.planning.specs.Sum.{sum}

-- "minutes from the plan's start, FROM included and TO excluded"
pub record Span : Type 0 where
  pub from : ℕ
  pub to : ℕ

-- whether a minute lies in a span
unfoldable pub lies : (m : ℕ) → Span → Bool
lies m s = leb s.from m && ltb m s.to

-- whether it lies in none of an engine's spans
unfoldable pub runs : List Span → (m : ℕ) → Bool
runs [] m = true
runs (s ∷ spans) m = not (lies m s) && runs spans m

-- "only the minutes before T outside the engine's spans": how many of the minutes 0 to T - 1 lie in none of them
unfoldable pub running : List Span → (T : ℕ) → ℕ
running spans T = sum T (λ m. cond (runs spans m) 1 0)

-- ---- the spans of several engines

-- "quiet,ENGINE,FROM,TO": a span and the number of its engine, "engine counted from 1"
pub record Quiet : Type 0 where
  pub engine : ℕ
  pub span : Span

-- those of the engine with that number, in order
unfoldable pub spans_of : (n : ℕ) → List Quiet → List Span
spans_of n [] = []
spans_of n (q ∷ quiet) = cond (eqb q.engine n) (q.span ∷ spans_of n quiet) (spans_of n quiet)

-- ---- 11, as a test

-- whether one of two spans ends before the other begins: "Touching spans are fine."
unfoldable pub clear : Span → Span → Bool
clear s t = leb s.to t.from || leb t.to s.from

unfoldable pub clear_of : Span → List Span → Bool
clear_of s [] = true
clear_of s (t ∷ spans) = clear s t && clear_of s spans

-- whether a span may stand behind an engine's earlier ones. "11 ..: FROM is not below TO, the span overlaps an earlier one of that engine, or
-- it is the ninth."
unfoldable pub fits : Span → (earlier : List Span) → Bool
fits s earlier = ltb s.from s.to && clear_of s earlier && ltb (length earlier) most_spans
