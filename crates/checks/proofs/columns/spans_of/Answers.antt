-- A turn stores a span more.
use Rattle.std.proofs.Common.{◌≡◌, ◌+◌, ◌*◌, ◌/◌, ◌<◌, ◌^◌, ◌∙◌, sym, List, ℕ, [], length, get_or, arith}
use Rattle.std.specs.Simd.{first_chunks}
use Rattle.planning.specs.Bounds.{most_quiet}
use Rattle.planning.specs.ByValue.{no_span}
use Rattle.planning.specs.Tables.{at}
use Rattle.planning.proofs.Laws.Front.{stored_none, stored-one-more, stored_new, over_alike}
use Rattle.planning.proofs.Laws.Triples.{three_at}
use Rattle.checks.specs.Columns.{Fits}
use Rattle.checks.specs.Laws.Columns.{span_of, length-spans, spans-by-value}
use Rattle.checks.proofs.columns.spans_of.Goals as goal

-- a number of the three at a place
module _ (xs : List ℕ) {threes : List (List ℕ)} (are : threes ≡ first_chunks 3 (length xs / 3) xs) (k : ℕ) (l : k < length xs / 3) (j : ℕ) (h : j < 3) where
  stands : at (get_or threes k []) j ≡ at xs (3 * k + j)
  stands = rw are (three_at xs (length xs / 3) k j l h)

  narrow : Fits (3 * most_quiet) 16 xs → at (get_or threes k []) j < 2 ^ 16
  narrow f = omega (arith, stands, f.1 (3 * k + j) (omega arith))

pub loop-k-init : goal.loop-k-init
loop-k-init c = stored_none _ _

pub overflow_cast-spans : goal.overflow_cast-spans
overflow_cast-spans c = omega (arith, narrow _ c.as_chunks.ensures.front c.loop-k.k (omega arith) 0 (omega arith) c.requires)

pub overflow_cast-spans-in-loop-k : goal.overflow_cast-spans-in-loop-k
overflow_cast-spans-in-loop-k c = omega (arith, narrow _ c.as_chunks.ensures.front c.loop-k.k (omega arith) 1 (omega arith) c.requires)

pub overflow_cast-spans-in-loop-k-2 : goal.overflow_cast-spans-in-loop-k-2
overflow_cast-spans-in-loop-k-2 c = omega (arith, narrow _ c.as_chunks.ensures.front c.loop-k.k (omega arith) 2 (omega arith) c.requires)

pub loop-k-preserved : goal.loop-k-preserved
loop-k-preserved c =
    let xs = c.args.quiet.now in
    let k = c.loop-k.k in
    let inside : k < length xs / 3 = omega (arith, c.as_chunks.ensures.front_len) in
    let number = λ (j : ℕ) (h : j < 3). stands xs c.as_chunks.ensures.front k inside j h in
    stored-one-more c.loop-k.invariant no_span _
    (rw (number 0 (omega arith), number 1 (omega arith), number 2 (omega arith)) (sym (span_of xs k inside)))
    (omega (arith, length-spans xs)) (omega (arith, c.requires))

pub returns : goal.returns
returns c =
    let xs = c.args.quiet.now in
    spans-by-value xs c.as_chunks.ensures.front_len
    (stored_new c.loop-k.invariant (omega (arith, length-spans xs, c.as_chunks.ensures.front_len)) ∙ over_alike no_span _ _)
