-- A span in turn takes its own minutes off its engine, and the others keep theirs (specs/Laws/Running).
use Rattle.std.proofs.Common.{◌≡◌, ap, ◌∙◌, sym, ℕ, ◌+◌, ◌-◌, ◌≤◌, ◌<◌, List, [], ◌∷◌, ◌++◌, length, take, set, get_or, add-one, arith}
use Rattle.std.proofs.lemmas.List.{get_or-take, length-take-le}
use Rattle.std.specs.Prelude.{suc}
use Rattle.planning.specs.Bounds.{most_engines, most_quiet}
use Rattle.planning.specs.ByValue.{no_span, quiet_at, quiet_in}
use Rattle.planning.specs.declared.QuietSpan.{QuietSpan}
use Rattle.planning.specs.declared.Spans.{Spans}
use Rattle.planning.specs.Quiet.{Quiet}
use Rattle.planning.specs.Tables.{at, listed}
use Rattle.planning.proofs.Laws.ByValue.{span-known, span_in_range}
use Rattle.planning.proofs.Laws.Numbers.{QuietKept, kept-listed}
use Rattle.planning.proofs.Laws.Quiet.{taken as taken_of}
use Rattle.planning.proofs.Laws.Tables.{listed-last}
use Rattle.allocation.specs.Running.{running_each}
use Rattle.allocation.specs.Laws.Running.{running_none, taken-most, running-next}
use Rattle.allocation.proofs.capacity.running.Goals as goal

-- a span of those that are counted, as the code goes over them
abbrev span_in : (quiet : Spans) (k : ℕ) → QuietSpan ℕ
span_in quiet k = get_or (take quiet.count quiet.spans) k no_span

module _ (quiet : Spans) (k : ℕ) (kept : QuietKept most_engines (quiet_in quiet)) (l : k < length (take quiet.count quiet.spans))
    (full : length quiet.spans ≡ most_quiet) (few : quiet.count ≤ most_quiet) where
  counted : k < quiet.count
  counted = omega (arith, length-take-le quiet.count quiet.spans)

  this : quiet_at quiet k ≡ record { engine = (span_in quiet k).engine; span = record { from = (span_in quiet k).from; to = (span_in quiet k).to } }
  unfolding quiet_at
  this = rw (get_or-take quiet.count quiet.spans k no_span counted)

  below : (span_in quiet k).from < (span_in quiet k).to
  below = (rw this at (span_in_range most_engines quiet kept k counted)).below

  module _ (engine : ℕ) (is : engine ≡ (span_in quiet k).engine) where
    from_one : 1 ≤ engine
    from_one = omega (arith, is, (rw this at (span-known most_engines quiet kept k counted)).least)

    inside : engine - 1 < most_engines
    inside = omega (arith, is, (rw this at (span-known most_engines quiet kept k counted)).most)

    stands : engine - 1 + 1 ≡ (quiet_at quiet k).engine
    stands = omega (arith, is, from_one, ap (λ (q : Quiet). q.engine) this)

  -- the spans passed with the one of this turn
  passed : QuietKept most_engines (listed k (λ j. quiet_at quiet j) ++ quiet_at quiet k ∷ [])
  unfolding quiet_in
  passed = rw listed-last at (kept-listed most_engines _ (λ j. quiet_at quiet j) kept (suc k) counted)

  module _ (engine : ℕ) (is : engine ≡ (span_in quiet k).engine) (T : ℕ) {out : List ℕ} (runs : out ≡ running_each (listed k (λ j. quiet_at quiet j)) T)
      {t : ℕ} (takes : t ≡ taken_of (record { from = (span_in quiet k).from; to = (span_in quiet k).to }) T) where
    same : t ≡ taken_of (quiet_at quiet k).span T
    same = takes ∙ sym (ap (λ (q : Quiet). taken_of q.span T) this)

    room : t ≤ at out (engine - 1)
    room = omega (arith, same, taken-most _ _ passed _ (stands engine is) T runs)

    next : set out (engine - 1) (at out (engine - 1) - t) ≡ running_each (listed (k + 1) (λ j. quiet_at quiet j)) T
    next = rw (same, add-one, listed-last) (running-next _ _ passed _ (stands engine is) T runs)

pub loop-span-init : goal.loop-span-init
unfolding listed
loop-span-init c = running_none _

pub overflow_sub-place : goal.overflow_sub-place
overflow_sub-place c =
    let r = c.requires in from_one c.args.quiet.now c.loop-span.span-index r.kept c.loop-span-test.true r.spans r.count _ c.from-place.ensures

pub taken-requires : goal.taken-requires
taken-requires c =
    let r = c.requires in below c.args.quiet.now c.loop-span.span-index r.kept c.loop-span-test.true r.spans r.count

pub bounds-out-place : goal.bounds-out-place
bounds-out-place c =
    let r = c.requires in inside c.args.quiet.now c.loop-span.span-index r.kept c.loop-span-test.true r.spans r.count _ c.from-place.ensures

pub overflow_sub-out : goal.overflow_sub-out
overflow_sub-out c =
    let r = c.requires in
    room c.args.quiet.now _ r.kept c.loop-span-test.true r.spans r.count _ c.from-place.ensures _ c.loop-span.invariant c.taken.ensures

pub bounds-out-place-in-loop-span : goal.bounds-out-place-in-loop-span
bounds-out-place-in-loop-span c =
    let r = c.requires in inside c.args.quiet.now c.loop-span.span-index r.kept c.loop-span-test.true r.spans r.count _ c.from-place.ensures

pub loop-span-preserved : goal.loop-span-preserved
loop-span-preserved c =
    let r = c.requires in
    next c.args.quiet.now _ r.kept c.loop-span-test.true r.spans r.count _ c.from-place.ensures _ c.loop-span.invariant c.taken.ensures

pub returns : goal.returns
unfolding quiet_in
returns c =
    c.loop-span.invariant
    ∙ ap (λ (n : ℕ). running_each (listed n (λ j. quiet_at c.args.quiet.now j)) c.args.minutes)
    (omega (arith, length-take-le c.args.quiet.now.count c.args.quiet.now.spans, c.requires))
