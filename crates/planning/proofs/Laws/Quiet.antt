-- Quiet hours: what the tests of spans mean, how many minutes run, and the spans of one engine among those of several.
-- Assumes nothing.
use Rattle.std.specs.Prelude.{◌≡◌, ◌↔◌, ◌≢◌, ◌⊎◌, Bool, not, ◌&&◌, ◌||◌, leb, ltb, eqb}
use Rattle.std.proofs.Math.Path.{refl, ap}
use Rattle.std.proofs.Common.{sym, ◌∙◌, inl, inr, length-append, suc-mul}
use Rattle.std.proofs.Math.Bool.{true, false, cond, and-eq-true_iff, and-false}
use Rattle.std.proofs.lemmas.Bool.{false≢true}
use mathlib.Core.List.{List, [], ◌∷◌, ◌++◌}
use Prim.Native.Nat.{ℕ, zero, suc, ◌+◌, ◌*◌, ◌-◌, ◌≤◌, ◌<◌, min}
use Rattle.std.proofs.Math.ListN.{length}
use native.Mathlib.Omega.{arith}
use borrow.Author.Tests.{ltb-true, lt-ltb, le-ltb, leb-true, le-leb, lt-leb, eq-eqb, ne_eqb}
use Rattle.planning.specs.Bounds.{most_spans, most_minutes}
use Rattle.planning.proofs.Laws.All.{all_more}
use Rattle.planning.proofs.Laws.Finite.Decisions.{le-or-lt, equal_or_not}
use Rattle.planning.proofs.Laws.Finite.Sums.{sum_ext, sum-zero, sum_one}
use Rattle.planning.specs.Plan.{All, Within, SpanInRange, Apart, AllApart, QuietInRange}
use Rattle.planning.specs.Quiet.{Span, lies, runs, running, Quiet, spans_of, clear, clear_of, fits}
use Rattle.planning.specs.Sum.{sum}

-- ---- minutes in spans

module _ (m : ℕ) (s : Span) where
  pub lies-inside : s.from ≤ m → m < s.to → lies m s ≡ true
  unfolding lies
  lies-inside l h = rw (le-leb s.from m l, lt-ltb m s.to h)

  pub lies-before : m < s.from → lies m s ≡ false
  unfolding lies
  lies-before l = rw (lt-leb s.from m l)

  pub lies-behind : s.to ≤ m → lies m s ≡ false
  unfolding lies
  lies-behind l = rw (le-ltb m s.to l) (and-false (leb s.from m))

  pub lies-iff : (lies m s ≡ true) ↔ ((s.from ≤ m) × (m < s.to))
  unfolding lies
  lies-iff = (
    λ e. let both = (and-eq-true_iff (leb s.from m) (ltb m s.to)).0 e in (leb-true s.from m both.0, ltb-true m s.to both.1),
    λ (l, h). lies-inside l h,
  )

-- ---- running minutes

-- an engine without spans runs in every minute
pub running_always : (T : ℕ) → running [] T ≡ T
unfolding running runs sum
running_always zero = refl
running_always (suc T) = omega (arith, running_always T)

-- a minute more takes no running minute away
pub running_mono : (spans : List Span) (T T' : ℕ) → T ≤ T' → running spans T ≤ running spans T'
unfolding running sum
running_mono spans T zero l = let none : T ≡ 0 = omega arith in rw none (omega arith)
running_mono spans T (suc T') l = go (le-or-lt T T') (λ (h : T ≤ T'). running_mono spans T T' h)
  where
    go : (T ≤ T') ⊎ (T' < T) → (T ≤ T' → running spans T ≤ running spans T') → running spans T ≤ running spans (suc T')
    go (inl h) before = unfold running sum in omega (arith, before h)
    go (inr h) before = let same : T ≡ suc T' = omega arith in rw same (omega arith)

-- where every minute lies in some span, none runs
pub running_never : (spans : List Span) (T : ℕ) → ((m : ℕ) → m < T → runs spans m ≡ false) → running spans T ≡ 0
unfolding running
running_never spans T quiet = sum-zero T _ (λ m l. rw (quiet m l))

-- ---- the minutes that a span takes

-- those of the minutes before T that lie in it, in closed form
unfoldable pub taken : Span → (T : ℕ) → ℕ
taken s T = min s.to T - min s.from T

-- of the span's minute T, where there is one more
taken_next : (s : Span) (T : ℕ) → s.from < s.to → taken s (suc T) ≡ taken s T + cond (lies T s) 1 0
unfolding taken
taken_next s T below = go (le-or-lt s.from T) (le-or-lt s.to T)
  where
    go : (s.from ≤ T) ⊎ (T < s.from) → (s.to ≤ T) ⊎ (T < s.to) → min s.to (suc T) - min s.from (suc T) ≡ min s.to T - min s.from T + cond (lies T s) 1 0
    go (inl h) (inl k) = rw (lies-behind T s k) (omega arith)
    go (inl h) (inr k) = rw (lies-inside T s h k) (omega arith)
    go (inr h) k = rw (lies-before T s h) (omega arith)

-- spans that a span does not overlap
abbrev ApartFrom : List Span → Span → Type 0
ApartFrom spans s = All (Apart s) spans

-- a minute of such a span lies in none of them
runs_in : (spans : List Span) (s : Span) (m : ℕ) → ApartFrom spans s → lies m s ≡ true → runs spans m ≡ true
unfolding runs
runs_in [] s m apart e = refl
runs_in (t ∷ spans) s m apart e = rw (no_lie (lies m t) (apart.0 m e), runs_in spans s m apart.1 e)
  where
    no_lie : (b : Bool) → (b ≡ true → ⊥) → b ≡ false
    no_lie true n = absurd (n refl)
    no_lie false n = refl

-- one span more, in front or behind the others: it takes its own minutes, and no others
runs-more : (spans : List Span) (s : Span) (m : ℕ) → runs (spans ++ s ∷ []) m ≡ runs (s ∷ spans) m
unfolding runs
runs-more [] s m = refl
runs-more (t ∷ spans) s m = rw (runs-more spans s m) (swap (lies m t) (lies m s) (runs spans m))
  where
    swap : (a b c : Bool) → (not a && (not b && c)) ≡ (not b && (not a && c))
    swap true true c = refl
    swap true false c = refl
    swap false true c = refl
    swap false false c = refl

module _ (spans : List Span) (s : Span) (below : s.from < s.to) (apart : ApartFrom spans s) where
  runs_with : (m : ℕ) → cond (runs (s ∷ spans) m) 1 0 + cond (lies m s) 1 0 ≡ cond (runs spans m) 1 0
  unfolding runs
  runs_with m = go (lies m s) refl
    where
      go : (b : Bool) → lies m s ≡ b → cond (not b && runs spans m) 1 0 + cond b 1 0 ≡ cond (runs spans m) 1 0
      go true e = rw (runs_in spans s m apart e)
      go false e = omega arith

  pub running_with : (T : ℕ) → running (s ∷ spans) T + taken s T ≡ running spans T
  unfolding running sum
  running_with zero = unfold taken in omega arith
  running_with (suc T) = omega (arith, running_with T, taken_next s T below, runs_with T)

  pub running_more : (T : ℕ) → running (spans ++ s ∷ []) T + taken s T ≡ running spans T
  unfolding running
  running_more T = rw (sum_ext T _ _ (λ m l. ap (λ (b : Bool). cond b 1 0) (runs-more spans s m))) (unfold running in running_with T)

-- The closed sum: where no two spans overlap, the minutes before T are those that run and those that each span takes.
unfoldable pub taken_by : List Span → (T : ℕ) → ℕ
taken_by [] T = 0
taken_by (s ∷ spans) T = taken s T + taken_by spans T

pub running-closed : (spans : List Span) (T : ℕ) → All SpanInRange spans → AllApart spans → running spans T + taken_by spans T ≡ T
unfolding taken_by
running-closed [] T ranges apart = omega (arith, running_always T)
running-closed (s ∷ spans) T ranges apart =
    omega (arith, running_with spans s ranges.0.below apart.0 T, running-closed spans T ranges.1 apart.1)

-- ---- the tests

apart_sym : (s t : Span) → Apart s t → Apart t s
apart_sym s t apart m p q = apart m q p

-- of two spans that are not empty, one ends before the other begins exactly where no minute lies in both
clear-iff : (s t : Span) → s.from < s.to → t.from < t.to → (clear s t ≡ true) ↔ Apart s t
unfolding clear
clear-iff s t p q = go (le-or-lt s.to t.from) (le-or-lt t.to s.from)
  where
    go : (s.to ≤ t.from) ⊎ (t.from < s.to) → (t.to ≤ s.from) ⊎ (s.from < t.to)
        → ((leb s.to t.from || leb t.to s.from) ≡ true) ↔ Apart s t
    go (inl h) k = (
      λ e m a b. let (c, d) = (lies-iff m s).0 a in let (g, h') = (lies-iff m t).0 b in omega arith,
      λ apart. rw (le-leb s.to t.from h),
    )
    go (inr h) (inl k) = (
      λ e m a b. let (c, d) = (lies-iff m s).0 a in let (g, h') = (lies-iff m t).0 b in omega arith,
      λ apart. rw (lt-leb s.to t.from h, le-leb t.to s.from k),
    )
    go (inr h) (inr k) = (
      λ e. absurd (false≢true (rw (lt-leb s.to t.from h, lt-leb t.to s.from k) at e)),
      λ apart. both (le-or-lt s.from t.from) apart,
    )
      where
        both : (s.from ≤ t.from) ⊎ (t.from < s.from) → Apart s t → (leb s.to t.from || leb t.to s.from) ≡ true
        both (inl l) apart = absurd (apart t.from (lies-inside t.from s l h) (lies-inside t.from t (omega arith) q))
        both (inr l) apart = absurd (apart s.from (lies-inside s.from s (omega arith) p) (lies-inside s.from t (omega arith) k))

clear_of_iff : (s : Span) (spans : List Span) → s.from < s.to → All SpanInRange spans → (clear_of s spans ≡ true) ↔ All (Apart s) spans
unfolding clear_of
clear_of_iff s [] p ranges = (λ e. tt, λ all. refl)
clear_of_iff s (t ∷ spans) p ranges =
    let first = clear-iff s t p ranges.0.below in
    let others = clear_of_iff s spans p ranges.1 in (
      λ e. let (a, b) = (and-eq-true_iff (clear s t) (clear_of s spans)).0 e in (first.0 a, others.0 b),
      λ all. (and-eq-true_iff (clear s t) (clear_of s spans)).1 (first.1 all.0, others.1 all.1),
    )

apart_more : (spans : List Span) (s : Span) → AllApart (spans ++ s ∷ []) ↔ (AllApart spans × All (Apart s) spans)
apart_more [] s = (λ a. (tt, tt), λ a. (tt, tt))
apart_more (t ∷ spans) s =
    let firsts = all_more (Apart t) spans s in
    let others = apart_more spans s in (
      λ a. (((firsts.0 a.0).0, (others.0 a.1).0), (apart_sym t s (firsts.0 a.0).1, (others.0 a.1).1)),
      λ a. (firsts.1 (a.0.0, apart_sym s t a.1.0), others.1 (a.0.1, a.1.1)),
    )

-- the last of an engine's spans takes its own minutes from those that run without it
pub running-last : (spans : List Span) (s : Span) → QuietInRange (spans ++ s ∷ []) → (T : ℕ) → running (spans ++ s ∷ []) T + taken s T ≡ running spans T
running-last spans s q = running_more spans s ((all_more SpanInRange spans s).0 q.each).1.below ((apart_more spans s).0 q.apart).1

-- a span whose numbers are in their ranges
abbrev pub NumbersInRange : Span → Type 0
NumbersInRange s = Within 0 most_minutes s.from × Within 0 most_minutes s.to

-- An engine's spans with one more are in range exactly where they are, its numbers are, and it passes the test of 11.
pub quiet-more : (spans : List Span) (s : Span)
    → QuietInRange (spans ++ s ∷ []) ↔ (QuietInRange spans × (NumbersInRange s × (fits s spans ≡ true)))
unfolding fits
quiet-more spans s = (
  λ q.
      let (ranges, range) = (all_more SpanInRange spans s).0 q.each in
      let (apart, clear) = (apart_more spans s).0 q.apart in
      let few : length spans < most_spans = omega (arith, q.count, length-append spans (s ∷ [])) in (
        record { count = omega arith; each = ranges; apart = apart },
        (
          (range.from, range.to),
          rw (lt-ltb s.from s.to range.below, (clear_of_iff s spans range.below ranges).1 clear, lt-ltb (length spans) most_spans few),
        ),
      ),
  λ (q, ((from, to), e)).
      let (a, b) = (and-eq-true_iff (ltb s.from s.to && clear_of s spans) (ltb (length spans) most_spans)).0 e in
      let (c, d) = (and-eq-true_iff (ltb s.from s.to) (clear_of s spans)).0 a in
      let below = ltb-true s.from s.to c in
      record {
        count = omega (arith, ltb-true (length spans) most_spans b, length-append spans (s ∷ []));
        each = (all_more SpanInRange spans s).1 (q.each, record { from = from; to = to; below = below });
        apart = (apart_more spans s).1 (q.apart, (clear_of_iff s spans below q.each).0 d);
      },
)

pub quiet_none : QuietInRange []
quiet_none = record { count = omega arith; each = tt; apart = tt }

-- ---- the spans of one engine

module _ (n : ℕ) where
  -- one more of that engine, or of another
  pub spans-same : (quiet : List Quiet) (q : Quiet) → q.engine ≡ n → spans_of n (quiet ++ q ∷ []) ≡ spans_of n quiet ++ q.span ∷ []
  unfolding spans_of
  spans-same [] q e = rw (eq-eqb q.engine n e)
  spans-same (p ∷ quiet) q e = rw (spans-same quiet q e) (go (eqb p.engine n))
    where
      go : (b : Bool) → cond b (p.span ∷ (spans_of n quiet ++ q.span ∷ [])) (spans_of n quiet ++ q.span ∷ [])
          ≡ cond b (p.span ∷ spans_of n quiet) (spans_of n quiet) ++ q.span ∷ []
      go true = refl
      go false = refl

  pub spans-other : (quiet : List Quiet) (q : Quiet) → (q.engine ≡ n → ⊥) → spans_of n (quiet ++ q ∷ []) ≡ spans_of n quiet
  unfolding spans_of
  spans-other [] q e = rw (ne_eqb q.engine n e)
  spans-other (p ∷ quiet) q e = rw (spans-other quiet q e)

  -- none of them where no span has that number
  pub spans-none : (quiet : List Quiet) → All (λ (q : Quiet). q.engine ≡ n → ⊥) quiet → spans_of n quiet ≡ []
  unfolding spans_of
  spans-none [] all = refl
  spans-none (q ∷ quiet) all = rw (ne_eqb q.engine n all.0, spans-none quiet all.1)

-- Each engine's spans with one more are in range exactly where they are, and the one's numbers are and it fits behind those of its engine.
pub ranges_more : (quiet : List Quiet) (q : Quiet)
    → ((n : ℕ) → QuietInRange (spans_of n (quiet ++ q ∷ [])))
    ↔ (((n : ℕ) → QuietInRange (spans_of n quiet)) × (NumbersInRange q.span × (fits q.span (spans_of q.engine quiet) ≡ true)))
ranges_more quiet q = (
  λ all. (
    λ n. before n (equal_or_not q.engine n) (all n),
    ((quiet-more _ q.span).0 (rw (spans-same q.engine quiet q refl) at (all q.engine))).1,
  ),
  λ (all, fit) n. after n (equal_or_not q.engine n) (all n) ((quiet-more _ q.span).1 (all q.engine, fit)),
)
  where
    before : (n : ℕ) → (q.engine ≡ n) ⊎ (q.engine ≢ n) → QuietInRange (spans_of n (quiet ++ q ∷ [])) → QuietInRange (spans_of n quiet)
    before n (inl e) r = ((quiet-more _ q.span).0 (rw (spans-same n quiet q e) at r)).0
    before n (inr d) r = rw (spans-other n quiet q d) at r

    after : (n : ℕ) → (q.engine ≡ n) ⊎ (q.engine ≢ n) → QuietInRange (spans_of n quiet)
        → QuietInRange (spans_of q.engine quiet ++ q.span ∷ []) → QuietInRange (spans_of n (quiet ++ q ∷ []))
    after n (inl e) r joined = rw (spans-same n quiet q e, ← e) joined
    after n (inr d) r joined = rw (spans-other n quiet q d) r

-- where each engine's spans are in range, every span is
pub span-ranges : (quiet : List Quiet) → ((n : ℕ) → All SpanInRange (spans_of n quiet)) → All (λ (q : Quiet). SpanInRange q.span) quiet
unfolding spans_of
span-ranges [] all = tt
span-ranges (q ∷ quiet) all = (
  (rw (eq-eqb q.engine q.engine refl) at (all q.engine)).0,
  span-ranges quiet (λ n. others n (eqb q.engine n) (all n)),
)
  where
    others : (n : ℕ) (b : Bool) → All SpanInRange (cond b (q.span ∷ spans_of n quiet) (spans_of n quiet)) → All SpanInRange (spans_of n quiet)
    others n true a = a.1
    others n false a = a

-- how many there are of all engines, and of the most that they may have
count_next : (engines : ℕ) (q : Quiet) (quiet : List Quiet) → Within 1 engines q.engine
    → sum engines (λ i. length (spans_of (suc i) (q ∷ quiet))) ≡ suc (sum engines (λ i. length (spans_of (suc i) quiet)))
unfolding spans_of
count_next engines q quiet w = go q.engine refl w
  where
    go : (n : ℕ) → q.engine ≡ n → Within 1 engines n
        → sum engines (λ i. length (spans_of (suc i) (q ∷ quiet))) ≡ suc (sum engines (λ i. length (spans_of (suc i) quiet)))
    go zero e v = absurd (omega (arith, v.least))
    go (suc a) e v =
        unfold spans_of in
        omega (
          arith,
          sum_one engines (λ i. length (spans_of (suc i) (q ∷ quiet))) (λ i. length (spans_of (suc i) quiet)) a v.most
              (λ i l n. rw (ne_eqb q.engine (suc i) (λ h. n (omega arith)))),
          here,
        )
      where
        here : length (spans_of (suc a) (q ∷ quiet)) ≡ suc (length (spans_of (suc a) quiet))
        here = unfold spans_of in rw (eq-eqb q.engine (suc a) e)

count-each : (engines : ℕ) (quiet : List Quiet) → All (λ (q : Quiet). Within 1 engines q.engine) quiet
    → length quiet ≡ sum engines (λ i. length (spans_of (suc i) quiet))
unfolding spans_of
count-each engines [] known = sym (sum-zero engines _ (λ i l. refl))
count-each engines (q ∷ quiet) known = ap suc (count-each engines quiet known.1) ∙ sym (count_next engines q quiet known.0)

sum-at-most : (m most : ℕ) (f : ℕ → ℕ) → ((i : ℕ) → i < m → f i ≤ most) → sum m f ≤ m * most
unfolding sum
sum-at-most zero most f h = omega arith
sum-at-most (suc m) most f h = omega (arith, sum-at-most m most f (λ i l. h i (omega arith)), h m (omega arith), suc-mul m most)

pub few-spans : (engines : ℕ) (quiet : List Quiet) → All (λ (q : Quiet). Within 1 engines q.engine) quiet
    → ((n : ℕ) → QuietInRange (spans_of n quiet)) → length quiet ≤ engines * most_spans
few-spans engines quiet known ranges =
    omega (arith, count-each engines quiet known, sum-at-most engines most_spans _ (λ i l. (ranges (suc i)).count))
