-- How many minutes each engine runs, span by span: a span takes its own minutes off its engine, and the others keep theirs.
-- Assumes nothing.
use Rattle.std.specs.Prelude.{◌≡◌, ℕ, suc, ◌+◌, ◌-◌, ◌*◌, ◌/◌, ◌≤◌, ◌<◌, min, length, get_or, set, replicate}
use Rattle.std.proofs.Common.{sym, ◌∙◌, arith}
use Rattle.std.proofs.Math.Path.{ap}
use mathlib.Core.List.{List, [], ◌∷◌, ◌++◌}
use Rattle.planning.specs.declared.EngineFigures.{EngineFigures}
use Rattle.planning.specs.declared.Engines.{Engines}
use Rattle.planning.specs.Bounds.{most_engines}
use Rattle.planning.specs.ByValue.{no_figures, quiet_in, engine_in, engines_in}
use Rattle.planning.specs.Capacity.{capacity, each_capacity}
use Rattle.planning.proofs.Laws.All.{all_more}
use Rattle.planning.proofs.Laws.ByValue.{capacity_in}
use Rattle.planning.proofs.Laws.Numbers.{QuietKept}
use Rattle.planning.proofs.Laws.Quiet.{running_always, taken, running-last, spans-same, spans-other}
use Rattle.planning.proofs.Laws.Tables.{length-listed, at_listed}
use Rattle.planning.specs.Quiet.{Span, Quiet, spans_of, running}
use Rattle.planning.specs.Tables.{at, listed}
use Rattle.search.specs.Laws.Documents.{listed-set}
use Rattle.allocation.specs.Running.{running_each}

-- place by place
pub length-running : (quiet : List Quiet) (T : ℕ) → length (running_each quiet T) ≡ most_engines
unfolding running_each
length-running quiet T = length-listed most_engines _

pub running-at : (quiet : List Quiet) (T i : ℕ) → i < most_engines → at (running_each quiet T) i ≡ running (spans_of (suc i) quiet) T
unfolding running_each
running-at quiet T i l = at_listed most_engines _ i l

-- without spans every engine runs all the time
pub running_none : (T : ℕ) → replicate most_engines T ≡ running_each [] T
unfolding running_each spans_of listed
running_none T = rw (running_always T)

-- one span more, of the engine at place a
module _ (quiet : List Quiet) (q : Quiet) (kept : QuietKept most_engines (quiet ++ q ∷ [])) (a : ℕ) (here : a + 1 ≡ q.engine) (T : ℕ) where
  inside : a < most_engines
  inside = omega (arith, here, ((all_more _ quiet q).0 kept.known).1.most)

  takes : running (spans_of (suc a) (quiet ++ q ∷ [])) T + taken q.span T ≡ running (spans_of (suc a) quiet) T
  takes =
      let same = spans-same (suc a) quiet q (sym here ∙ omega arith) in
      rw same (running-last (spans_of (suc a) quiet) q.span (rw same at (kept.ranges (suc a))) T)

  module _ {out : List ℕ} (is : out ≡ running_each quiet T) where
    at_out : at out a ≡ running (spans_of (suc a) quiet) T
    at_out = ap (λ (xs : List ℕ). at xs a) is ∙ running-at quiet T a inside

    pub taken-most : taken q.span T ≤ at out a
    taken-most = omega (arith, at_out, takes)

    pub running-next : set out a (at out a - taken q.span T) ≡ running_each (quiet ++ q ∷ []) T
    unfolding running_each
    running-next =
        rw is
        (sym (listed-set most_engines (λ i. running (spans_of (suc i) quiet) T) (λ i. running (spans_of (suc i) (quiet ++ q ∷ [])) T) a _ inside
        (λ i l n. ap (λ (spans : List Span). running spans T) (spans-other (suc i) quiet q (λ e. n (omega (arith, e, here)))))
        (omega (arith, running-at quiet T a inside, takes))))

-- so an engine's capacity is the smaller of its fuel and of its watts for the minutes it runs
pub capacity-runs : (e : Engines) (T i : ℕ) → i < e.count → e.count ≤ most_engines → {figures : EngineFigures} → figures ≡ get_or e.figures i no_figures
    → {runs : List ℕ} → runs ≡ running_each (quiet_in e.quiet) T
    → min figures.fuel (figures.watts * at runs i / 60) ≡ at (each_capacity (engines_in e) T) i
unfolding engine_in capacity
capacity-runs e T i l most has is = rw (has, is, running-at (quiet_in e.quiet) T i (omega arith), capacity_in e T i l)
