-- The next delivery left takes the place of the one chosen before it where it comes first.
use Rattle.std.proofs.Common.{rules, ◌≡◌, refl, true, false, Option, Some, None}
use Rattle.search.specs.declared.choice.Candidate.{Candidate}
use Rattle.search.specs.Laws.Choice.{best_start, member, best_next, best_left, best_end, comes_before, delivery-limit}
use Rattle.search.proofs.view.View.bulkiest.Goals as goal

-- the one chosen before, where there is one
by_cases : {P : Type 0} (best : Option Candidate) → (best ≡ None → P) → ((first : Candidate) → best ≡ Some first → P) → P
by_cases None none some = none refl
by_cases (Some first) none some = some first refl

pub loop-p-init : goal.loop-p-init
loop-p-init c = rw c.into_iter-p-iterator.ensures.into_iter_gives (best_start _)

pub candidate_at-next-requires : goal.candidate_at-next-requires
candidate_at-next-requires c = (member c.loop-p.invariant c.in-Some.ensures.steps).member

pub is_none_or-requires : goal.is_none_or-requires
is_none_or-requires c = λ first e.
    search (
      rules,
      (delivery-limit c.candidate_at-next.ensures).least,
      (delivery-limit (best_left (rw e at c.loop-p.invariant))).least,
    )

pub loop-p-preserved-then-is_none_or : goal.loop-p-preserved-then-is_none_or
loop-p-preserved-then-is_none_or c =
    let best = best_next c.loop-p.invariant c.in-Some.ensures.steps c.candidate_at-next.ensures in
    by_cases c.loop-p.best
    (λ e. rw e at best)
    (λ first e.
    let comes : comes_before c.candidate_at-next.result first ≡ true = search rules in
    rw (e, comes) at best)

pub loop-p-preserved : goal.loop-p-preserved
loop-p-preserved c =
    let best = best_next c.loop-p.invariant c.in-Some.ensures.steps c.candidate_at-next.ensures in
    by_cases c.loop-p.best
    (λ e. search rules)
    (λ first e.
    let behind : comes_before c.candidate_at-next.result first ≡ false = search rules in
    rw e (rw (e, behind) at best))

pub returns : goal.returns
returns c = best_end c.in-None.ensures.steps c.loop-p.invariant
