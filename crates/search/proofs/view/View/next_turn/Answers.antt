-- The turn is the step of document 01 by the choice, and its delivery is one left.
use Rattle.std.proofs.Common.{◌≡◌, false, Bool, ◌+◌, ◌≤◌, eqb, sym, ◌∙◌, eqb-true, le-leb, arith, Some}
use Rattle.std.proofs.lemmas.Bool.{eqb-false, lt-leb}
use Rattle.std.specs.Int.Count.{ones}
use Rattle.planning.specs.Search.{step_by}
use Rattle.search.specs.declared.choice.Candidate.{Candidate}
use Rattle.search.specs.declared.view.View.{View}
use Rattle.search.specs.Laws.Choice.{bulkiest-left, one-more-chosen, delivery-limit, step-none, step-some}
use Rattle.search.specs.Steps.{IsBulkiest, PickOf, step_of_turn}
use Rattle.search.proofs.view.View.next_turn.Goals as goal

-- the delivery chosen, where there is one
module _ {v : View} {best : Candidate} (is_best : IsBulkiest v (Some best)) where
  -- the comparison with LIMIT tells whether the limit that is left is 1
  compared : (told : Bool) → told ≡ eqb (ones best.served + 1) best.most → eqb best.limit 1 ≡ told
  compared told e = sym (e ∙ one-more-chosen is_best)

  limit_some : 1 ≤ best.limit
  limit_some = (delivery-limit (bulkiest-left is_best)).least

  -- and else it is 2 or more
  several : eqb best.limit 1 ≡ false → 2 ≤ best.limit
  several e = let other : best.limit ≡ 1 → ⊥ = eqb-false best.limit 1 e in omega (arith, limit_some)

pub returns-in_default : goal.returns-in_default
unfolding PickOf step_of_turn
returns-in_default c =
    record {
      picked = tt;
      step = λ engines deliveries sized. sym (step-none c.in_default.ensures engines deliveries sized);
    }

pub returns-then-one_more_is_limit : goal.returns-then-one_more_is_limit
unfolding PickOf step_of_turn step_by
returns-then-one_more_is_limit c =
    let is_best = c.in-Some.ensures in
    let best = bulkiest-left is_best in
    let one = compared is_best _ c.one_more_is_limit.ensures ∙ c.if-one_more_is_limit.true in
    record {
      picked = (best.picked, sym best.is_limit ∙ eqb-true _ _ one);
      step = λ engines deliveries sized. sym (step-some is_best engines deliveries sized ∙ rw one);
    }

pub overflow_sub-from : goal.overflow_sub-from
overflow_sub-from c = omega (arith, limit_some c.in-Some.ensures, c.from-2.ensures)

pub returns-then-from : goal.returns-then-from
unfolding PickOf step_of_turn step_by
returns-then-from c =
    let is_best = c.in-Some.ensures in
    let not_one = compared is_best _ c.one_more_is_limit.ensures ∙ c.if-one_more_is_limit.false in
    record {
      picked = tt;
      step = λ engines deliveries sized.
          sym
          (step-some is_best engines deliveries sized
          ∙ rw (
            not_one,
            ← c.smallest-least.ensures engines sized.engine_set,
            le-leb _ _ (rw (c.from.ensures, c.from-2.ensures, c.from-3.ensures) at c.if-from.true),
          ));
    }

pub returns-else-from : goal.returns-else-from
unfolding PickOf step_of_turn step_by
returns-else-from c =
    let is_best = c.in-Some.ensures in
    let best = bulkiest-left is_best in
    let not_one = compared is_best _ c.one_more_is_limit.ensures ∙ c.if-one_more_is_limit.false in
    record {
      picked = (best.picked, rw (← best.is_limit) (several is_best not_one));
      step = λ engines deliveries sized.
          sym
          (step-some is_best engines deliveries sized
          ∙ rw (
            not_one,
            ← c.smallest-least.ensures engines sized.engine_set,
            lt-leb _ _ (rw (c.from.ensures, c.from-2.ensures, c.from-3.ensures) at c.if-from.false),
          ));
    }
