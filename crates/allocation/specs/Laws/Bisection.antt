-- The bisection turn by turn: what each outcome at the middle makes of it.
-- Assumes nothing.
use Rattle.std.specs.Prelude.{◌≡◌, List}
use Rattle.std.proofs.Math.Path.{refl, sym, ap}
use Rattle.std.proofs.Common.{◌∙◌, lt-ltb, le-ltb, arith}
use Prim.Native.Nat.{ℕ, zero, suc, ◌-◌, ◌≤◌, ◌<◌}
use Rattle.planning.specs.declared.Answer.{Answer}
use Rattle.planning.specs.declared.Outcome.{Outcome}
use Rattle.planning.specs.declared.Outcome.TheVariants.{Found, None, Stopped}
use Rattle.planning.proofs.Laws.Modes.Bisection.{bisect-bound}
use Rattle.planning.specs.Modes.{search_at, planned_at, by_outcome, while_above, middle, bisect, answer_of, outcome_of, tries_of}
use Rattle.planning.specs.Plan.{Plan}
use Rattle.planning.specs.Search.{Result, found, none, stopped}
use Rattle.search.specs.declared.Ended.{Ended}
use Rattle.search.specs.Promises.{written}
use Rattle.allocation.specs.Ends.{Ends, Finds, AnswersFound, answered}
use Rattle.allocation.specs.Laws.Modes.{found-ended, none-by, stopped-by, is-answered}

-- high - low is at most 1: the answer is the search at high
last_turn : (plan : Plan) (bound low high : ℕ) → high - low ≤ 1 → bisect bound plan low high ≡ planned_at plan high
unfolding bisect while_above
last_turn plan zero low high l = refl
last_turn plan (suc bound) low high l = rw (le-ltb 1 (high - low) l)

-- one turn more
turn : (plan : Plan) (bound low high : ℕ) → 1 < high - low
    → bisect (suc bound) plan low high
    ≡ by_outcome
    (search_at plan (middle low high))
    (λ _. bisect bound plan low (middle low high))
    (λ _. bisect bound plan (middle low high) high)
    (λ _. planned_at plan (middle low high))
unfolding bisect while_above
turn plan bound low high more = rw (lt-ltb 1 (high - low) more)

-- by the outcome at the middle
module _ (plan : Plan) where
  found_turn : (bound low high : ℕ) → 1 < high - low → high - low ≤ bound → {tries : ℕ} {table : List ℕ}
      → search_at plan (middle low high) ≡ found tries table → bisect bound plan low high ≡ bisect bound plan low (middle low high)
  unfolding by_outcome
  found_turn zero low high more l e = absurd (omega arith)
  found_turn (suc bound) low high more l e =
      turn plan bound low high more
      ∙ rw e (sym (bisect-bound plan bound (suc bound) low (middle low high) (omega arith) (omega arith)))

  none-turn : (bound low high : ℕ) → 1 < high - low → high - low ≤ bound → {tries : ℕ}
      → search_at plan (middle low high) ≡ none tries → bisect bound plan low high ≡ bisect bound plan (middle low high) high
  unfolding by_outcome
  none-turn zero low high more l e = absurd (omega arith)
  none-turn (suc bound) low high more l e =
      turn plan bound low high more
      ∙ rw e (sym (bisect-bound plan bound (suc bound) (middle low high) high (omega arith) (omega arith)))

  stopped-turn : (bound low high : ℕ) → 1 < high - low → high - low ≤ bound → {tries : ℕ}
      → search_at plan (middle low high) ≡ stopped tries → bisect bound plan low high ≡ planned_at plan (middle low high)
  unfolding by_outcome
  stopped-turn zero low high more l e = absurd (omega arith)
  stopped-turn (suc bound) low high more l e = turn plan bound low high more ∙ rw e

-- The bisection from 0 to top has come to low and high, and the search at high found that table.
pub record Bracket (plan : Plan) (top low high : ℕ) (best : Ended) (table : List ℕ) : Type 0 where
  pub finds : Finds (search_at plan high) best table
  pub same : bisect top plan low high ≡ bisect top plan 0 top

module _ {plan : Plan} {top low high : ℕ} {best : Ended} {table : List ℕ} (b : Bracket plan top low high best table) where
  -- the search at high is answered
  pub bracket_last : high - low ≤ 1 → {r : Answer} → r ≡ answered best high → AnswersFound (bisect top plan 0 top) r table
  unfolding planned_at written answer_of outcome_of tries_of
  bracket_last l answer =
      rw (← b.same, last_turn plan top low high l, b.finds.result)
      (record {
        answer = answer ∙ ap (λ (o : Outcome). record { outcome = o; minutes = high; tries = best.tries }) b.finds.outcome;
        table = λ e lent. refl;
      })

  -- a turn, by what the search at the middle returned and left in the table
  module _ (more : 1 < high - low) (within : high - low ≤ top) {ended : Ended} {after : List ℕ}
      (ends : Ends (search_at plan (middle low high)) table ended after) where
    abbrev came : Result
    came = search_at plan (middle low high)

    pub bracket_found : ended.outcome ≡ Found → Bracket plan top low (middle low high) ended after
    bracket_found o =
        let finds : Finds came ended after = found-ended ends o in
        record { finds = finds; same = sym (found_turn plan top low high more within finds.result) ∙ b.same }

    pub bracket_none : ended.outcome ≡ None → Bracket plan top (middle low high) high best after
    unfolding written
    bracket_none o =
        let finds : came ≡ none ended.tries = none-by came ends.ended o in
        let kept : after ≡ table = ends.table ∙ ap (λ (r : Result). written r table) finds in
        record {
          finds = rw kept b.finds;
          same = sym (none-turn plan top low high more within finds) ∙ b.same;
        }

    pub bracket_stopped : ended.outcome ≡ Stopped → {r : Answer} → r ≡ answered ended (middle low high) → AnswersFound (bisect top plan 0 top) r after
    unfolding planned_at
    bracket_stopped o {r} answer =
        let stops : came ≡ stopped ended.tries = stopped-by came ends.ended o in
        let whole : bisect top plan 0 top ≡ planned_at plan (middle low high) = sym b.same ∙ stopped-turn plan top low high more within stops in
        let other : r.outcome ≡ Stopped = ap (λ (a : Answer). a.outcome) answer ∙ o in
        rw whole
        (record {
          answer = answer ∙ is-answered (middle low high) came ends.ended;
          table = λ e lent. let z : ◌≡◌ {A = ℕ} 0 1 = cc in absurd (omega arith);
        })
