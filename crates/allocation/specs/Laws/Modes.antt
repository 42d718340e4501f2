-- What fixed and shortest come to: by the search at MINUTES, and by the bisection after it.
-- Assumes nothing.
use Rattle.std.specs.Prelude.{◌≡◌, ◌≢◌, ℕ, length, take}
use Rattle.std.proofs.Math.Path.{refl}
use Rattle.std.proofs.Common.{sym, ap, ◌∙◌, take_all, arith}
use mathlib.Core.List.{List}
use Rattle.planning.specs.declared.Answer.{Answer}
use Rattle.planning.specs.declared.Mode.{Mode}
use Rattle.planning.specs.declared.Mode.TheVariants.{Fixed, Shortest}
use Rattle.planning.specs.declared.Outcome.TheVariants.{Found, None, Stopped}
use Rattle.planning.proofs.Laws.OnExit.{over-whole}
use Rattle.planning.specs.Modes.{search_at, Planned, planned_at, by_outcome, bisect, shortest, planned_in, planned, answer_of, outcome_of, tries_of}
use Rattle.planning.specs.Plan.{Plan}
use Rattle.planning.specs.Search.{Result, found, none, stopped}
use Rattle.planning.specs.Tables.{over_front}
use Rattle.search.specs.declared.Ended.{Ended}
use Rattle.search.specs.Promises.{ended_of, written}
use Rattle.allocation.specs.Ends.{Ends, Finds, Answers, AnswersFound, answered}

-- ---- a search's result by what the code returns of it

module _ {e : Ended} where
  pub found-by : (r : Result) (lent : List ℕ) → e ≡ ended_of r → e.outcome ≡ Found → r ≡ found e.tries (written r lent)
  unfolding ended_of written
  found-by (found t table) lent is o = cc
  found-by (none t) lent is o = cc
  found-by (stopped t) lent is o = cc

  pub none-by : (r : Result) → e ≡ ended_of r → e.outcome ≡ None → r ≡ none e.tries
  unfolding ended_of
  none-by (found t table) is o = cc
  none-by (none t) is o = cc
  none-by (stopped t) is o = cc

  pub stopped-by : (r : Result) → e ≡ ended_of r → e.outcome ≡ Stopped → r ≡ stopped e.tries
  unfolding ended_of
  stopped-by (found t table) is o = cc
  stopped-by (none t) is o = cc
  stopped-by (stopped t) is o = cc

  -- so its answer is known
  pub is-answered : (T : ℕ) (r : Result) → e ≡ ended_of r → answered e T ≡ answer_of (record { minutes = T; result = r })
  unfolding ended_of answer_of outcome_of tries_of
  is-answered T (found t table) is = rw is
  is-answered T (none t) is = rw is
  is-answered T (stopped t) is = rw is

-- a search that ended in found left the table that it found
pub found-ended : {r : Result} {lent : List ℕ} {e : Ended} {left : List ℕ} → Ends r lent e left → e.outcome ≡ Found → Finds r e left
found-ended {r} {lent} {e} ends o =
    record { outcome = o; result = found-by r lent ends.ended o ∙ ap (found e.tries) (sym ends.table) }

-- found writes all of the table, whatever was lent; none and stopped write nothing
pub written-kept : (r : Result) → outcome_of r ≢ Found → (lent : List ℕ) → lent ≡ written r lent
unfolding outcome_of written
written-kept (found tries table) n lent = absurd (n refl)
written-kept (none tries) n lent = refl
written-kept (stopped tries) n lent = refl

-- ---- modes

-- a search for T minutes that is answered as it ended
pub answered-at : (plan : Plan) (T : ℕ) {lent : List ℕ} {e : Ended} {left : List ℕ} {r : Answer} → Ends (search_at plan T) lent e left
    → r ≡ answered e T → Answers (planned_at plan T) lent r left
unfolding planned_at
answered-at plan T ends answer = record { answer = answer ∙ is-answered T (search_at plan T) ends.ended; table = ends.table }

-- where nothing is found, any other table is kept
kept_else : (result : Result) {e : Ended} → e ≡ ended_of result → e.outcome ≢ Found → (lent : List ℕ) → lent ≡ written result lent
unfolding ended_of written
kept_else (found tries table) is other lent = absurd (other (ap (λ (e : Ended). e.outcome) is))
kept_else (none tries) is other lent = refl
kept_else (stopped tries) is other lent = refl

pub other-answered : (plan : Plan) (T : ℕ) {scratch after : List ℕ} {e : Ended} {r : Answer} → Ends (search_at plan T) scratch e after
    → e.outcome ≢ Found → r ≡ answered e T → (lent : List ℕ) → Answers (planned_at plan T) lent r lent
unfolding planned_at
other-answered plan T ends other answer lent =
    record { answer = answer ∙ is-answered T (search_at plan T) ends.ended; table = kept_else (search_at plan T) ends.ended other lent }

-- fixed: the search at MINUTES
pub fixed-planned : (plan : Plan) → plan.mode ≡ Fixed → planned plan ≡ planned_at plan plan.minutes
unfolding planned planned_in
fixed-planned plan e = ap (λ (mode : Mode). planned_in mode plan) e

pub shortest-planned : (plan : Plan) → plan.mode ≡ Shortest → planned plan ≡ shortest plan
unfolding planned planned_in
shortest-planned plan e = ap (λ (mode : Mode). planned_in mode plan) e

module _ (plan : Plan) where
  -- shortest, where MINUTES are found: the bisection's answer
  pub shortest_bisects : {tries : ℕ} {table : List ℕ} → search_at plan plan.minutes ≡ found tries table
      → shortest plan ≡ bisect plan.minutes plan 0 plan.minutes
  unfolding shortest by_outcome
  shortest_bisects e = rw e

  -- where they are not: the search at MINUTES
  pub shortest-ends : {e : Ended} → e ≡ ended_of (search_at plan plan.minutes) → e.outcome ≢ Found
      → shortest plan ≡ planned_at plan plan.minutes
  unfolding shortest
  shortest-ends {e} is other = go (search_at plan plan.minutes) is
    where
      go : (r : Result) → e ≡ ended_of r
          → by_outcome r (λ _. bisect plan.minutes plan 0 plan.minutes) (λ _. planned_at plan plan.minutes) (λ _. planned_at plan plan.minutes)
          ≡ planned_at plan plan.minutes
      go (found tries table) h = unfold ended_of in absurd (other (ap (λ (e : Ended). e.outcome) h))
      go (none tries) h = unfold by_outcome in refl
      go (stopped tries) h = unfold by_outcome in refl

-- a table copied over a lent one of its length is that table
pub copied_whole : (left lent : List ℕ) {table : List ℕ} → length left ≡ length lent → table ≡ over_front (take (length lent) left) lent → table ≡ left
copied_whole left lent same copied =
    let whole : take (length lent) left ≡ left = take_all (length lent) left (omega arith) in
    copied ∙ rw whole (over-whole left lent same)

-- the bisection's answer with the table that it found, or the lent one kept
module _ {a : Planned} {r : Answer} {left : List ℕ} (answers : AnswersFound a r left) where
  pub found_copied : r.outcome ≡ Found → (lent : List ℕ) {table : List ℕ} → table ≡ left → Answers a lent r table
  found_copied e lent copied = record { answer = answers.answer; table = copied ∙ answers.table e lent }

  pub other-kept : r.outcome ≢ Found → (lent : List ℕ) → Answers a lent r lent
  unfolding answer_of
  other-kept n lent =
      record {
        answer = answers.answer;
        table = written-kept a.result (λ e. n (ap (λ (x : Answer). x.outcome) answers.answer ∙ e)) lent;
      }
