-- Step B, and the search as the step that the turn of a state stands for.
-- Assumes nothing.
use Rattle.std.specs.Prelude.{◌≡◌, refl, List, ℕ, ◌*◌, length, replicate}
use Rattle.std.proofs.Common.{sym, ◌∙◌}
use Rattle.planning.proofs.Laws.Tables.{length-listed}
use Rattle.planning.proofs.Laws.Search.Bound.{search_steps}
use Rattle.planning.specs.Search.{State as Document, finished, step_of, Result, Allowance, up_to, perform, search_from}
use Rattle.search.specs.declared.choice.Turn.{Turn}
use Rattle.planning.specs.declared.Outcome.{Outcome}
use Rattle.planning.specs.declared.Outcome.TheVariants.{Found}
use Rattle.search.specs.declared.cycle.Run.{Run}
use Rattle.search.specs.declared.state.State.{State}
use Rattle.search.specs.declared.Task.{Task}
use Rattle.search.specs.Layout.{document, state_of}
use Rattle.search.specs.Promises.{engines_of, deliveries_of, ended_of, written}
use Rattle.search.specs.Steps.{step_of_turn, EndsIn, Makes}

-- the search goes on with the step that the turn stands for
pub turn_answers : (allowance : ℕ) (s : Document) (made : ℕ) (turn : Turn) → step_of_turn turn ≡ step_of s
    → {before after : Run} {outcome : Outcome}
    → Makes (perform (step_of_turn turn) (λ after tries. search_from (up_to allowance) after tries) (up_to allowance) s made) before outcome after
    → Makes (search_from (up_to allowance) s made) before outcome after
turn_answers allowance s made turn f h = rw (search_steps (up_to allowance) s made, sym f) h

-- step B: the empty table
pub finished_answers : (task : Task) (s : State) (go_to_b : Document → ℕ → Result) (allowance : Allowance) (made : ℕ)
    (lent : List ℕ) {table : List ℕ} → length lent ≡ deliveries_of task * engines_of task → table ≡ replicate (length lent) 0
    → EndsIn (perform finished go_to_b allowance (document task s) made) lent (record { outcome = Found; tries = made }) table
unfolding perform state_of ended_of written
finished_answers task s go_to_b allowance made lent l e =
    record { is_ended = refl; is_table = e ∙ simp (l, length-listed) }
