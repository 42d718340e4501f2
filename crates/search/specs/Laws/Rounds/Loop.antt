-- The loops of lay and cut: where they stand, and that each of their ways on and out is that of step D or F.
-- Assumes nothing.
use Rattle.std.specs.Prelude.{◌≡◌, ◌≢◌, true, List, ℕ, ◌+◌, ◌*◌, ◌≤◌, ◌<◌, length, set as put}
use Rattle.std.proofs.Common.{refl, sym, ap, ◌∙◌, length-set, arith}
use Rattle.planning.specs.Bounds.{most_engines}
use Rattle.planning.proofs.Laws.Tables.{length-listed}
use Rattle.planning.specs.Search.{Result, up_to, perform, size, search_from}
use Rattle.planning.specs.Tables.{at}
use Rattle.planning.specs.declared.Outcome.{Outcome}
use Rattle.planning.specs.declared.Outcome.TheVariants.{Found, None, Stopped}
use Rattle.search.specs.declared.cycle.Run.{Run}
use Rattle.search.specs.declared.state.Pick.{Pick}
use Rattle.search.specs.declared.state.State.{State}
use Rattle.search.specs.declared.Task.{Task}
use Rattle.search.specs.Laws.Layout.Picked.{engine-below}
use Rattle.search.specs.Laws.Rounds.Kinds.{Kind, laying, cutting, step_for, tries, piece, after, LimitFor, Holds, Fails, writes}
use Rattle.search.specs.Laws.Rounds.Kinds.{After, after_kept, after-sized, after-state, Held, tried, not-tried, closed, written-piece, smaller}
use Rattle.search.specs.Laws.Rounds.Walk.{Round, tries_from, Walk, walk-starts, walk_ends, walk_open, walk-cell, walk-passes, walk-stops, walk-finds, walk_halts, walk_goes_on}
use Rattle.search.specs.Layout.{limit_of, state_of, document, Kept, Picked, UnderWay, Layable, Cuttable}
use Rattle.search.specs.Members.{IsLeast}
use Rattle.search.specs.Promises.{engines_of, deliveries_of}
use Rattle.search.specs.Sets.{has}
use Rattle.search.specs.Steps.{EndsIn, search_in, Makes}

-- the step for a delivery of a state of the code, and its result
abbrev pub round_of : Kind → Task → State → (row : ℕ) → Round
round_of kind task s row =
    record {
      engines = engines_of task;
      deliveries = deliveries_of task;
      opened = s.«open»;
      row = row;
      tried = λ i. tries kind (document task s) row i;
      piece = λ i. piece kind (document task s) row i;
      after = λ i. after kind (document task s) row i;
    }

abbrev pub result_of : Kind → Task → State → (row made : ℕ) → Result
result_of kind task s row made =
    perform (step_for kind row) (λ after tries. search_from (up_to task.allowance) after tries) (up_to task.allowance) (document task s) made

round_result : (kind : Kind) (task : Task) (s : State) (row made : ℕ)
    → tries_from (round_of kind task s row) task.allowance (engines_of task) 0 made ≡ result_of kind task s row made
unfolding perform state_of
round_result laying task s row made = simp length-listed
round_result cutting task s row made = simp length-listed

-- where the loop stands, of a run that it began with
pub record Loop (kind : Kind) (s : State) (pick : Pick) (before now : Run) (set : ℕ) : Type 0 where
  pub held : Held before.task.now s pick before.table.now
  pub applies : LimitFor kind (limit_of before.task.now.limits.now s pick.row)
  pub walk : Walk (round_of kind before.task.now s pick.row) before.task.now.allowance
      (result_of kind before.task.now s pick.row before.tries) before.table.now now.table.now set now.tries
  pub same_task : now.task ≡ before.task
  pub same_table : now.table.ghost_name ≡ before.table.ghost_name

pub loop_starts : (kind : Kind) {s : State} {pick : Pick} {run : Run} → UnderWay run s
    → Picked run.task.now.energies.now s pick → LimitFor kind (limit_of run.task.now.limits.now s pick.row) → Loop kind s pick run run s.«open»
loop_starts kind {s} {pick} {run} under_way picked applies =
    let held : Held run.task.now s pick run.table.now =
    record { kept = under_way.kept; sized = under_way.sized; picked = picked; room = under_way.room } in
    record {
      held = held;
      applies = applies;
      walk =
          walk-starts
          (record {
            closed = closed held kind;
            inside = held.sized.engine_set;
            in_row = held.sized.delivery_set pick.row picked.is_left;
            room = held.room.table;
          })
          (round_result kind run.task.now s pick.row run.tries)
          under_way.allowed;
      same_task = refl;
      same_table = refl;
    }

-- a run with one try more
abbrev pub counted : Run → Run
counted run = record { task = run.task; table = run.table; tries = run.tries + 1 }

module _ {kind : Kind} {s : State} {pick : Pick} {before now : Run} {set : ℕ} (l : Loop kind s pick before now set) where
  abbrev task : Task
  task = before.task.now

  abbrev result : Result
  result = result_of kind task s pick.row before.tries

  the_task : now.task.now ≡ task
  the_task = ap (λ t. t.now) l.same_task

  -- no engine is left
  pub loop_ends : set ≡ 0 → Makes result before None now
  loop_ends z =
      record {
        ends = walk_ends l.walk z;
        same_task = l.same_task;
        same_table = l.same_table;
        same_length = ap length l.walk.same;
      }

  module _ {next others : ℕ} (k : IsLeast set next others) where
    engine : has s.«open» next ≡ true
    engine = walk_open l.walk k

    -- it has its place in the arrays
    pub loop_engine : next < most_engines
    loop_engine = engine-below l.held.kept next engine

    -- the code's test fails
    pub loop_passes : Fails kind pick.rest (at s.amount next) → Loop kind s pick before now others
    loop_passes f =
        record {
          held = l.held;
          applies = l.applies;
          walk = walk-passes l.walk k (not-tried l.held kind next engine f);
          same_task = l.same_task;
          same_table = l.same_table;
        }

    -- it holds
    module _ (h : Holds kind pick.rest (at s.amount next)) where
      try : tries kind (document task s) pick.row next ≡ true
      try = tried l.held kind next engine h

      pub loop_stops : now.tries ≡ now.task.now.allowance → Makes result before Stopped now
      loop_stops e =
          record {
            ends = walk-stops l.walk k try (e ∙ ap (λ t. t.allowance) the_task);
            same_task = l.same_task;
            same_table = l.same_table;
            same_length = ap length l.walk.same;
          }

      module _ (used : now.tries ≢ now.task.now.allowance) (r : State)
          (moved : (energy limit : List ℕ) → Kept energy limit s → Picked energy s pick → LimitFor kind (limit_of limit s pick.row)
          → After kind energy limit s pick.row next r) where
        moves : After kind task.energies.now task.limits.now s pick.row next r
        moves = moved task.energies.now task.limits.now l.held.kept l.held.picked l.applies

        more : now.tries ≢ task.allowance
        more e = used (e ∙ sym (ap (λ t. t.allowance) the_task))

        to_state : document task r ≡ after kind (document task s) pick.row next
        to_state =
            after-state task.energies.now task.limits.now s pick.row next r kind moves (engines_of task) (deliveries_of task) l.held.sized

        -- what the search from the state after the try asks, where the step's measure is as it is
        pub loop_asks : {measure : ℕ} → measure ≡ 2 * size (document task s)
            → (2 * size (document now.task.now r) + 1 < measure) × UnderWay (counted now) r
        loop_asks m =
            rw the_task (
              omega (arith, m, ap size to_state, smaller l.held kind next try),
              record {
                kept = after_kept task.energies.now task.limits.now s pick.row next r kind moves;
                sized = after-sized task.energies.now task.limits.now s pick.row next r kind moves (engines_of task) (deliveries_of task) l.held.sized;
                room = rw (ap length l.walk.same) l.held.room;
                allowed = omega (arith, l.walk.allowed, more);
              },
            )

        -- and what it ends in
        module _ {outcome : Outcome} {after_run : Run}
            (a : Makes (search_in (counted now) r) (counted now) outcome after_run) where
          searched : EndsIn (search_from (up_to task.allowance) (after kind (document task s) pick.row next) (now.tries + 1)) now.table.now
              (record { outcome = outcome; tries = after_run.tries }) after_run.table.now
          searched = rw (the_task, to_state) at a.ends

          kept_task : after_run.task ≡ before.task
          kept_task = a.same_task ∙ l.same_task

          kept_table : after_run.table.ghost_name ≡ before.table.ghost_name
          kept_table = a.same_table ∙ l.same_table

          kept_length : length after_run.table.now ≡ length before.table.now
          kept_length = a.same_length ∙ ap length l.walk.same

          row_width : engines_of after_run.task.now ≡ engines_of task
          row_width = ap (λ t. engines_of t.now) kept_task

          -- the piece has a cell in the table
          pub loop_cell : pick.row * engines_of after_run.task.now + next < length after_run.table.now
          loop_cell = rw (row_width, kept_length) (walk-cell l.walk k)

          pub loop_finds : {v : ℕ} {done : Run} → outcome ≡ Found → v ≡ writes kind pick.rest (at s.amount next)
              → done.task ≡ after_run.task → done.table.ghost_name ≡ after_run.table.ghost_name → done.tries ≡ after_run.tries
              → done.table.now ≡ put after_run.table.now (pick.row * engines_of after_run.task.now + next) v → Makes result before Found done
          loop_finds {v = v} e p same_task same_table same_tries is =
              let found = walk-finds l.walk k try more searched e (p ∙ sym (written-piece l.held kind next engine)) in
              record {
                ends = rw (is, same_tries, row_width, ← e) found;
                same_task = same_task ∙ kept_task;
                same_table = same_table ∙ kept_table;
                same_length = ap length is ∙ length-set _ _ _ ∙ kept_length;
              }

          pub loop_halts : outcome ≡ Stopped → Makes result before Stopped after_run
          loop_halts e =
              record {
                ends = rw (← e) (walk_halts l.walk k try more searched e);
                same_task = kept_task;
                same_table = kept_table;
                same_length = kept_length;
              }

          pub loop_goes_on : outcome ≡ None → Loop kind s pick before after_run others
          loop_goes_on e =
              record {
                held = l.held;
                applies = l.applies;
                walk = walk_goes_on l.walk k try more searched e;
                same_task = kept_task;
                same_table = kept_table;
              }

-- what the methods ask
module _ {s : State} {pick : Pick} {before now : Run} {set i others : ℕ} where
  pub loop_lays : Loop laying s pick before now set → IsLeast set i others → pick.rest ≤ at s.amount i → Layable s pick i
  loop_lays l k h =
      record {
        energy = before.task.now.energies.now;
        limit = before.task.now.limits.now;
        kept = l.held.kept;
        picked = l.held.picked;
        one = l.applies;
        engine = walk_open l.walk k;
        enough = h;
      }

  pub loop_cuts : Loop cutting s pick before now set → IsLeast set i others → at s.amount i < pick.rest → Cuttable s pick i
  loop_cuts l k h =
      record {
        energy = before.task.now.energies.now;
        limit = before.task.now.limits.now;
        kept = l.held.kept;
        picked = l.held.picked;
        several = l.applies;
        engine = walk_open l.walk k;
        below = h;
      }
