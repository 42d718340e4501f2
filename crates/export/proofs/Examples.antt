-- Calls on numbers with the mode as a number: what is returned and what the lent table and spare list then hold, by evaluation.
-- Assumes nothing.
use Rattle.std.specs.Prelude.{◌≡◌, refl, ℕ, replicate}
use mathlib.Core.List.{List, [], ◌∷◌, map, zip_with}
use Rattle.planning.proofs.Examples.Evaluation.{evaluated}
use Rattle.planning.specs.Numbers.{Call, quiet_of, engines_of, deliveries_of, plan_of, within, engine_fault, delivery_fault, quiet_fault}
use Rattle.planning.specs.Numbers.{check_quiet, refusal_of, answered_by as answer_by, allocation, unless_refused, table_on_exit, spare_on_exit, call_on}
use Rattle.planning.specs.Quiet.{spans_of, clear, clear_of, fits}
use Rattle.planning.specs.Refusals.{fault_number, check, ◌then◌, check_each}
use Rattle.export.specs.declared.PlanReply.{PlanReply}
use Rattle.export.specs.Numbers.{is_mode, mode_of, no_mode, before_mode, without_mode, allocation_by, table_by, spare_by}
use Rattle.export.specs.Replies.{word_of, answered_by, refused_by, reply_of}

-- a mode and a call in it, with what is returned and what is then in the lent lists
pub record Example : Type 0 where
  pub mode : ℕ
  pub call : Call
  pub reply : PlanReply
  pub table : List ℕ
  pub spare : List ℕ

-- what the definitions make of a mode and a call
pub called : Example → Example
unfolding evaluated quiet_of engines_of deliveries_of plan_of within engine_fault delivery_fault spans_of clear clear_of fits quiet_fault
    check_quiet refusal_of answer_by allocation unless_refused table_on_exit spare_on_exit fault_number check ◌then◌ check_each zip_with
    is_mode no_mode before_mode without_mode allocation_by table_by spare_by word_of answered_by refused_by reply_of
called e =
    record {
      mode = e.mode;
      call = e.call;
      reply = reply_of (allocation_by e.mode e.call);
      table = table_by e.mode e.call;
      spare = spare_by e.mode e.call;
    }

-- engines of 3,000 and 5,000 Wh in an hour, and deliveries of 5,000 and 3,000 Wh
quiet_site : (mode minutes : ℕ) → (fuels limits quiet : List ℕ) → (table : ℕ) → Call
quiet_site mode minutes fuels limits quiet table =
    call_on (mode_of mode) minutes 100 (3000 ∷ 5000 ∷ []) fuels (5000 ∷ 3000 ∷ []) limits quiet (replicate table 7) (8 ∷ 8 ∷ [])

site : (mode minutes : ℕ) → (fuels limits : List ℕ) → (table : ℕ) → Call
unfolding quiet_site
site mode minutes fuels limits table = quiet_site mode minutes fuels limits [] table

hour : (mode : ℕ) → Call
hour mode = site mode 60 (9000 ∷ 9000 ∷ []) (2 ∷ 2 ∷ []) 4

turned_down : (mode number place : ℕ) → Call → Example
turned_down mode number place call =
    record {
      mode = mode;
      call = call;
      reply = record { word = 3; minutes = 0; tries = 0; length = 0; number = number; place = place };
      table = call.table;
      spare = call.spare;
    }

pub examples : List Example
unfolding mode_of quiet_site site hour turned_down
examples =
    -- 0 is fixed, 1 shortest
    record {
      mode = 0;
      call = site 0 120 (9000 ∷ 9000 ∷ []) (2 ∷ 2 ∷ []) 4;
      reply = record { word = 0; minutes = 120; tries = 0; length = 0; number = 0; place = 0 };
      table = 5000 ∷ 0 ∷ 1000 ∷ 2000 ∷ [];
      spare = 0 ∷ 7000 ∷ [];
    }
    ∷ record {
      mode = 1;
      call = site 1 120 (9000 ∷ 9000 ∷ []) (2 ∷ 2 ∷ []) 4;
      reply = record { word = 0; minutes = 60; tries = 2; length = 0; number = 0; place = 0 };
      table = 3000 ∷ 2000 ∷ 0 ∷ 3000 ∷ [];
      spare = 0 ∷ 0 ∷ [];
    }
    -- with an hour in which the first engine is quiet
    ∷ record {
      mode = 1;
      call = quiet_site 1 240 (9000 ∷ 9000 ∷ []) (2 ∷ 2 ∷ []) (1 ∷ 0 ∷ 60 ∷ []) 4;
      reply = record { word = 0; minutes = 83; tries = 2; length = 0; number = 0; place = 0 };
      table = 1150 ∷ 3850 ∷ 0 ∷ 3000 ∷ [];
      spare = 0 ∷ 66 ∷ [];
    }
    -- any other number is refused by 6 at place 1, whatever else is out of range
    ∷ turned_down 2 6 1 (hour 2)
    ∷ turned_down 18446744073709551615 6 1 (hour 2)
    ∷ turned_down 2 6 1 (site 2 0 (9000 ∷ 9000 ∷ []) (2 ∷ 2 ∷ []) 4)
    ∷ turned_down 2 6 1 (site 2 60 (9000 ∷ 9000 ∷ []) (2 ∷ 13 ∷ []) 4)
    ∷ turned_down 1 6 5 (site 1 60 (9000 ∷ 9000 ∷ []) (2 ∷ 13 ∷ []) 4)
    -- before 10 and 11 of a quiet span, which have place 0
    ∷ turned_down 2 6 1 (quiet_site 2 60 (9000 ∷ 9000 ∷ []) (2 ∷ 2 ∷ []) (3 ∷ 0 ∷ 5 ∷ []) 4)
    ∷ turned_down 0 10 0 (quiet_site 0 60 (9000 ∷ 9000 ∷ []) (2 ∷ 2 ∷ []) (3 ∷ 0 ∷ 5 ∷ []) 4)
    ∷ turned_down 2 6 1 (quiet_site 2 60 (9000 ∷ 9000 ∷ []) (2 ∷ 2 ∷ []) (1 ∷ 5 ∷ 5 ∷ []) 4)
    ∷ turned_down 1 11 0 (quiet_site 1 60 (9000 ∷ 9000 ∷ []) (2 ∷ 2 ∷ []) (1 ∷ 5 ∷ 5 ∷ []) 4)
    -- but 3, 8, 7 and 9 come first
    ∷ turned_down 2 3 0 (site 2 60 (9000 ∷ []) (2 ∷ 2 ∷ []) 4)
    ∷ turned_down 2 3 0 (quiet_site 2 60 (9000 ∷ 9000 ∷ []) (2 ∷ 2 ∷ []) (1 ∷ 5 ∷ []) 4)
    ∷ turned_down 2 8 0 (call_on (mode_of 2) 60 100 [] [] [] [] [] [] [])
    ∷ turned_down 2 7 0 (call_on (mode_of 2) 60 100 (replicate 13 1) (replicate 13 1) [] [] [] [] (replicate 13 8))
    ∷ turned_down 2 9 0 (site 2 60 (9000 ∷ 9000 ∷ []) (2 ∷ 2 ∷ []) 3)
    ∷ []

pub examples_hold : map called examples ≡ examples
unfolding called examples
examples_hold = refl
