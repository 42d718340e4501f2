-- Calls of the allocation on numbers: what is returned and what the lent table and spare list then hold, by evaluation.
-- Assumes nothing.
use Rattle.std.specs.Prelude.{◌≡◌, refl, ℕ, replicate, Result, Ok, Err}
use mathlib.Core.List.{List, [], ◌∷◌, map, zip_with}
use Rattle.planning.specs.declared.Answer.{Answer}
use Rattle.planning.specs.declared.Fault.{Fault}
use Rattle.planning.specs.declared.Fault.TheVariants.{Fields, Value, Count, NoEngine, Space}
use Rattle.planning.specs.declared.Mode.{Mode}
use Rattle.planning.specs.declared.Mode.TheVariants.{Fixed, Shortest}
use Rattle.planning.specs.declared.Outcome.TheVariants.{Found, None, Stopped}
use Rattle.planning.specs.declared.Refusal.{Refusal}
use Rattle.planning.proofs.Examples.Evaluation.{evaluated}
use Rattle.planning.specs.Numbers.{Call, call_on, quiet_of, engines_of, deliveries_of, plan_of, within, engine_fault, delivery_fault, quiet_fault}
use Rattle.planning.specs.Numbers.{check_quiet, refusal_of}
use Rattle.planning.specs.Numbers.{answered_by, allocation, unless_refused, table_on_exit, spare_on_exit}
use Rattle.planning.specs.Quiet.{spans_of, clear, clear_of, fits}
use Rattle.planning.specs.Refusals.{check, ◌then◌, check_each}

-- a call with quiet spans, or without, that is lent a table and a spare list of those lengths, each filled with a pattern
unfoldable pub quiet_call : Mode → (minutes allowance : ℕ) → (watts fuels energies limits quiet : List ℕ) → (table spare : ℕ) → Call
quiet_call mode minutes allowance watts fuels energies limits quiet table spare =
    call_on mode minutes allowance watts fuels energies limits quiet (replicate table 7) (replicate spare 8)

call : Mode → (minutes allowance : ℕ) → (watts fuels energies limits : List ℕ) → (table spare : ℕ) → Call
unfolding quiet_call
call mode minutes allowance watts fuels energies limits table spare = quiet_call mode minutes allowance watts fuels energies limits [] table spare

-- a call with what it returns and what is then in the lent lists
pub record CallExample : Type 0 where
  pub given : Call
  pub answer : Result Answer Refusal
  pub table : List ℕ
  pub spare : List ℕ

-- a call that is turned down: nothing lent is changed
unfoldable pub turned_down : Fault → (place : ℕ) → Call → CallExample
turned_down fault place given =
    record {
      given = given;
      answer = Err (record { fault = fault; place = place });
      table = given.table;
      spare = given.spare;
    }

-- what the definitions make of a call
unfoldable pub called : Call → CallExample
unfolding evaluated quiet_of engines_of deliveries_of plan_of within engine_fault delivery_fault spans_of clear clear_of fits quiet_fault check_quiet
    refusal_of answered_by allocation unless_refused table_on_exit spare_on_exit check ◌then◌ check_each zip_with
called given = record { given = given; answer = allocation given; table = table_on_exit given; spare = spare_on_exit given }

pub calls : List CallExample
unfolding call turned_down
calls =
    -- found writes every cell, 0 where nothing is drawn
    record {
      given = call Fixed 60 100 (3000 ∷ 5000 ∷ []) (1000000000 ∷ 1000000000 ∷ []) (5000 ∷ 3000 ∷ []) (2 ∷ 2 ∷ []) 4 2;
      answer = Ok (record { outcome = Found; minutes = 60; tries = 2 });
      table = 3000 ∷ 2000 ∷ 0 ∷ 3000 ∷ [];
      spare = 0 ∷ 0 ∷ [];
    }
    -- none and stopped write nothing
    ∷ record {
      given = call Fixed 60 100 (3000 ∷ 5000 ∷ []) (1000000000 ∷ 1000000000 ∷ []) (9000 ∷ []) (2 ∷ []) 2 2;
      answer = Ok (record { outcome = None; minutes = 60; tries = 0 });
      table = replicate 2 7;
      spare = replicate 2 8;
    }
    ∷ record {
      given = call Fixed 60 1 (3000 ∷ 5000 ∷ []) (1000000000 ∷ 1000000000 ∷ []) (5000 ∷ 3000 ∷ []) (2 ∷ 2 ∷ []) 4 2;
      answer = Ok (record { outcome = Stopped; minutes = 60; tries = 1 });
      table = replicate 4 7;
      spare = replicate 2 8;
    }
    -- a stop after a found probe writes nothing
    ∷ record {
      given = call Shortest 60 1 (8 ∷ 6 ∷ []) (7 ∷ 5 ∷ []) (3 ∷ 3 ∷ []) (1 ∷ 2 ∷ []) 4 2;
      answer = Ok (record { outcome = Stopped; minutes = 30; tries = 1 });
      table = replicate 4 7;
      spare = replicate 2 8;
    }
    -- no deliveries: a table of length 0
    ∷ record {
      given = call Shortest 60 0 (3000 ∷ []) (1000000000 ∷ []) ([]) ([]) 0 1;
      answer = Ok (record { outcome = Found; minutes = 1; tries = 0 });
      table = [];
      spare = 50 ∷ [];
    }
    -- "37 are accepted"
    ∷ record {
      given = call Fixed 60 0 (40 ∷ []) (1000 ∷ []) (replicate 37 1) (replicate 37 2) 37 1;
      answer = Ok (record { outcome = Found; minutes = 60; tries = 0 });
      table = replicate 37 1;
      spare = 3 ∷ [];
    }
    -- 3: paired lists differ in length
    ∷ turned_down Fields 0 (call Fixed 60 100 (3000 ∷ 5000 ∷ []) (1 ∷ []) (5000 ∷ 3000 ∷ []) (2 ∷ 2 ∷ []) 4 2)
    ∷ turned_down Fields 0 (call Fixed 60 100 (3000 ∷ 5000 ∷ []) (1000000000 ∷ 1000000000 ∷ []) (5000 ∷ 3000 ∷ []) (1 ∷ 2 ∷ 3 ∷ []) 4 2)
    -- 8: no engine
    ∷ turned_down NoEngine 0 (call Fixed 60 100 ([]) ([]) ([]) ([]) 0 0)
    -- 7: a 13th engine, a 38th delivery
    ∷ turned_down Count 0 (call Fixed 60 100 (replicate 13 1) (replicate 13 1) ([]) ([]) 0 13)
    ∷ turned_down Count 0 (call Fixed 60 100 (1 ∷ []) (1 ∷ []) (replicate 38 1) (replicate 38 1) 38 1)
    -- 9: a lent table or spare list of the wrong length; 444 is for a file
    ∷ turned_down Space 0 (call Fixed 60 100 (3000 ∷ 5000 ∷ []) (1000000000 ∷ 1000000000 ∷ []) (5000 ∷ 3000 ∷ []) (2 ∷ 2 ∷ []) 3 2)
    ∷ turned_down Space 0 (call Fixed 60 100 (3000 ∷ 5000 ∷ []) (1000000000 ∷ 1000000000 ∷ []) (5000 ∷ 3000 ∷ []) (2 ∷ 2 ∷ []) 444 2)
    ∷ turned_down Space 0 (call Fixed 60 100 (3000 ∷ 5000 ∷ []) (1000000000 ∷ 1000000000 ∷ []) (5000 ∷ 3000 ∷ []) (2 ∷ 2 ∷ []) 4 3)
    -- 6, with the record number where plan is first, engines, then deliveries
    ∷ turned_down Value 1 (call Fixed 0 100 (3000 ∷ 5000 ∷ []) (1000000000 ∷ 1000000000 ∷ []) (5000 ∷ 3000 ∷ []) (2 ∷ 2 ∷ []) 4 2)
    ∷ turned_down Value 1 (call Fixed 10081 100 (3000 ∷ 5000 ∷ []) (1000000000 ∷ 1000000000 ∷ []) (5000 ∷ 3000 ∷ []) (2 ∷ 2 ∷ []) 4 2)
    ∷ turned_down Value 1 (call Fixed 60 1000000001 (3000 ∷ 5000 ∷ []) (1000000000 ∷ 1000000000 ∷ []) (5000 ∷ 3000 ∷ []) (2 ∷ 2 ∷ []) 4 2)
    ∷ turned_down Value 2 (call Fixed 60 100 (5000001 ∷ 5000 ∷ []) (1000000000 ∷ 1000000000 ∷ []) (5000 ∷ 3000 ∷ []) (2 ∷ 2 ∷ []) 4 2)
    ∷ turned_down Value 3 (call Fixed 60 100 (3000 ∷ 5000 ∷ []) (0 ∷ 1000000001 ∷ []) (5000 ∷ 3000 ∷ []) (2 ∷ 2 ∷ []) 4 2)
    ∷ turned_down Value 4 (call Fixed 60 100 (3000 ∷ 5000 ∷ []) (1000000000 ∷ 1000000000 ∷ []) (0 ∷ 3000 ∷ []) (2 ∷ 2 ∷ []) 4 2)
    ∷ turned_down Value 5 (call Fixed 60 100 (3000 ∷ 5000 ∷ []) (1000000000 ∷ 1000000000 ∷ []) (5000 ∷ 3000 ∷ []) (2 ∷ 13 ∷ []) 4 2)
    ∷ turned_down Value 5 (call Fixed 60 100 (3000 ∷ 5000 ∷ []) (1000000000 ∷ 1000000000 ∷ []) (5000 ∷ 18446744073709551615 ∷ []) (2 ∷ 2 ∷ []) 4 2)
    -- 3 before 8, 8 before 7, 7 before 9, 9 before 6; and 6 by the place in front
    ∷ turned_down Fields 0 (call Fixed 60 100 ([]) (1 ∷ []) ([]) ([]) 0 0)
    ∷ turned_down NoEngine 0 (call Fixed 60 100 ([]) ([]) (replicate 38 1) (replicate 38 1) 1 1)
    ∷ turned_down Count 0 (call Fixed 60 100 (replicate 13 1) (replicate 13 1) ([]) ([]) 1 1)
    ∷ turned_down Space 0 (call Fixed 0 100 (3000 ∷ 5000 ∷ []) (1000000000 ∷ 1000000000 ∷ []) (5000 ∷ 3000 ∷ []) (2 ∷ 2 ∷ []) 3 2)
    ∷ turned_down Value 2 (call Fixed 60 100 (5000001 ∷ 5000 ∷ []) (1 ∷ 1000000001 ∷ []) (0 ∷ 0 ∷ []) (0 ∷ 0 ∷ []) 4 2)
    ∷ []

pub calls_hold : map (λ (e : CallExample). called e.given) calls ≡ calls
unfolding called calls
calls_hold = refl
