-- Calls with a file: what is returned and what the lent tables and the output then hold, by evaluation. Row 9 of document 01's
-- table "Turned down" is here, and row 1 for a file above 32,768 bytes.
-- Assumes nothing.
use Rattle.std.specs.Prelude.{◌≡◌, refl, ℕ, ◌+◌, ◌-◌, List, [], ◌∷◌, ◌++◌, replicate, Ok, Err}
use Rattle.rfc4180.specs.Text.{ascii}
use Rattle.planning.specs.declared.Fault.{Fault}
use Rattle.planning.specs.declared.Fault.TheVariants.{Size, Fields, NoEngine, Space}
use Rattle.planning.specs.declared.Outcome.TheVariants.{Found, None, Stopped}
use Rattle.planfile.proofs.Examples.Evaluation.{CallExample, called_all}
use Rattle.planfile.specs.FileCall.{FileCall}

-- "A call with a file is lent exactly" 444 "and 12 numbers": written out, so that evaluation has numerals
abbrev cells : ℕ
cells = 444

abbrev engines : ℕ
engines = 12

-- lent lists of those lengths, filled with a pattern
lent : (file : List ℕ) → (table spare output : ℕ) → FileCall
lent file table spare output =
    record { file = file; table = replicate table 7; spare = replicate spare 8; output = replicate output 9 }

-- the input of document 01's "The planner's print"
unfoldable pub printed_input : List ℕ
printed_input =
    ascii
    "plan,fixed,60,100\r\nengine,E1,3000,1000000000\r\nengine,E2,5000,1000000000\r\ndelivery,D1,5000,2\r\ndelivery,D2,3000,2\r\n"

-- a call that is turned down, at record 0: nothing lent is changed
turned_down : Fault → FileCall → CallExample
turned_down fault call =
    record {
      given = call;
      answer = Err (record { fault = fault; place = 0 });
      table = call.table;
      spare = call.spare;
      output = call.output;
    }

pub calls : List CallExample
unfolding lent printed_input turned_down ascii
calls =
    -- found fills from the front and keeps the others
    record {
      given = lent printed_input cells engines 80;
      answer = Ok (record { outcome = Found; minutes = 60; tries = 2 }, 68);
      table = 3000 ∷ 2000 ∷ 0 ∷ 3000 ∷ replicate (cells - 4) 7;
      spare = 0 ∷ 0 ∷ replicate (engines - 2) 8;
      output = ascii "found,60,2,3\r\npiece,D1,E1,3000\r\npiece,D1,E2,2000\r\npiece,D2,E2,3000\r\n" ++ replicate 12 9;
    }
    -- none and stopped write only the print
    ∷ record {
      given = lent (ascii "plan,fixed,60,100\r\nengine,E1,5,5\r\ndelivery,D1,6,1") cells engines 13;
      answer = Ok (record { outcome = None; minutes = 60; tries = 0 }, 13);
      table = replicate cells 7;
      spare = replicate engines 8;
      output = ascii "none,60,0,0\r\n";
    }
    ∷ record {
      given = lent (ascii "plan,fixed,60,0\r\nengine,E1,5,5\r\ndelivery,D1,5,1") cells engines 20;
      answer = Ok (record { outcome = Stopped; minutes = 60; tries = 0 }, 16);
      table = replicate cells 7;
      spare = replicate engines 8;
      output = ascii "stopped,60,0,0\r\n" ++ replicate 4 9;
    }
    -- 9: 10 bytes lent for a plan's output; one byte too few; none too has to fit
    ∷ turned_down Space (lent printed_input cells engines 10)
    ∷ turned_down Space (lent printed_input cells engines 67)
    ∷ turned_down Space (lent (ascii "plan,fixed,60,100\r\nengine,E1,5,5\r\ndelivery,D1,6,1") cells engines 12)
    -- 9: lent tables of the wrong length
    ∷ turned_down Space (lent printed_input (cells - 1) engines 80)
    ∷ turned_down Space (lent printed_input (cells + 1) engines 80)
    ∷ turned_down Space (lent printed_input 768 engines 80)
    ∷ turned_down Space (lent printed_input 4 2 80)
    ∷ turned_down Space (lent printed_input cells (engines - 1) 80)
    ∷ turned_down Space (lent printed_input cells (engines + 1) 80)
    -- 9 comes after 8
    ∷ turned_down NoEngine (lent (ascii "plan,fixed,60,9") 1 1 0)
    -- 1: a file above 32,768 bytes; one of just as many is read
    ∷ turned_down Size (lent (replicate 32769 0x61) cells engines 80)
    ∷ record {
      given = lent (replicate 32768 0x61) cells engines 80;
      answer = Err (record { fault = Fields; place = 1 });
      table = replicate cells 7;
      spare = replicate engines 8;
      output = replicate 80 9;
    }
    ∷ []

pub calls_hold : called_all calls ≡ calls
unfolding called_all calls
calls_hold = refl
