-- Quiet hours (document 02, K1) on numbers: calls with spans, what is returned and what the lent table and spare list then hold, by evaluation.
-- Assumes nothing.
use Rattle.std.specs.Prelude.{◌≡◌, refl, ℕ, List, [], ◌∷◌, ◌++◌, map, replicate, Ok}
use Rattle.planning.specs.declared.Fault.TheVariants.{Fields, Value, UnknownEngine, QuietSpan}
use Rattle.planning.specs.declared.Mode.TheVariants.{Fixed, Shortest}
use Rattle.planning.specs.declared.Outcome.TheVariants.{Found, None}
use Rattle.planning.specs.Numbers.{Call}
use Rattle.planning.proofs.Examples.Calls.{CallExample, quiet_call, turned_down, called}

-- two engines of 60 W with fuel enough, and one delivery of 1 Wh, with those quiet spans
with_spans : List ℕ → Call
unfolding quiet_call
with_spans quiet = quiet_call Fixed 60 100 (60 ∷ 60 ∷ []) (1000000000 ∷ 1000000000 ∷ []) (1 ∷ []) (1 ∷ []) quiet 2 2

-- as many spans of engine 1 as it may have
abbrev eight_spans : List ℕ
eight_spans = 1 ∷ 0 ∷ 1 ∷ 1 ∷ 2 ∷ 3 ∷ 1 ∷ 4 ∷ 5 ∷ 1 ∷ 6 ∷ 7 ∷ 1 ∷ 8 ∷ 9 ∷ 1 ∷ 10 ∷ 11 ∷ 1 ∷ 12 ∷ 13 ∷ 1 ∷ 14 ∷ 15 ∷ []

pub quiet-calls : List CallExample
unfolding quiet_call with_spans turned_down
quiet-calls =
    -- "FROM included and TO excluded": minutes 0 to 29 are quiet, 30 to 59 run
    record {
      given = quiet_call Fixed 60 100 (60 ∷ []) (1000000000 ∷ []) (30 ∷ []) (1 ∷ []) (1 ∷ 0 ∷ 30 ∷ []) 1 1;
      answer = Ok (record { outcome = Found; minutes = 60; tries = 1 });
      table = (30 ∷ []);
      spare = (0 ∷ []);
    }
    ∷ record {
      given = quiet_call Fixed 60 100 (60 ∷ []) (1000000000 ∷ []) (31 ∷ []) (1 ∷ []) (1 ∷ 0 ∷ 30 ∷ []) 1 1;
      answer = Ok (record { outcome = None; minutes = 60; tries = 0 });
      table = replicate 1 7;
      spare = replicate 1 8;
    }
    -- the last minute alone
    ∷ record {
      given = quiet_call Fixed 60 100 (60 ∷ []) (1000000000 ∷ []) (59 ∷ []) (1 ∷ []) (1 ∷ 59 ∷ 60 ∷ []) 1 1;
      answer = Ok (record { outcome = Found; minutes = 60; tries = 1 });
      table = (59 ∷ []);
      spare = (0 ∷ []);
    }
    ∷ record {
      given = quiet_call Fixed 60 100 (60 ∷ []) (1000000000 ∷ []) (60 ∷ []) (1 ∷ []) (1 ∷ 59 ∷ 60 ∷ []) 1 1;
      answer = Ok (record { outcome = None; minutes = 60; tries = 0 });
      table = replicate 1 7;
      spare = replicate 1 8;
    }
    -- only "the minutes before T": a span that begins at T, and one across it
    ∷ record {
      given = quiet_call Fixed 60 100 (60 ∷ []) (1000000000 ∷ []) (60 ∷ []) (1 ∷ []) (1 ∷ 60 ∷ 90 ∷ []) 1 1;
      answer = Ok (record { outcome = Found; minutes = 60; tries = 1 });
      table = (60 ∷ []);
      spare = (0 ∷ []);
    }
    ∷ record {
      given = quiet_call Fixed 60 100 (60 ∷ []) (1000000000 ∷ []) (50 ∷ []) (1 ∷ []) (1 ∷ 50 ∷ 70 ∷ []) 1 1;
      answer = Ok (record { outcome = Found; minutes = 60; tries = 1 });
      table = (50 ∷ []);
      spare = (0 ∷ []);
    }
    ∷ record {
      given = quiet_call Fixed 60 100 (60 ∷ []) (1000000000 ∷ []) (51 ∷ []) (1 ∷ []) (1 ∷ 50 ∷ 70 ∷ []) 1 1;
      answer = Ok (record { outcome = None; minutes = 60; tries = 0 });
      table = replicate 1 7;
      spare = replicate 1 8;
    }
    -- "Touching spans are fine."
    ∷ record {
      given = quiet_call Fixed 60 100 (60 ∷ []) (1000000000 ∷ []) (40 ∷ []) (1 ∷ []) (1 ∷ 10 ∷ 20 ∷ 1 ∷ 0 ∷ 10 ∷ []) 1 1;
      answer = Ok (record { outcome = Found; minutes = 60; tries = 1 });
      table = (40 ∷ []);
      spare = (0 ∷ []);
    }
    -- the smaller of FUEL and what the running minutes give, rounded down once
    ∷ record {
      given = quiet_call Fixed 60 100 (59 ∷ []) (1000000000 ∷ []) (29 ∷ []) (1 ∷ []) (1 ∷ 0 ∷ 30 ∷ []) 1 1;
      answer = Ok (record { outcome = Found; minutes = 60; tries = 1 });
      table = (29 ∷ []);
      spare = (0 ∷ []);
    }
    ∷ record {
      given = quiet_call Fixed 60 100 (60 ∷ []) (20 ∷ []) (10 ∷ []) (1 ∷ []) (1 ∷ 0 ∷ 30 ∷ []) 1 1;
      answer = Ok (record { outcome = Found; minutes = 60; tries = 1 });
      table = (10 ∷ []);
      spare = (10 ∷ []);
    }
    -- an engine wholly quiet is closed, and another one's spans are its own
    ∷ record {
      given = quiet_call Fixed 60 100 (60 ∷ 60 ∷ []) (1000000000 ∷ 1000000000 ∷ []) (60 ∷ []) (2 ∷ []) (1 ∷ 0 ∷ 10080 ∷ []) 2 2;
      answer = Ok (record { outcome = Found; minutes = 60; tries = 0 });
      table = (0 ∷ 60 ∷ []);
      spare = (0 ∷ 0 ∷ []);
    }
    ∷ record {
      given = quiet_call Fixed 60 100 (60 ∷ 60 ∷ []) (1000000000 ∷ 1000000000 ∷ []) (60 ∷ []) (2 ∷ []) (2 ∷ 0 ∷ 10080 ∷ []) 2 2;
      answer = Ok (record { outcome = Found; minutes = 60; tries = 0 });
      table = (60 ∷ 0 ∷ []);
      spare = (0 ∷ 0 ∷ []);
    }
    ∷ record {
      given = quiet_call Fixed 60 100 (60 ∷ []) (1000000000 ∷ []) (1 ∷ []) (1 ∷ []) (1 ∷ 0 ∷ 20 ∷ 1 ∷ 20 ∷ 60 ∷ []) 1 1;
      answer = Ok (record { outcome = None; minutes = 60; tries = 0 });
      table = replicate 1 7;
      spare = replicate 1 8;
    }
    -- "The shortest time must still be the least over clock minutes": before a span, just behind it, and in one engine's span while
    -- another runs
    ∷ record {
      given = quiet_call Shortest 20 100 (60 ∷ []) (1000000000 ∷ []) (5 ∷ []) (1 ∷ []) (1 ∷ 5 ∷ 10 ∷ []) 1 1;
      answer = Ok (record { outcome = Found; minutes = 5; tries = 1 });
      table = (5 ∷ []);
      spare = (0 ∷ []);
    }
    ∷ record {
      given = quiet_call Shortest 20 100 (60 ∷ []) (1000000000 ∷ []) (6 ∷ []) (1 ∷ []) (1 ∷ 5 ∷ 10 ∷ []) 1 1;
      answer = Ok (record { outcome = Found; minutes = 11; tries = 1 });
      table = (6 ∷ []);
      spare = (0 ∷ []);
    }
    ∷ record {
      given = quiet_call Shortest 20 100 (60 ∷ 60 ∷ []) (1000000000 ∷ 1000000000 ∷ []) (3 ∷ []) (2 ∷ []) (1 ∷ 0 ∷ 10 ∷ []) 2 2;
      answer = Ok (record { outcome = Found; minutes = 3; tries = 0 });
      table = (0 ∷ 3 ∷ []);
      spare = (0 ∷ 0 ∷ []);
    }
    -- "at most eight spans an engine": eight of one, and one of the other
    ∷ record {
      given = with_spans (eight_spans ++ 2 ∷ 0 ∷ 1 ∷ []);
      answer = Ok (record { outcome = Found; minutes = 60; tries = 1 });
      table = (1 ∷ 0 ∷ []);
      spare = (51 ∷ 59 ∷ []);
    }
    -- 3: "a length that isn't a multiple of three"
    ∷ turned_down Fields 0 (with_spans (1 ∷ []))
    ∷ turned_down Fields 0 (with_spans (1 ∷ 0 ∷ []))
    ∷ turned_down Fields 0 (with_spans (1 ∷ 0 ∷ 5 ∷ 1 ∷ []))
    -- 6: FROM, then TO, above 10,080
    ∷ turned_down Value 0 (with_spans (1 ∷ 10081 ∷ 10081 ∷ []))
    ∷ turned_down Value 0 (with_spans (1 ∷ 0 ∷ 10081 ∷ []))
    -- 10: "no such engine"
    ∷ turned_down UnknownEngine 0 (with_spans (0 ∷ 0 ∷ 5 ∷ []))
    ∷ turned_down UnknownEngine 0 (with_spans (3 ∷ 0 ∷ 5 ∷ []))
    -- 11: "FROM is not below TO"
    ∷ turned_down QuietSpan 0 (with_spans (1 ∷ 5 ∷ 5 ∷ []))
    ∷ turned_down QuietSpan 0 (with_spans (1 ∷ 6 ∷ 5 ∷ []))
    ∷ turned_down QuietSpan 0 (with_spans (1 ∷ 10080 ∷ 10080 ∷ []))
    -- "the span overlaps an earlier one of that engine", not the last one alone: the same, nested, around, by a minute
    ∷ turned_down QuietSpan 0 (with_spans (1 ∷ 5 ∷ 9 ∷ 1 ∷ 5 ∷ 9 ∷ []))
    ∷ turned_down QuietSpan 0 (with_spans (1 ∷ 0 ∷ 10 ∷ 1 ∷ 20 ∷ 30 ∷ 1 ∷ 4 ∷ 6 ∷ []))
    ∷ turned_down QuietSpan 0 (with_spans (1 ∷ 4 ∷ 6 ∷ 2 ∷ 0 ∷ 10 ∷ 1 ∷ 0 ∷ 10 ∷ []))
    ∷ turned_down QuietSpan 0 (with_spans (1 ∷ 0 ∷ 10 ∷ 1 ∷ 9 ∷ 12 ∷ []))
    ∷ turned_down QuietSpan 0 (with_spans (1 ∷ 9 ∷ 12 ∷ 1 ∷ 0 ∷ 10 ∷ []))
    -- "or it is the ninth"
    ∷ turned_down QuietSpan 0 (with_spans (eight_spans ++ 1 ∷ 16 ∷ 17 ∷ []))
    -- 6 before 10, 10 before 11
    ∷ turned_down Value 0 (with_spans (9 ∷ 0 ∷ 10081 ∷ []))
    ∷ turned_down UnknownEngine 0 (with_spans (9 ∷ 5 ∷ 5 ∷ []))
    -- "span by span": 11 of the first before 6 of the second
    ∷ turned_down QuietSpan 0 (with_spans (1 ∷ 5 ∷ 5 ∷ 1 ∷ 0 ∷ 10081 ∷ []))
    -- "checked last": behind the deliveries' 6, which has its place
    ∷ turned_down Value 4 (quiet_call Fixed 60 100 (60 ∷ 60 ∷ []) (1000000000 ∷ 1000000000 ∷ []) (0 ∷ []) (1 ∷ []) (9 ∷ 5 ∷ 5 ∷ []) 2 2)
    -- 3 before 8
    ∷ turned_down Fields 0 (quiet_call Fixed 60 100 [] [] [] [] (1 ∷ []) 0 0)
    ∷ []

pub quiet-calls_hold : map (λ (e : CallExample). called e.given) quiet-calls ≡ quiet-calls
unfolding called with_spans quiet-calls
quiet-calls_hold = refl
