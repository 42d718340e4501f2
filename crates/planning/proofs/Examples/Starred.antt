-- The starred plans of document 01 ("Plans to try"), as one list, proved in one go from the definitions: answer, minutes,
-- tries, the whole table and the spare of each. Capacities come from watts, fuel and minutes.
-- Assumes nothing.
use Rattle.std.specs.Prelude.{◌≡◌, refl, List, [], ◌∷◌}
use Rattle.planning.specs.declared.Mode.TheVariants.{Fixed, Shortest}
use Rattle.planning.specs.declared.Outcome.TheVariants.{Found, None, Stopped}
use Rattle.planning.proofs.Examples.Evaluation.{Example, evaluated_all, plan, engine, delivery}

pub starred : List Example
unfolding engine delivery plan
starred =
    -- 3000, 5000; 5000/2, 3000/2: found, 2 tries, as printed
    record {
      given = plan Fixed 60 100 (engine 3000 1000000000 ∷ engine 5000 1000000000 ∷ []) (delivery 5000 2 ∷ delivery 3000 2 ∷ []);
      answer = record { outcome = Found; minutes = 60; tries = 2 };
      table = 3000 ∷ 2000 ∷ 0 ∷ 3000 ∷ [];
      spare = 0 ∷ 0 ∷ [];
    }
    -- 3000, 5000; 5000/1, 3000/1: found, 2 tries, crosswise
    ∷ record {
      given = plan Fixed 30 100 (engine 6000 1000000000 ∷ engine 10000 1000000000 ∷ []) (delivery 5000 1 ∷ delivery 3000 1 ∷ []);
      answer = record { outcome = Found; minutes = 30; tries = 2 };
      table = 0 ∷ 5000 ∷ 3000 ∷ 0 ∷ [];
      spare = 0 ∷ 0 ∷ [];
    }
    -- 4000, 4000; 5000/1, 3000/1: none, 0
    ∷ record {
      given = plan Fixed 60 100 (engine 5000 4000 ∷ engine 4000 1000000000 ∷ []) (delivery 5000 1 ∷ delivery 3000 1 ∷ []);
      answer = record { outcome = None; minutes = 60; tries = 0 };
      table = [];
      spare = [];
    }
    -- 4000, 4000; 3000/1, 3000/1, 2000/1: none, 4
    ∷ record {
      given =
          plan Fixed 60 4 (engine 4000 1000000000 ∷ engine 4000 4000 ∷ []) (delivery 3000 1 ∷ delivery 3000 1 ∷ delivery 2000 1 ∷ []);
      answer = record { outcome = None; minutes = 60; tries = 4 };
      table = [];
      spare = [];
    }
    -- allowance 3: stopped, 3
    ∷ record {
      given =
          plan Fixed 60 3 (engine 4000 1000000000 ∷ engine 4000 4000 ∷ []) (delivery 3000 1 ∷ delivery 3000 1 ∷ delivery 2000 1 ∷ []);
      answer = record { outcome = Stopped; minutes = 60; tries = 3 };
      table = [];
      spare = [];
    }
    -- the same with 2000/2: found, 4
    ∷ record {
      given =
          plan Fixed 60 100 (engine 4000 1000000000 ∷ engine 4000 4000 ∷ []) (delivery 3000 1 ∷ delivery 3000 1 ∷ delivery 2000 2 ∷ []);
      answer = record { outcome = Found; minutes = 60; tries = 4 };
      table = 3000 ∷ 0 ∷ 0 ∷ 3000 ∷ 1000 ∷ 1000 ∷ [];
      spare = 0 ∷ 0 ∷ [];
    }
    -- 2000, 2000, 2000; 6000/2: none, 3
    ∷ record {
      given =
          plan Fixed 1 100 (engine 120000 1000000000 ∷ engine 120059 1000000000 ∷ engine 5000000 2000 ∷ []) (delivery 6000 2 ∷ []);
      answer = record { outcome = None; minutes = 1; tries = 3 };
      table = [];
      spare = [];
    }
    -- 4000, 4000; 3000/2, 5000/3: found with allowance 0; second delivery 1000 and 4000
    ∷ record {
      given = plan Fixed 60 0 (engine 4000 4000 ∷ engine 4000 4000 ∷ []) (delivery 3000 2 ∷ delivery 5000 3 ∷ []);
      answer = record { outcome = Found; minutes = 60; tries = 0 };
      table = 3000 ∷ 0 ∷ 1000 ∷ 4000 ∷ [];
      spare = 0 ∷ 0 ∷ [];
    }
    -- 0, 5000; 5000/2: found, 0
    ∷ record {
      given = plan Fixed 1 100 (engine 59 1000000000 ∷ engine 300000 1000000000 ∷ []) (delivery 5000 2 ∷ []);
      answer = record { outcome = Found; minutes = 1; tries = 0 };
      table = 0 ∷ 5000 ∷ [];
      spare = 0 ∷ 0 ∷ [];
    }
    -- no deliveries: found, 0 pieces
    ∷ record {
      given = plan Fixed 60 100 (engine 3000 1000000000 ∷ []) [];
      answer = record { outcome = Found; minutes = 60; tries = 0 };
      table = [];
      spare = 3000 ∷ [];
    }
    -- shortest is 1 minute
    ∷ record {
      given = plan Shortest 60 100 (engine 3000 1000000000 ∷ []) [];
      answer = record { outcome = Found; minutes = 1; tries = 0 };
      table = [];
      spare = 50 ∷ [];
    }
    ∷ []

pub starred_hold : evaluated_all starred ≡ starred
unfolding evaluated_all starred
starred_hold = refl
