-- Plans that tell document 01's search from searches that the starred plans do not notice, evaluated as those are.
-- Assumes nothing.
use Rattle.std.specs.Prelude.{◌≡◌, refl, ℕ, List, [], ◌∷◌}
use Rattle.planning.specs.declared.Mode.TheVariants.{Fixed, Shortest}
use Rattle.planning.specs.declared.Outcome.TheVariants.{Found, None, Stopped}
use Rattle.planning.proofs.Examples.Evaluation.{Example, evaluated_all, plan, engine, delivery}
use Rattle.planning.specs.Plan.{Engine}

-- an engine with that capacity in 60 minutes
holds : ℕ → Engine
holds c = engine c 1000000000

pub discerning : List Example
unfolding engine delivery plan holds
discerning =
    -- bulk by whole division: 3/3 is bulkier than 1/2
    record {
      given = plan Fixed 60 100 (holds 1 ∷ holds 3 ∷ []) (delivery 1 2 ∷ delivery 3 3 ∷ []);
      answer = record { outcome = Found; minutes = 60; tries = 1 };
      table = 0 ∷ 1 ∷ 1 ∷ 2 ∷ [];
      spare = 0 ∷ 0 ∷ [];
    }
    -- limit 1 by the larger rest, not in file order
    ∷ record {
      given = plan Fixed 60 100 (holds 2 ∷ holds 1 ∷ []) (delivery 1 1 ∷ delivery 2 1 ∷ []);
      answer = record { outcome = Found; minutes = 60; tries = 2 };
      table = 0 ∷ 1 ∷ 2 ∷ 0 ∷ [];
      spare = 0 ∷ 0 ∷ [];
    }
    -- F cuts only where the remaining is below the rest
    ∷ record {
      given = plan Fixed 60 100 (holds 2 ∷ holds 1 ∷ []) (delivery 2 2 ∷ []);
      answer = record { outcome = Found; minutes = 60; tries = 2 };
      table = 1 ∷ 1 ∷ [];
      spare = 1 ∷ 0 ∷ [];
    }
    -- equal bulk goes to the earlier
    ∷ record {
      given = plan Fixed 60 100 (holds 1 ∷ holds 3 ∷ []) (delivery 2 2 ∷ delivery 2 2 ∷ []);
      answer = record { outcome = Found; minutes = 60; tries = 2 };
      table = 1 ∷ 1 ∷ 0 ∷ 2 ∷ [];
      spare = 0 ∷ 0 ∷ [];
    }
    -- backing up restores the limit as well as the rest
    ∷ record {
      given = plan Fixed 60 100 (holds 1 ∷ holds 2 ∷ holds 2 ∷ []) (delivery 4 2 ∷ []);
      answer = record { outcome = Found; minutes = 60; tries = 3 };
      table = 0 ∷ 2 ∷ 2 ∷ [];
      spare = 1 ∷ 0 ∷ 0 ∷ [];
    }
    -- an engine with nothing remaining is closed
    ∷ record {
      given = plan Fixed 60 100 (holds 0 ∷ holds 1 ∷ holds 1 ∷ []) (delivery 2 2 ∷ []);
      answer = record { outcome = Found; minutes = 60; tries = 2 };
      table = 0 ∷ 1 ∷ 1 ∷ [];
      spare = 0 ∷ 0 ∷ 0 ∷ [];
    }
    -- E compares by at most
    ∷ record {
      given = plan Fixed 60 100 (holds 1 ∷ holds 7 ∷ []) (delivery 4 2 ∷ delivery 4 2 ∷ []);
      answer = record { outcome = Found; minutes = 60; tries = 2 };
      table = 1 ∷ 3 ∷ 0 ∷ 4 ∷ [];
      spare = 0 ∷ 0 ∷ [];
    }
    -- none with just the allowance is none
    ∷ record {
      given = plan Fixed 60 3 (holds 2000 ∷ holds 2000 ∷ holds 2000 ∷ []) (delivery 6000 2 ∷ []);
      answer = record { outcome = None; minutes = 60; tries = 3 };
      table = [];
      spare = [];
    }
    -- the printed input as shortest, 120 minutes
    ∷ record {
      given = plan Shortest 120 100 (holds 3000 ∷ holds 5000 ∷ []) (delivery 5000 2 ∷ delivery 3000 2 ∷ []);
      answer = record { outcome = Found; minutes = 60; tries = 2 };
      table = 3000 ∷ 2000 ∷ 0 ∷ 3000 ∷ [];
      spare = 0 ∷ 0 ∷ [];
    }
    -- shortest stops at a T where a search needs more tries
    ∷ record {
      given = plan Shortest 60 1 (engine 8 7 ∷ engine 6 5 ∷ []) (delivery 3 1 ∷ delivery 3 2 ∷ []);
      answer = record { outcome = Stopped; minutes = 30; tries = 1 };
      table = [];
      spare = [];
    }
    -- the reported tries are those of the search at high
    ∷ record {
      given = plan Shortest 30 1 (engine 18 8 ∷ engine 10 4 ∷ []) (delivery 7 3 ∷ delivery 1 2 ∷ []);
      answer = record { outcome = Found; minutes = 18; tries = 1 };
      table = 5 ∷ 2 ∷ 0 ∷ 1 ∷ [];
      spare = 0 ∷ 0 ∷ [];
    }
    -- the middle of low and high is rounded down
    ∷ record {
      given = plan Shortest 61 0 (engine 2 3 ∷ engine 5 1000000000 ∷ []) (delivery 4 3 ∷ delivery 1 3 ∷ []);
      answer = record { outcome = Stopped; minutes = 53; tries = 0 };
      table = [];
      spare = [];
    }
    -- none under shortest carries MINUTES
    ∷ record {
      given = plan Shortest 61 5 (engine 60 1 ∷ []) (delivery 2 1 ∷ []);
      answer = record { outcome = None; minutes = 61; tries = 0 };
      table = [];
      spare = [];
    }
    -- equal engines are all tried
    ∷ record {
      given = plan Shortest 61 5 (engine 2 2 ∷ engine 7 1000000000 ∷ engine 3 4 ∷ []) (delivery 4 1 ∷ delivery 7 2 ∷ []);
      answer = record { outcome = None; minutes = 61; tries = 4 };
      table = [];
      spare = [];
    }
    -- straight fill goes in file order, not the bulkiest first
    ∷ record {
      given = plan Fixed 60 0 (holds 4 ∷ holds 4 ∷ []) (delivery 2 3 ∷ delivery 4 2 ∷ []);
      answer = record { outcome = Found; minutes = 60; tries = 0 };
      table = 2 ∷ 0 ∷ 2 ∷ 2 ∷ [];
      spare = 0 ∷ 2 ∷ [];
    }
    -- D tries engines in file order, not the one with the most remaining
    ∷ record {
      given = plan Fixed 60 100 (holds 2 ∷ holds 3 ∷ []) (delivery 1 1 ∷ []);
      answer = record { outcome = Found; minutes = 60; tries = 1 };
      table = 1 ∷ 0 ∷ [];
      spare = 1 ∷ 3 ∷ [];
    }
    -- "59 watts for 1 minute give 0; 60 give 1."
    ∷ record {
      given = plan Fixed 1 9 (engine 59 9 ∷ engine 60 9 ∷ []) [];
      answer = record { outcome = Found; minutes = 1; tries = 0 };
      table = [];
      spare = 0 ∷ 1 ∷ [];
    }
    ∷ []

pub discerning_hold : evaluated_all discerning ≡ discerning
unfolding evaluated_all discerning
discerning_hold = refl
