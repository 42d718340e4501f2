-- The file that is written of the plan in document 01's "The planner's print" is the input there, byte for byte, by evaluation; and the file of a
-- plan with quiet spans.
-- Assumes nothing.
use Rattle.std.specs.Prelude.{◌≡◌, refl, [], ◌∷◌}
use Rattle.rfc4180.specs.Text.{ascii}
use Rattle.rfc4180.specs.Writer.{written_file}
use Rattle.planning.specs.declared.Mode.TheVariants.{Fixed, Shortest}
use Rattle.planfile.proofs.Examples.Calls.{printed_input}
use Rattle.planfile.specs.FilePlan.{FilePlan}
use Rattle.planfile.specs.Holding.{mode_word}
use Rattle.planfile.specs.Numerals.{decimal_within, decimal}
use Rattle.planfile.specs.PlanLines.{plan_file}

-- the plan that the input there holds
unfoldable pub printed_plan : FilePlan
unfolding ascii
printed_plan =
    record {
      mode = Fixed;
      minutes = 60;
      allowance = 100;
      engines =
          record { name = ascii "E1"; watts = 3000; fuel = 1_000_000_000 }
          ∷ record { name = ascii "E2"; watts = 5000; fuel = 1_000_000_000 }
          ∷ [];
      quiet = [];
      deliveries =
          record { name = ascii "D1"; delivery = record { energy = 5000; limit = 2 } }
          ∷ record { name = ascii "D2"; delivery = record { energy = 3000; limit = 2 } }
          ∷ [];
    }

pub printed-plan-written : plan_file printed_plan ≡ printed_input
unfolding plan_file printed_plan printed_input written_file mode_word decimal decimal_within ascii
printed-plan-written = refl

-- a plan whose second engine is quiet twice
unfoldable pub quiet_plan : FilePlan
unfolding ascii
quiet_plan =
    record {
      mode = Shortest;
      minutes = 60;
      allowance = 100;
      engines = record { name = ascii "E1"; watts = 60; fuel = 100 } ∷ record { name = ascii "E,2"; watts = 60; fuel = 100 } ∷ [];
      quiet =
          record { engine = 2; span = record { from = 30; to = 60 } }
          ∷ record { engine = 2; span = record { from = 0; to = 5 } }
          ∷ record { engine = 1; span = record { from = 0; to = 10 } }
          ∷ [];
      deliveries = record { name = ascii "D"; delivery = record { energy = 1; limit = 1 } } ∷ [];
    }

pub quiet-plan-written : plan_file quiet_plan
    ≡ ascii
    "plan,shortest,60,100\r\nengine,E1,60,100\r\nengine,\"E,2\",60,100\r\nquiet,\"E,2\",30,60\r\nquiet,\"E,2\",0,5\r\nquiet,E1,0,10\r\ndelivery,D,1,1\r\n"
unfolding plan_file quiet_plan written_file mode_word decimal decimal_within ascii
quiet-plan-written = refl
