-- The counts and ranges of document 01, each under one name, as document 02 changes them.
-- Assumes nothing.
use Rattle.std.specs.Prelude.{ℕ, ◌*◌}

-- "Engines number 1 to 12"
abbrev pub most_engines : ℕ
most_engines = 12

-- document 02, K7: "Make that the limit: a 38th is refused by 7"
abbrev pub most_deliveries : ℕ
most_deliveries = 37

-- "the length of the piece table lent with a file .. shrinks to 444 numbers": a cell for every delivery and engine that a plan may have
abbrev pub most_cells : ℕ
most_cells = most_deliveries * most_engines

-- document 02, K1: "at most eight spans an engine"
abbrev pub most_spans : ℕ
most_spans = 8

-- as many as all engines of a plan may have
abbrev pub most_quiet : ℕ
most_quiet = most_engines * most_spans

-- "MINUTES is 1 to 10,080."; of a quiet span FROM and TO are "0 to 10,080" (document 02, K1)
abbrev pub most_minutes : ℕ
most_minutes = 10_080

-- "TRIES, the allowance, is 0 to 1,000,000,000."
abbrev pub most_tries : ℕ
most_tries = 1_000_000_000

-- "WATTS 0 to 5,000,000"
abbrev pub most_watts : ℕ
most_watts = 5_000_000

-- "FUEL .. 0 to 1,000,000,000."
abbrev pub most_fuel : ℕ
most_fuel = 1_000_000_000

-- "ENERGY 1 to 1,000,000,000 Wh", and a spare lookup's "amount of 1 to 1,000,000,000"
abbrev pub most_energy : ℕ
most_energy = 1_000_000_000

-- "LIMIT .. 1 to 12."
abbrev pub most_limit : ℕ
most_limit = 12
