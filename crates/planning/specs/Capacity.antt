-- Capacity (document 01, "Capacity and tries"; document 02, K1).
-- Assumes nothing.
use Rattle.std.specs.Prelude.{ℕ, ◌*◌, ◌/◌, min, List, map}
use Rattle.planning.specs.Plan.{Plan, Engine}
use Rattle.planning.specs.Quiet.{running}

-- "An engine's capacity for T minutes is the smaller of FUEL and WATTS × T / 60 rounded down.", where of the T minutes "Capacity counts only the
-- minutes before T outside the engine's spans." (document 02, K1)
unfoldable pub capacity : Engine → ℕ → ℕ
capacity e T = min e.fuel (e.watts * running e.quiet T / 60)

-- the capacities of engines for T minutes, in file order
abbrev pub each_capacity : List Engine → ℕ → List ℕ
each_capacity engines T = map (λ (e : Engine). capacity e T) engines

-- of a plan's engines
unfoldable pub capacities : Plan → ℕ → List ℕ
capacities plan T = each_capacity plan.engines T
