-- Sets of engines and of deliveries as numbers: i is a member where bit i is 1. `lib.Count.ones` counts the members.
-- Assumes nothing.
use Rattle.std.specs.Prelude.{◌≡◌, Bool, not, ℕ, ◌/◌, ◌%◌, ◌^◌, ◌<◌, eqb}

unfoldable pub has : (set i : ℕ) → Bool
has set i = eqb (set / 2 ^ i % 2) 1

-- of the numbers below a width, a set has those that another has not
pub record Others (width set others : ℕ) : Type 0 where
  pub is_other : (i : ℕ) → i < width → has others i ≡ not (has set i)
  pub below : others < 2 ^ width

-- "engine set as a 16-bit number"
abbrev pub engine_bits : ℕ
engine_bits = 16

-- a set of deliveries is a number of 64 bits, of which as many are used as a plan may have deliveries
abbrev pub delivery_bits : ℕ
delivery_bits = 64
