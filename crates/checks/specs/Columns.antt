-- The lists of a call that fit what they are stored in.
-- Assumes nothing.
use Rattle.std.specs.Prelude.{List, ℕ, ◌^◌, ◌≤◌, ◌<◌, length}
use Rattle.planning.specs.Tables.{at}

-- a list that is no longer than that, of numbers that a word of so many bits holds
abbrev pub Fits : (most bits : ℕ) → List ℕ → Type 0
Fits most bits xs = (length xs ≤ most) × ((i : ℕ) → i < length xs → at xs i < 2 ^ bits)
