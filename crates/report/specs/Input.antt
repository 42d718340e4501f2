-- Numbers of an input, with anything that is no digit between them.
-- Assumes nothing.
use Rattle.std.specs.Prelude.{List, ℕ, not, min, length, take_while, drop}
use Rattle.std.specs.Char.{is_ascii_digit}
use Rattle.planfile.specs.Numerals.{value_behind}

-- an input from its first digit on
unfoldable pub from_digit : (input : List ℕ) → List ℕ
from_digit input = drop (length (take_while (λ b. not (is_ascii_digit b)) input)) input

-- the digits that come first
unfoldable pub first_digits : (input : List ℕ) → List ℕ
first_digits input = take_while is_ascii_digit (from_digit input)

-- the number that they stand for, no more than the most
unfoldable pub first_number : (input : List ℕ) → (most : ℕ) → ℕ
first_number input most = min (value_behind 0 (first_digits input)) most

-- what stands behind them
unfoldable pub behind_number : (input : List ℕ) → List ℕ
behind_number input = drop (length (first_digits input)) (from_digit input)
