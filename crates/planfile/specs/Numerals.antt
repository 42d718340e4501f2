-- Numbers as text (document 01, "The file"): what a numeral is, how it is read, and how a number is written.
-- Assumes nothing.
use Rattle.std.specs.Prelude.{ℕ, zero, suc, ◌+◌, ◌*◌, ◌-◌, ◌/◌, ◌%◌, Bool, true, false, cond, ◌&&◌, List, [], ◌∷◌, ◌++◌, ltb}
use Rattle.std.proofs.Math.Option.{Option, none, some}
use Rattle.planning.specs.Numbers.{within}
use Rattle.planning.specs.Plan.{All, Within}

-- the bytes of `0` and `9`
abbrev pub digit_zero : ℕ
digit_zero = 0x30

abbrev pub digit_nine : ℕ
digit_nine = 0x39

-- the number that digits stand for in base ten, behind digits that stand for n
unfoldable pub value_behind : (n : ℕ) → (digits : List ℕ) → ℕ
value_behind n [] = n
value_behind n (d ∷ ds) = value_behind (n * 10 + (d - digit_zero)) ds

-- "A number is digits without a leading zero, or `0`."
pub data Numeral : List ℕ → ℕ → Type 0 where
  numeral_zero : Numeral (digit_zero ∷ []) 0
  numeral_digits : {d : ℕ} {ds : List ℕ}
      → Within (digit_zero + 1) digit_nine d
      → All (Within digit_zero digit_nine) ds
      → Numeral (d ∷ ds) (value_behind 0 (d ∷ ds))

-- the reading: the number of a numeral, none of any other text
unfoldable pub all_digits : List ℕ → Bool
all_digits [] = true
all_digits (d ∷ ds) = within digit_zero digit_nine d && all_digits ds

unfoldable pub number_of : List ℕ → Option ℕ
number_of [] = none
number_of (d ∷ []) = cond (within digit_zero digit_nine d) (some (d - digit_zero)) none
number_of (d ∷ e ∷ ds) =
    cond (within (digit_zero + 1) digit_nine d && all_digits (e ∷ ds)) (some (value_behind 0 (d ∷ e ∷ ds))) none

-- the writing: the digits of n in base ten, on a bound for their number
unfoldable pub decimal_within : (bound : ℕ) → ℕ → List ℕ
decimal_within zero n = (digit_zero + n) ∷ []
decimal_within (suc bound) n =
    elim (ltb n 10) [ true ↦ (digit_zero + n) ∷ [] | false ↦ decimal_within bound (n / 10) ++ (digit_zero + n % 10) ∷ [] ]

unfoldable pub decimal : ℕ → List ℕ
decimal n = decimal_within n n
