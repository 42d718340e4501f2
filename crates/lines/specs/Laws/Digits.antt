-- The digits of a number of 64 bits: how many there can be, and that std writes the same. Assumes nothing.
use Rattle.std.specs.Prelude.{◌≡◌, ℕ, ◌^◌, ◌<◌}
use Rattle.std.proofs.Common.{sym}
use Rattle.std.proofs.lemmas.Fmt.{decimal_by_steps}
use Rattle.std.specs.Fmt.{decimal as std_decimal}
use Rattle.planfile.specs.Numerals.{decimal}
use Rattle.planfile.proofs.Laws.Decimals.{decimal-one, decimal-more}

-- no number of 64 bits has more digits
abbrev pub most_digits : ℕ
most_digits = 20

-- what std writes of a number is what is written here
pub decimal-std : (n : ℕ) → n < 2 ^ 64 → std_decimal n ≡ decimal n
decimal-std =
    decimal_by_steps (λ n digits. digits ≡ decimal n) (λ n small. sym (decimal-one n small))
    (λ n digits large same. rw same (sym (decimal-more n large)))
