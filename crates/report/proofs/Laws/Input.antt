-- Digits of an input, one by one, and the number that they stand for. Assumes nothing.
use Rattle.std.specs.Prelude.{◌≡◌, ◌⊎◌, List, [], ◌∷◌, ℕ, suc, not, take_while, ◌+◌, ◌*◌, ◌-◌, ◌≤◌, ◌<◌, min, length, drop, get_or, leb}
use Rattle.std.specs.Char.{is_ascii_digit}
use Rattle.std.specs.List.{prefix_len}
use Rattle.std.proofs.Common.{inl, inr, arith, ap, sym, drop-cons, drop_of_length-le, add-one, leb-true, length-take, length-drop}
use Rattle.std.proofs.lemmas.List.Sums.{prefix_len_passes}
use Rattle.std.proofs.lemmas.List.{get_or-take}
use Rattle.std.proofs.Math.Bool.{and-eq-true_iff}
use Rattle.planning.proofs.Laws.Finite.Decisions.{le-or-lt}
use Rattle.planfile.specs.Numerals.{digit_zero, value_behind}
use Rattle.report.specs.Input.{from_digit, first_digits, behind_number}

-- each of the first digits is one
pub least_digit : (input : List ℕ) (i : ℕ) → i < length (first_digits input) → digit_zero ≤ get_or (first_digits input) i 0
unfolding first_digits
least_digit input i inside =
    let bytes = from_digit input in
    let count = prefix_len is_ascii_digit bytes in
    let within : i < count = omega (arith, inside, length-take count bytes) in
    let b = get_or bytes i 0 in
    let range = (and-eq-true_iff (leb digit_zero b) (leb b 57)).0 (prefix_len_passes is_ascii_digit bytes i 0 within) in
    rw (get_or-take count bytes i 0 within) (leb-true digit_zero b range.0)

pub behind_less : (input : List ℕ) → length (behind_number input) ≤ length input
unfolding behind_number from_digit
behind_less input =
    let gap = length (take_while (λ b. not (is_ascii_digit b)) input) in
    omega (arith, length-drop (length (first_digits input)) (drop gap input), length-drop gap input)

-- a value that is already more than the most may be the most
value-least : (n : ℕ) (ds : List ℕ) → n ≤ value_behind n ds
unfolding value_behind
value-least n [] = omega arith
value-least n (d ∷ ds) = omega (arith, value-least (n * 10 + (d - digit_zero)) ds)

capped : (n most : ℕ) (ds : List ℕ) → min (value_behind (min n most) ds) most ≡ min (value_behind n ds) most
capped n most ds = go (le-or-lt n most)
  where
    go : (n ≤ most) ⊎ (most < n) → min (value_behind (min n most) ds) most ≡ min (value_behind n ds) most
    go (inl l) = ap (λ m. min (value_behind m ds) most) (omega arith)
    go (inr l) = omega (arith, value-least (min n most) ds, value-least n ds)

-- behind digits that stand for n the digits from a place on
module _ (n most : ℕ) (digits : List ℕ) (i : ℕ) where
  pub value_end : n ≤ most → length digits ≤ i → min (value_behind n (drop i digits)) most ≡ n
  unfolding value_behind
  value_end l past = rw (drop_of_length-le digits {i = i} past) (omega arith)

  pub value_digit : i < length digits
      → min (value_behind n (drop i digits)) most ≡ min (value_behind (min (n * 10 + (get_or digits i 0 - digit_zero)) most) (drop (i + 1) digits)) most
  unfolding value_behind
  value_digit inside =
      rw (drop-cons digits i 0 inside, add-one i) (sym (capped (n * 10 + (get_or digits i 0 - digit_zero)) most (drop (suc i) digits)))
