-- `value` meets its contract: digit after digit.
use Rattle.std.proofs.Common.{◌≡◌, [], ◌∷◌, List, ℕ, ◌+◌, ◌<◌, length, drop, get_or, add-one, arith, drop_of_length-le, drop-cons}
use Rattle.planreader.specs.Laws.Parts.{Behind, digit-behind, value-over, no_digit, value-end}
use Rattle.planreader.proofs.numeral.value.Goals as goal

-- the next byte stands before the rest
next-byte : (text : List ℕ) (n i : ℕ) → Behind text (drop i text) n → i < length text → Behind text (get_or text i 0 ∷ drop (i + 1) text) n
next-byte text n i h l = rw (add-one, ← drop-cons text i 0 l) h

pub returns-then-not-is_ascii_digit : goal.returns-then-not-is_ascii_digit
returns-then-not-is_ascii_digit c =
    no_digit (next-byte c.args.text.now _ c.loop-b.b-index c.loop-b.invariant c.loop-b-test.true) c.if-not-is_ascii_digit.ensures.cases

pub returns-in_err-checked_mul : goal.returns-in_err-checked_mul
returns-in_err-checked_mul c =
    rw c.from_residual.ensures
    (value-over (next-byte c.args.text.now _ c.loop-b.b-index c.loop-b.invariant c.loop-b-test.true) (omega (arith, c.in_err-checked_mul.ensures)))

pub returns-in_err-n : goal.returns-in_err-n
returns-in_err-n c =
    rw c.from_residual-in_err-n.ensures
    (value-over (next-byte c.args.text.now _ c.loop-b.b-index c.loop-b.invariant c.loop-b-test.true)
    (omega (arith, c.in_err-n.ensures, c.in_ok-checked_mul.ensures, c.from.ensures)))

pub loop-b-preserved : goal.loop-b-preserved
loop-b-preserved c =
    let digit = c.if-not-is_ascii_digit.ensures.cases in
    let product = c.in_ok-checked_mul.ensures in
    let sum = c.in_ok-n.ensures in
    rw (sum.1, product.1, c.from.ensures) (digit-behind (next-byte c.args.text.now _ c.loop-b.b-index c.loop-b.invariant c.loop-b-test.true) digit.0 digit.1)

pub returns : goal.returns
returns c =
    let done : drop c.loop-b.b-index c.args.text.now ≡ [] = drop_of_length-le c.args.text.now {i = c.loop-b.b-index} c.loop-b-test.false in
    value-end (rw done at c.loop-b.invariant)
