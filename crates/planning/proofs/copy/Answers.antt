-- At each turn the next of the numbers that there is room for is stored; behind the last they are those that the contract names.
use Rattle.std.proofs.Common.{◌≡◌, refl, rules, ℕ, ◌≤◌, min, List, length, take, arith}
use Rattle.std.proofs.lemmas.List.{length-take, take_min}
use Rattle.planning.proofs.Laws.Front.{stored_none, stored_more, stored_new}
use Rattle.planning.proofs.copy.Goals as goal

-- as many as both lists have are as many of the numbers as there is room for
module _ (n : ℕ) (numbers to : List ℕ) (shorter : n ≡ min (length to) (length numbers)) where
  room : length (take n numbers) ≤ length to
  room = rw (length-take n numbers) (omega (arith, shorter))

  fitting : take n numbers ≡ take (length to) numbers
  fitting = rw (shorter, take_min (length to) numbers) refl

pub loop-i-init : goal.loop-i-init
loop-i-init c = stored_none _ _

pub loop-i-preserved : goal.loop-i-preserved
loop-i-preserved c =
    let fits = room c.min-n.result c.args.numbers.now c.args.to.now (search rules) in
    stored_more c.loop-i.invariant _ refl c.loop-i-test.true (omega (arith, fits, c.loop-i-test.true))

pub returns : goal.returns
returns c =
    rw (← fitting c.min-n.result c.args.numbers.now c.args.to.now (search rules)) (stored_new c.loop-i.invariant c.loop-i-test.false)
