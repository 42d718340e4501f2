-- `n` is the value of the digits passed.
use Rattle.std.proofs.Common.{drop}
use Rattle.planreader.specs.Laws.Parts.{Behind}
use Rattle.planreader.proofs.numeral.value.Given as goal

abbrev pub invariant-loop-b : goal.invariant-loop-b
invariant-loop-b l = Behind l.text (drop l.b-index l.text) l.n
