-- What is left of the value is still to be stored. Assumes nothing.
use Rattle.rfc4180.proofs.Laws.Stores.{Ahead}
use Rattle.csv_fields.specs.Undoubling.{undoubled}
use Rattle.csv_fields.proofs.fields.copy_undoubled.Given as goal

abbrev pub invariant-loop-k : goal.invariant-loop-k
invariant-loop-k l = Ahead (undoubled l.k-iterator.iter.0.now) l.k-iterator.count l.out l.fn.out 0 (undoubled l.inside)
