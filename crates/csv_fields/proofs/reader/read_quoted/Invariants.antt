-- What is read from the place behind the opening quote on is read from here on. The measure is what is left. Assumes nothing.
use Rattle.std.proofs.Common.{◌-◌, length}
use Rattle.csv_fields.specs.Laws.ReaderSteps.{ReadsOn}
use Rattle.csv_fields.proofs.reader.read_quoted.Given as goal

abbrev pub invariant-loop-b : goal.invariant-loop-b
invariant-loop-b l = ReadsOn l.file l.from l.form l.at

abbrev pub decreases-loop-b : goal.decreases-loop-b
decreases-loop-b l = length l.file - l.at
