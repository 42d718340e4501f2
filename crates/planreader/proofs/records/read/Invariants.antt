-- The records from the start are read as those from here, behind the plan so far. The measure is what is left of the file.
use Rattle.std.proofs.Common.{◌-◌, length}
use Rattle.planreader.specs.Laws.Pending.{Pending}
use Rattle.planreader.specs.Records.{begun_by}
use Rattle.planreader.proofs.records.read.Given as goal

abbrev pub invariant-loop-from : goal.invariant-loop-from
invariant-loop-from l = Pending l.file l.start (begun_by l.fn.plan) l.plan l.from l.place

abbrev pub decreases-loop-from : goal.decreases-loop-from
decreases-loop-from l = length l.file - l.from
