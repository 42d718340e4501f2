-- The span is that of a record whose text so far ends here, outside quotes. The measure is what is left. Assumes nothing.
use Rattle.std.proofs.Common.{◌≡◌, ◌-◌, true, length, drop}
use Rattle.rfc4180.specs.Records.{first_from}
use Rattle.csv_fields.specs.Spans.{record_span}
use Rattle.csv_fields.specs.Laws.Spans.{span_of}
use Rattle.csv_fields.proofs.records.record_at.Given as goal

abbrev pub invariant-loop-at : goal.invariant-loop-at
invariant-loop-at l = record_span l.file l.from ≡ span_of l.at (first_from true (drop l.at l.file))

abbrev pub decreases-loop-at : goal.decreases-loop-at
decreases-loop-at l = length l.file - l.at
