-- Assumes nothing.
use Rattle.std.proofs.Common.{refl, sym, ◌∙◌, ◌+◌, true, drop}
use Rattle.rfc4180.specs.Bytes.{carriage_return}
use Rattle.rfc4180.specs.Records.{first_record}
use Rattle.rfc4180.proofs.Laws.Places.{bytes-from}
use Rattle.csv_fields.specs.Outside.{FoundOutside}
use Rattle.csv_fields.specs.Spans.{record_span}
use Rattle.csv_fields.specs.Laws.Outside.{record_found}
use Rattle.csv_fields.specs.Laws.Promises.{ends_record}
use Rattle.csv_fields.specs.Laws.Spans.{record_ended, cr_passed, record_unended}
use Rattle.csv_fields.proofs.records.record_at.Goals as goal

pub loop-at-init : goal.loop-at-init
unfolding record_span first_record
loop-at-init c = refl

pub returns-then-holds : goal.returns-then-holds
returns-then-holds c =
    let at = c.find_outside-at.result in
    let file = c.args.file.now in
    let found : FoundOutside file c.loop-at.at carriage_return at = c.find_outside-at.ensures in
    let inside = c.if-file-at.false in
    let line-feed = sym c.holds.ensures ∙ c.if-holds.true in
    let ended = record_ended _ (drop (at + 1) file) at (found.stops inside) line-feed in
    ends_record file _ (sym (c.loop-at.invariant ∙ record_found _ _ _ found ∙ rw (bytes-from file at inside) ended))

pub loop-at-preserved : goal.loop-at-preserved
loop-at-preserved c =
    let at = c.find_outside-at.result in
    let file = c.args.file.now in
    let found : FoundOutside file c.loop-at.at carriage_return at = c.find_outside-at.ensures in
    let inside = c.if-file-at.false in
    let other = sym c.holds.ensures ∙ c.if-holds.false in
    c.loop-at.invariant
    ∙ record_found _ _ _ found
    ∙ rw (bytes-from file at inside) (cr_passed _ (drop (at + 1) file) at (found.stops inside) other)

pub returns-then-file-at : goal.returns-then-file-at
returns-then-file-at c =
    let found : FoundOutside c.args.file.now c.loop-at.at carriage_return c.find_outside-at.result = c.find_outside-at.ensures in
    ends_record _ _ (sym (c.loop-at.invariant ∙ record_found _ _ _ found ∙ record_unended true _ _ c.if-file-at.true))
