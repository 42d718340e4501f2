-- Assumes nothing.
use Rattle.planreader.specs.Laws.Cuts.{cut_broken, last_text, last_next, last_cut, last_other}
use Rattle.planreader.specs.Laws.Exits.{exit}
use Rattle.planreader.specs.Parts.{CutAt}
use Rattle.planreader.proofs.entry.Entry.cut.Goals as goal

pub returns-in_err-read : goal.returns-in_err-read
returns-in_err-read c =
    let (nothing, is) = exit c.from_residual.result c.from_residual.ensures.1 c.in_err-read.ensures.value in
    rw is (cut_broken c.loop-read.invariant c.field_read.ensures nothing)

pub returns-then-count-ne4 : goal.returns-then-count-ne4
returns-then-count-ne4 c =
    last_other c.loop-read.invariant c.field_read.ensures c.in_ok-read.ensures.ok_part c.store.ensures c.in-RecordEnd.is c.if-count-ne4.true

pub invariant_of-entry : goal.invariant_of-entry
invariant_of-entry c =
    record {
      cut = last_cut c.loop-read.invariant c.field_read.ensures c.in_ok-read.ensures.ok_part c.store.ensures c.in-RecordEnd.is c.requires
          c.if-count-ne4.false;
    }

pub returns-in-RecordEnd : goal.returns-in-RecordEnd
unfolding CutAt
returns-in-RecordEnd c =
    record {
      text = last_text c.loop-read.invariant c.field_read.ensures c.in_ok-read.ensures.ok_part c.in-RecordEnd.is c.requires;
      behind = last_next c.loop-read.invariant c.field_read.ensures c.in_ok-read.ensures.ok_part c.in-RecordEnd.is;
    }
