-- A turn writes one number of the row, and takes it from the engine and from the rest.
use Rattle.std.proofs.Common.{◌<◌, length, refl, sym, ◌∙◌, arith}
use Rattle.search.specs.Laws.Filling.{row-none, row_more, row-all, remains-none, remains-more, remains-all}
use Rattle.search.proofs.fill.fill_row.Goals as goal

pub loop-i-init : goal.loop-i-init
loop-i-init c = (row-none _ _ _ _ refl, remains-none _ _ _ refl)

pub loop-i-preserved : goal.loop-i-preserved
loop-i-preserved c =
    let inside : c.loop-i.i < length c.loop-i.remaining = omega arith in (
      rw c.from.ensures
          (row_more c.loop-i.remaining c.loop-i.rest c.loop-i.i inside c.min-piece.result c.min-piece.ensures c.loop-i.row (omega arith)
          ∙ c.loop-i.invariant.0),
      remains-more c.loop-i.remaining c.loop-i.rest c.loop-i.i inside c.min-piece.result c.min-piece.ensures ∙ c.loop-i.invariant.1,
    )

pub returns-clause-drawn : goal.returns-clause-drawn
returns-clause-drawn c =
    sym (row-all c.loop-i.remaining c.loop-i.rest c.loop-i.i c.loop-i.row (omega arith) (omega arith)) ∙ c.loop-i.invariant.0

pub returns-clause-remains : goal.returns-clause-remains
returns-clause-remains c = sym (remains-all c.loop-i.remaining c.loop-i.rest c.loop-i.i (omega arith)) ∙ c.loop-i.invariant.1
