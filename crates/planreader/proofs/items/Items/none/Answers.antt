-- `none` meets its contract.
use Rattle.planreader.specs.Laws.Columns.{columns-nothing}
use Rattle.planreader.proofs.items.Items.none.Goals as goal

pub returns : goal.returns
returns g c = rw c.of.ensures (columns-nothing g.row.MOST)
