-- What is behind the capacities is as many zeros as they do not fill.
use Rattle.std.proofs.lemmas.List.{drop-replicate}
use Rattle.planning.specs.Tables.{padded}
use Rattle.search.proofs.start.first_amounts.Goals as goal

pub returns : goal.returns
unfolding padded
returns c = rw (c.copy_from_slice.ensures.after, drop-replicate)
