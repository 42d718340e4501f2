-- The first engines without the open ones.
use Rattle.planning.specs.Bounds.{most_engines}
use Rattle.search.specs.Laws.FirstSet.{others_of}
use Rattle.search.proofs.choice.closed.Goals as goal

pub returns : goal.returns
returns c = others_of most_engines c.args.«open» c.requires
