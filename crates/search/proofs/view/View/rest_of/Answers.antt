-- A delivery that is done has rest 0, and one that is left what is left of it.
use Rattle.std.proofs.Common.{sym, ◌∙◌}
use Rattle.search.specs.Laws.Choice.{rest-is}
use Rattle.search.specs.Laws.Layout.Deliveries.{rest-done}
use Rattle.search.proofs.view.View.rest_of.Goals as goal

pub returns-then-has : goal.returns-then-has
returns-then-has c = rest-is c.candidate_at.ensures

pub returns-else-has : goal.returns-else-has
returns-else-has c = sym (rest-done c.args.self.now.kept.deliveries c.args.p (sym c.has.ensures ∙ c.if-has.false))
