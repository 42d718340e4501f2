use Rattle.std.proofs.Common.{rules}
use Rattle.report.proofs.Laws.Page.{page_put}
use Rattle.report.proofs.pages.plan_page.Goals as goal

pub returns : goal.returns
returns c = page_put c.write_lists.ensures c.new-out.ensures.front c.new-out.ensures.lent (search rules) (rw c.len.ensures at c.and-next.ensures)
