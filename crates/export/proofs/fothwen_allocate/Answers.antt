-- What `allocate` ensures in the minutes handed on (Laws), with the result as numbers. Assumes nothing.
use Rattle.std.specs.Prelude.{◌≡◌, Result, Ok, Err, MatchResult}
use Rattle.std.proofs.Common.{rules}
use Rattle.planning.specs.declared.Answer.{Answer}
use Rattle.planning.specs.declared.Refusal.{Refusal}
use Rattle.export.proofs.Laws.{replied}
use Rattle.export.specs.declared.PlanReply.{PlanReply}
use Rattle.export.specs.Replies.{answered_by, refused_by, reply_of}
use Rattle.export.proofs.fothwen_allocate.Goals as goal

-- either way the reply is that of the result
either : {P : Answer → Type 0} (r : Result Answer Refusal) (reply : PlanReply) → MatchResult r P (λ e. reply ≡ refused_by e)
    → ((a : Answer) → P a → reply ≡ answered_by a 0) → reply ≡ reply_of r
unfolding reply_of
either (Ok a) reply h k = k a h
either (Err refusal) reply h k = h

pub returns : goal.returns
returns c =
    let handed-on = rw (c.minutes_under.ensures, c.mode_of.ensures) at c.allocate.ensures in
    replied c.args.mode _ handed-on (either c.allocate.result _ c.map_or_else.ensures (λ a h. search rules))
