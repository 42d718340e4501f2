-- What `plan_file` ensures, with the result as numbers. Assumes nothing.
use Rattle.std.specs.Prelude.{◌≡◌, ℕ, Result, Ok, Err, MatchResult}
use Rattle.planning.specs.declared.Answer.{Answer}
use Rattle.planning.specs.declared.Refusal.{Refusal}
use Rattle.export.specs.declared.PlanReply.{PlanReply}
use Rattle.export.specs.Replies.{answered_by, refused_by, file_reply_of}
use Rattle.export.proofs.fothwen_plan_file.Goals as goal

-- either way the reply is that of the result
either : (r : Result (Answer × ℕ) Refusal) (reply : PlanReply)
    → MatchResult r (λ p. reply ≡ answered_by p.0 p.1) (λ e. reply ≡ refused_by e) → reply ≡ file_reply_of r
unfolding file_reply_of
either (Ok printed) reply h = h
either (Err refusal) reply h = h

pub returns : goal.returns
returns c =
    record {
      answer = c.plan_file.result;
      reply = either c.plan_file.result _ c.map_or_else.ensures;
      promised = c.plan_file.ensures;
    }
