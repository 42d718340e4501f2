-- The line is made aside, and put where it fits. Assumes nothing.
use Rattle.std.proofs.Common.{refl, rules, arith}
use Rattle.rfc4180.specs.Text.{ascii}
use Rattle.filecall.specs.Laws.RefusalPrint.{refusal-made, refusal-put, refusal-kept}
use Rattle.filecall.proofs.print.write_refusal.Goals as goal

pub unwrap-requires : goal.unwrap-requires
unfolding ascii
unwrap-requires c =
    let made = refusal-made c.args.refusal c.new-made.ensures.front c.new-made.ensures.lent c.from-number.ensures (omega arith) (omega arith) (omega arith)
    c.write_answer.ensures refl refl in
    rw made.wrote

pub returns-in-Ok : goal.returns-in-Ok
unfolding ascii
returns-in-Ok c =
    let made = refusal-made c.args.refusal c.new-made.ensures.front c.new-made.ensures.lent c.from-number.ensures (omega arith) (omega arith) (omega arith)
    c.write_answer.ensures c.len-n.ensures (search rules) in
    refusal-put c.args.refusal made.stands c.new-lent.ensures.front c.new-lent.ensures.lent c.write_bytes.ensures.puts (search rules) c.in-Ok.is made.ends

pub returns-in-Err : goal.returns-in-Err
unfolding ascii
returns-in-Err c =
    let made = refusal-made c.args.refusal c.new-made.ensures.front c.new-made.ensures.lent c.from-number.ensures (omega arith) (omega arith) (omega arith)
    c.write_answer.ensures c.len-n.ensures (search rules) in
    refusal-kept c.args.refusal made.stands c.new-lent.ensures.front c.new-lent.ensures.lent c.write_bytes.ensures.puts (search rules) c.in-Err.is
