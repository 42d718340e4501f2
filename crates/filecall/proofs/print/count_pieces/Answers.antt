-- What is counted one by one is counted by its sign. Assumes nothing.
use Rattle.std.proofs.Common.{◌≡◌, ◌∙◌, rules, count_by, nat_lt}
use Rattle.filecall.specs.Laws.Printing.{positives-counted}
use Rattle.filecall.proofs.print.count_pieces.Goals as goal

pub returns : goal.returns
returns c =
    let counted : c.count.result ≡ count_by (λ n. nat_lt 0 n) c.args.pieces.now = search rules in
    counted ∙ positives-counted c.args.pieces.now
