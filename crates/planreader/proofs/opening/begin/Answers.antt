-- `begin` meets its contract: the size, then record 1.
use Rattle.std.proofs.Common.{◌≡◌, ◌&&◌, leb, length, sym, ◌∙◌, rules}
use Rattle.planfile.specs.Bounds.{most_bytes}
use Rattle.planfile.specs.Reading.{fault}
use Rattle.planreader.specs.Laws.Exits.{placed}
use Rattle.planreader.specs.Laws.FileRead.{file-size, file-begins}
use Rattle.planreader.specs.Opening.{BeginsBy}
use Rattle.planreader.proofs.opening.begin.Goals as goal

pub returns-then-not-contains : goal.returns-then-not-contains
unfolding BeginsBy fault
returns-then-not-contains c =
    let size : c.contains.result ≡ (leb 1 (length c.args.file.now) && leb (length c.args.file.now) most_bytes) = search rules in
    rw c.at.ensures (file-size _ (sym size ∙ c.if-not-contains.true))

pub returns : goal.returns
returns c =
    let size : c.contains.result ≡ (leb 1 (length c.args.file.now) && leb (length c.args.file.now) most_bytes) = search rules in
    file-begins _ (sym size ∙ c.if-not-contains.false) c.first.result c.first.ensures (placed 1 c.first.result c.map_err.ensures.cases (λ e z k. search rules))
