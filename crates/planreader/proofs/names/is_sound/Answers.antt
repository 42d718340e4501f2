-- `is_sound` meets its contract: by the length, then by each byte.
use Rattle.std.proofs.Common.{◌≡◌, ◌&&◌, leb, length, rules}
use Rattle.planfile.specs.Bounds.{most_name_bytes}
use Rattle.planreader.specs.Laws.Names.{sound-tests}
use Rattle.planreader.proofs.names.is_sound.Goals as goal

pub returns-then-contains : goal.returns-then-contains
returns-then-contains c =
    let size : c.contains.result ≡ (leb 1 (length c.args.name.now) && leb (length c.args.name.now) most_name_bytes) = search rules in
    rw (sound-tests c.args.name.now, ← size, c.if-contains.true, ← c.has_name_bytes.ensures)

pub returns-else-contains : goal.returns-else-contains
returns-else-contains c =
    let size : c.contains.result ≡ (leb 1 (length c.args.name.now) && leb (length c.args.name.now) most_name_bytes) = search rules in
    rw (sound-tests c.args.name.now, ← size, c.if-contains.false)
