-- At the end all of it is stored.
use Rattle.std.proofs.Common.{◌≡◌, ◌∙◌, List, ℕ, ◌+◌, ◌≤◌, length, drop, add-zero}
use Rattle.std.proofs.Math.ListN.{drop_of_length-le}
use Rattle.rfc4180.proofs.Laws.Stores.{Ahead, all-ahead, one_more, laid}
use Rattle.lines.specs.Putting.{put_at}
use Rattle.lines.proofs.bytes.store.Goals as goal

all-stored : (bytes lent out : List ℕ) (at i : ℕ) → length bytes ≤ i → at + length bytes ≤ length lent → Ahead (drop i bytes) (at + i) out lent at bytes
    → out ≡ put_at at bytes lent
unfolding put_at
all-stored bytes lent out at i past room left = (rw (drop_of_length-le bytes {i = i} past) at left.makes) ∙ laid bytes lent at room

pub loop-i-init : goal.loop-i-init
loop-i-init c = rw add-zero (all-ahead _ _ _ c.requires)

pub loop-i-preserved : goal.loop-i-preserved
loop-i-preserved c = one_more _ _ _ _ _ c.loop-i-test.true c.loop-i.invariant

pub returns : goal.returns
returns c = all-stored c.args.bytes.now c.args.out.now _ _ _ c.loop-i-test.false c.requires c.loop-i.invariant
