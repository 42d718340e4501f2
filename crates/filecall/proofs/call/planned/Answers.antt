-- The plan's numbers are accepted, so they are answered. Assumes nothing.
use Rattle.std.proofs.Common.{ap, ◌∙◌}
use Rattle.planning.specs.Numbers.{allocation, table_on_exit, spare_on_exit}
use Rattle.filecall.specs.Laws.HandOver.{call-numbers, call-answered, plan-answered}
use Rattle.filecall.proofs.call.planned.Goals as goal

pub unwrap-requires : goal.unwrap-requires
unwrap-requires c =
    let allocated = c.allocate.ensures in
    let call = call-numbers c.requires.0 _ _ c.as_flattened.result.now c.as_flattened.ensures.value in
    rw (allocated.result ∙ (ap allocation call ∙ (call-answered c.requires.0 _ _ c.requires.1 c.requires.2).0))

pub returns : goal.returns
returns c =
    let allocated = c.allocate.ensures in
    let call = call-numbers c.requires.0 _ _ c.as_flattened.result.now c.as_flattened.ensures.value in
    plan-answered c.requires.0 _ _ c.requires.1 c.requires.2
    (allocated.result ∙ ap allocation call) (allocated.table ∙ ap table_on_exit call) (allocated.spare ∙ ap spare_on_exit call) c.unwrap.ensures
