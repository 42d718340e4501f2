-- choose: the search is the step that the turn stands for. lay and cut: their loops walk the open engines as steps D and F try them.
use Rattle.std.proofs.Common.{refl, ap, ◌∙◌, length, arith}
use Rattle.std.proofs.lemmas.List.{length-replicate}
use Rattle.planning.specs.Search.{perform}
use Rattle.search.specs.declared.choice.Turn.TheVariants.{Finished, Fill, Lay, Cut}
use Rattle.search.specs.Laws.Rounds.Kinds.{laying, cutting}
use Rattle.search.specs.Laws.Rounds.Loop.{loop_starts, loop_engine, loop_cell, loop_passes, loop_stops, loop_asks, loop_finds, loop_halts}
use Rattle.search.specs.Laws.Rounds.Loop.{loop_goes_on, loop_ends, loop_lays, loop_cuts}
use Rattle.search.specs.Laws.Rounds.Turns.{turn_answers, finished_answers}
use Rattle.search.specs.Layout.{state_of}
use Rattle.search.specs.Promises.{ended_of, written}
use Rattle.search.specs.Steps.{step_of_turn, PickOf}
use Rattle.search.proofs.cycle.Run.+choose_cut_lay.Goals as goal

-- ---- choose

-- D and F: the delivery that the turn names is picked, and the state is the same
pub choose-lay-requires : goal.choose-lay-requires
unfolding PickOf
choose-lay-requires t c =
    let picked = c.in-Lay.ensures.picked in
    (omega (arith, c.decreases), (c.requires, (picked.0, picked.1)))

pub choose-cut-requires : goal.choose-cut-requires
unfolding PickOf
choose-cut-requires t c =
    let picked = c.in-Cut.ensures.picked in
    (omega (arith, c.decreases), (c.requires, (picked.0, picked.1)))

-- B: found, with no piece
pub choose-returns-in-Finished : goal.choose-returns-in-Finished
unfolding step_of_turn
choose-returns-in-Finished t c =
    let empty = c.fill.ensures.after (λ y e. e) in
    turn_answers _ _ _ Finished (c.in-Finished.ensures.step _ _ c.requires.sized)
    (record {
      ends = finished_answers c.args.self.now.task.now c.args.s _ _ _ _ c.requires.room.table empty;
      same_task = refl;
      same_table = refl;
      same_length = ap length empty ∙ length-replicate _ _;
    })

-- E: found by straight fill
pub choose-returns-in-Fill : goal.choose-returns-in-Fill
unfolding step_of_turn perform state_of ended_of written
choose-returns-in-Fill t c =
    turn_answers _ _ _ Fill (c.in-Fill.ensures.step _ _ c.requires.sized)
    (record {
      ends = record { is_ended = refl; is_table = c.straight.ensures };
      same_task = refl;
      same_table = refl;
      same_length = omega (arith, c.straight.auto.table);
    })

-- D
pub choose-returns-in-Lay : goal.choose-returns-in-Lay
unfolding step_of_turn
choose-returns-in-Lay t c = turn_answers _ _ _ (Lay c.in-Lay.pick) (c.in-Lay.ensures.step _ _ c.requires.sized) c.lay.ensures

-- F
pub choose-returns-in-Cut : goal.choose-returns-in-Cut
unfolding step_of_turn
choose-returns-in-Cut t c = turn_answers _ _ _ (Cut c.in-Cut.pick) (c.in-Cut.ensures.step _ _ c.requires.sized) c.cut.ensures

-- ---- lay

pub lay-loop-i-init : goal.lay-loop-i-init
lay-loop-i-init t c =
    rw (c.into_iter-i-iterator.ensures.into_iter_gives, c.from.ensures)
    (loop_starts laying c.requires.under_way c.requires.picked c.requires.one)

-- the engine has its place in the arrays
pub lay-bounds-s-i : goal.lay-bounds-s-i
lay-bounds-s-i t c = loop_engine c.loop-i.invariant c.in-Some.ensures.steps

-- the allowance is used up
pub lay-returns-then-self : goal.lay-returns-then-self
lay-returns-then-self t c = loop_stops c.loop-i.invariant c.in-Some.ensures.steps c.if-pick-s.true c.if-self.true

pub lay-lay-requires : goal.lay-lay-requires
lay-lay-requires t c = loop_lays c.loop-i.invariant c.in-Some.ensures.steps c.if-pick-s.true

pub lay-choose-requires : goal.lay-choose-requires
lay-choose-requires t c =
    loop_asks c.loop-i.invariant c.in-Some.ensures.steps c.if-pick-s.true c.if-self.false _ c.lay.ensures (omega (arith, c.decreases))

-- the piece has a cell in the table, which choose leaves as long as it came
pub lay-bounds-self-cell : goal.lay-bounds-self-cell
lay-bounds-self-cell t c =
    loop_cell c.loop-i.invariant c.in-Some.ensures.steps c.if-pick-s.true c.if-self.false _ c.lay.ensures c.choose.ensures

-- the try ends in found
pub lay-returns-in-Found : goal.lay-returns-in-Found
lay-returns-in-Found t c =
    loop_finds c.loop-i.invariant c.in-Some.ensures.steps c.if-pick-s.true c.if-self.false _ c.lay.ensures
    c.choose.ensures c.in-Found.is c.from-in-Found.ensures refl refl refl refl

-- the try is stopped
pub lay-returns-in-Stopped : goal.lay-returns-in-Stopped
lay-returns-in-Stopped t c =
    loop_halts c.loop-i.invariant c.in-Some.ensures.steps c.if-pick-s.true c.if-self.false _ c.lay.ensures
    c.choose.ensures c.in-Stopped.is

-- the try ends in none
pub lay-loop-i-preserved-in-None-choose : goal.lay-loop-i-preserved-in-None-choose
lay-loop-i-preserved-in-None-choose t c =
    loop_goes_on c.loop-i.invariant c.in-Some.ensures.steps c.if-pick-s.true c.if-self.false _ c.lay.ensures
    c.choose.ensures c.in-None-choose.is

-- the engine is not tried
pub lay-loop-i-preserved : goal.lay-loop-i-preserved
lay-loop-i-preserved t c = loop_passes c.loop-i.invariant c.in-Some.ensures.steps c.if-pick-s.false

-- no engine is left
pub lay-returns : goal.lay-returns
lay-returns t c = loop_ends c.loop-i.invariant c.in-None.ensures.steps

-- ---- cut

pub cut-loop-i-init : goal.cut-loop-i-init
cut-loop-i-init t c =
    rw (c.into_iter-i-iterator.ensures.into_iter_gives, c.from.ensures)
    (loop_starts cutting c.requires.under_way c.requires.picked c.requires.several)

-- the engine has its place in the arrays
pub cut-bounds-s-i : goal.cut-bounds-s-i
cut-bounds-s-i t c = loop_engine c.loop-i.invariant c.in-Some.ensures.steps

-- the allowance is used up
pub cut-returns-then-self : goal.cut-returns-then-self
cut-returns-then-self t c = loop_stops c.loop-i.invariant c.in-Some.ensures.steps c.if-piece-pick.true c.if-self.true

pub cut-cut-requires : goal.cut-cut-requires
cut-cut-requires t c = loop_cuts c.loop-i.invariant c.in-Some.ensures.steps c.if-piece-pick.true

pub cut-choose-requires : goal.cut-choose-requires
cut-choose-requires t c =
    loop_asks c.loop-i.invariant c.in-Some.ensures.steps c.if-piece-pick.true c.if-self.false _ c.cut.ensures (omega (arith, c.decreases))

-- the piece has a cell in the table, which choose leaves as long as it came
pub cut-bounds-self-cell : goal.cut-bounds-self-cell
cut-bounds-self-cell t c =
    loop_cell c.loop-i.invariant c.in-Some.ensures.steps c.if-piece-pick.true c.if-self.false _ c.cut.ensures c.choose.ensures

-- the try ends in found
pub cut-returns-in-Found : goal.cut-returns-in-Found
cut-returns-in-Found t c =
    loop_finds c.loop-i.invariant c.in-Some.ensures.steps c.if-piece-pick.true c.if-self.false _ c.cut.ensures
    c.choose.ensures c.in-Found.is c.from-in-Found.ensures refl refl refl refl

-- the try is stopped
pub cut-returns-in-Stopped : goal.cut-returns-in-Stopped
cut-returns-in-Stopped t c =
    loop_halts c.loop-i.invariant c.in-Some.ensures.steps c.if-piece-pick.true c.if-self.false _ c.cut.ensures
    c.choose.ensures c.in-Stopped.is

-- the try ends in none
pub cut-loop-i-preserved-in-None-choose : goal.cut-loop-i-preserved-in-None-choose
cut-loop-i-preserved-in-None-choose t c =
    loop_goes_on c.loop-i.invariant c.in-Some.ensures.steps c.if-piece-pick.true c.if-self.false _ c.cut.ensures
    c.choose.ensures c.in-None-choose.is

-- the engine is not tried
pub cut-loop-i-preserved : goal.cut-loop-i-preserved
cut-loop-i-preserved t c = loop_passes c.loop-i.invariant c.in-Some.ensures.steps c.if-piece-pick.false

-- no engine is left
pub cut-returns : goal.cut-returns
cut-returns t c = loop_ends c.loop-i.invariant c.in-None.ensures.steps
