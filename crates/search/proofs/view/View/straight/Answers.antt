-- A turn writes one row more of straight fill's table.
use Rattle.std.proofs.Common.{◌≡◌, ◌+◌, ◌-◌, ℕ, ◌*◌, refl, sym, ap, ◌∙◌, length, take, length-append, length-drop, length-take, drop-drop, ◌<◌, arith}
use Rattle.planning.specs.Bounds.{most_engines}
use Rattle.planning.proofs.Laws.Tables.{length-listed, at_listed}
use Rattle.planning.specs.Tables.{listed}
use Rattle.planning.specs.Search.{straight_fill}
use Rattle.planning.proofs.Laws.Soundness.StraightFill.{undrawn-length}
use Rattle.search.specs.Laws.Filling.{table_none, table_more, table-all, row_fits, take-listed}
use Rattle.search.specs.Layout.{rest_of, remaining_at}
use Rattle.search.specs.Promises.{engines_of, deliveries_of}
use Rattle.search.proofs.view.View.straight.Invariants.{rests}
use Rattle.search.proofs.view.View.straight.Goals as goal

pub loop-p-init : goal.loop-p-init
loop-p-init c = (
  ap length c.open_amounts-remaining.ensures ∙ length-listed most_engines _,
  table_none c.args.table.now (rests c.args.self.now) c.open_amounts-remaining.result (engines_of c.args.self.now.task.now) 0 refl,
)

pub loop-p-preserved : goal.loop-p-preserved
loop-p-preserved c =
    let task = c.args.self.now.task.now in
    let f : ℕ → ℕ = rest_of task.energies.now c.args.self.now.state.now in
    let taken : c.loop-p.p < deliveries_of task = c.loop-p-test.true in
    let engines : (c.loop-p.p * engines_of task + engines_of task) - c.loop-p.p * engines_of task ≡ engines_of task = omega arith in (
      rw (c.fill_row.ensures.remains) (omega (
        arith,
        length-append {A = ℕ},
        length-drop {A = ℕ},
        undrawn-length c.rest_of.result (take (engines_of task) c.loop-p.remaining),
        length-take (engines_of task) c.loop-p.remaining,
        c.loop-p.invariant.0,
      )),
      table_more
          c.loop-p.table
          (listed (deliveries_of task) f)
          c.loop-p.remaining
          (engines_of task)
          c.loop-p.p
          (omega (arith, length-listed (deliveries_of task) f))
          (omega (arith, c.requires.engine_count, c.loop-p.invariant.0))
          (omega (arith, c.requires.table, row_fits c.loop-p.p (engines_of task) (deliveries_of task) taken))
          c.rest_of.result
          (rw (at_listed (deliveries_of task) f c.loop-p.p taken) c.rest_of.ensures)
          _
          _
          (rw (engines, c.fill_row.ensures.drawn, drop-drop))
          (rw c.fill_row.ensures.remains)
          ∙ c.loop-p.invariant.1,
    )

pub returns : goal.returns
returns c =
    let task = c.args.self.now.task.now in
    let f : ℕ → ℕ = rest_of task.energies.now c.args.self.now.state.now in
    let g : ℕ → ℕ = remaining_at c.args.self.now.state.now.«open» c.args.self.now.state.now.amount in
    let all : deliveries_of task ≡ c.loop-p.p = omega arith in
    sym
    (table-all c.loop-p.table (listed (deliveries_of task) f) c.loop-p.remaining (engines_of task) c.loop-p.p
    (omega (arith, c.requires.table, ap (λ n. n * engines_of task) all))
    (length-listed (deliveries_of task) f ∙ all))
    ∙ c.loop-p.invariant.1
    ∙ ap (straight_fill (listed (deliveries_of task) f))
    (ap (take (engines_of task)) c.open_amounts-remaining.ensures ∙ take-listed (engines_of task) most_engines g c.requires.engine_count)
