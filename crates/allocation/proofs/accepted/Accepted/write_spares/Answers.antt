-- What each engine has to spare is stored in its turn: its pieces are at most its capacity, and that at most the most fuel.
use Rattle.std.proofs.Common.{◌≡◌, sym, ◌∙◌, ℕ, ◌-◌, ◌≤◌, ◌<◌, List, arith}
use Rattle.std.proofs.Math.Path.{ap₂}
use Rattle.planning.specs.declared.Plan.{Plan}
use Rattle.planning.specs.Bounds.{most_engines, most_fuel}
use Rattle.planning.specs.ByValue.{engines_in, plan_in, Usable}
use Rattle.planning.specs.Capacity.{each_capacity}
use Rattle.planning.specs.Cutting.{Serves}
use Rattle.planning.specs.Tables.{at, padded, piece_in}
use Rattle.planning.proofs.Laws.ByValue.{most-capacity_in}
use Rattle.planning.proofs.Laws.Front.{stored_none, stored_more}
use Rattle.planning.proofs.Laws.Tables.{length-listed, at_listed}
use Rattle.allocation.specs.Laws.Searches.{amount-at}
use Rattle.allocation.specs.Laws.Spares.{load_at, spares_stored, load-within}
use Rattle.allocation.proofs.accepted.Accepted.write_spares.Goals as goal

-- the load of an engine is at most its capacity, and so at most the most fuel
module _ {p : Plan} (u : Usable p) (T : ℕ) {amounts : List ℕ} (are : amounts ≡ padded most_engines (each_capacity (engines_in p.engines) T))
    (table : List ℕ) (serves : Serves 1 (plan_in p) T (piece_in p.engines.count table)) (i : ℕ) (l : i < p.engines.count) where
  load-most : load_at p.engines.count p.deliveries.count table i ≤ most_fuel
  load-most = omega (arith, load-within u T are table serves i l, amount-at u.engines T are i, most-capacity_in u.engines T i l)

pub loop-i-init : goal.loop-i-init
loop-i-init c = stored_none _ _

pub load-requires-clause-most : goal.load-requires-clause-most
load-requires-clause-most c =
    load-most c.args.self.now.usable _ c.capacities-capacities.ensures _ c.requires.serves c.loop-i.i (omega arith)

pub overflow_sub-left : goal.overflow_sub-left
overflow_sub-left c =
    omega (
      arith,
      load-within c.args.self.now.usable _ c.capacities-capacities.ensures _ c.requires.serves c.loop-i.i (omega arith),
      c.load.ensures,
      c.from.ensures,
    )

pub loop-i-preserved : goal.loop-i-preserved
loop-i-preserved c =
    let a = c.args in
    let engines = a.self.now.plan.engines.count in
    let left : ℕ → ℕ = λ i. at c.capacities-capacities.result i - load_at engines a.self.now.plan.deliveries.count a.self.now.table.now i in
    let l : c.loop-i.i < engines = omega arith in
    stored_more c.loop-i.invariant _
    (ap₂ (◌-◌) c.from.ensures c.load.ensures ∙ sym (at_listed engines left c.loop-i.i l))
    (rw (length-listed engines left) l)
    (omega arith)

pub returns : goal.returns
returns c =
    let pre = c.requires in
    spares_stored c.args.self.now.usable _ c.capacities-capacities.ensures _ c.loop-i.invariant pre.spare (omega arith)
