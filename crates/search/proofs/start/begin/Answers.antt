-- Step A by the two sums, the other steps by the search from the first state.
use Rattle.std.proofs.Common.{rules, refl, ◌≤◌, sym, ap, ◌∙◌, arith}
use Rattle.planning.specs.Search.{Result, total}
use Rattle.search.specs.Laws.Ranges.{too_much, begun, searched-from, total-sum}
use Rattle.search.specs.Promises.{ended_of, written}
use Rattle.search.proofs.start.begin.Goals as goal

pub returns-then-total : goal.returns-then-total
unfolding ended_of written
returns-then-total c =
    let task = c.args.task.now in
    let capacities = total-sum task.capacities.now in
    let energies = total-sum task.energies.now in
    let none_at = too_much c.requires (omega (arith, c.total.ensures, c.total-2.ensures, c.if-total.true)) in
    record {
      is_ended = sym (ap ended_of none_at);
      is_table = sym (ap (λ (r : Result). written r c.args.table.now) none_at);
    }

pub choose-outcome-requires : goal.choose-outcome-requires
choose-outcome-requires c =
    begun c.requires c.first_deliveries-left.result c.open_engines.result
    c.first_amounts.ensures c.first_deliveries-left.ensures c.open_engines.ensures _ refl refl refl

pub returns : goal.returns
returns c =
    let task = c.args.task.now in
    let capacities = total-sum task.capacities.now in
    let energies = total-sum task.energies.now in
    let enough : total task.energies.now ≤ total task.capacities.now = omega (arith, c.total.ensures, c.total-2.ensures, c.if-total.false) in
    let same =
    searched-from c.requires c.first_deliveries-left.result c.open_engines.result
    c.first_amounts.ensures c.first_deliveries-left.ensures c.open_engines.ensures enough in
    record {
      is_ended = c.choose-outcome.ensures.ends.is_ended ∙ sym (ap ended_of same);
      -- the run's table is the one that was lent
      is_table =
          search (rules, sym c.choose-outcome.ensures.same_table)
          ∙ c.choose-outcome.ensures.ends.is_table
          ∙ sym (ap (λ (r : Result). written r c.args.table.now) same);
    }
