-- An untouched delivery has its energy and limit, and one that is begun has its slot's.
use Rattle.std.proofs.Common.{rules, refl, sym, ap, ◌∙◌, ℕ, ◌-◌, arith}
use Rattle.std.specs.Int.Count.{ones}
use Rattle.planning.specs.Tables.{at}
use Rattle.search.proofs.Begun.{slot_inside, by_slot}
use Rattle.search.specs.Laws.Layout.Deliveries.{served-few}
use Rattle.search.specs.Laws.Layout.Slots.{limit-left}
use Rattle.search.proofs.view.View.candidate_at.Goals as goal

pub map_or-rest-requires : goal.map_or-rest-requires
map_or-rest-requires c = λ k e. search (rules, slot_inside c.args.self.now.kept c.args.p (rw e at c.slot_of-slot.ensures))

pub limit_left-requires : goal.limit_left-requires
limit_left-requires c =
    let told = by_slot c.args.self.now.kept c.args.p c.slot_of-slot.ensures c.map_or-rest.result.0 c.map_or-rest.result.1
    (λ e. search rules) (λ k e. search rules) in
    omega (arith, ap ones told.1, served-few c.args.self.now.kept.deliveries c.args.p c.requires)

pub returns : goal.returns
returns c =
    let told = by_slot c.args.self.now.kept c.args.p c.slot_of-slot.ensures c.map_or-rest.result.0 c.map_or-rest.result.1
    (λ e. search rules) (λ k e. search rules) in
    record {
      is_row = refl;
      picked = record { is_left = c.requires; is_rest = told.0; is_slot = c.slot_of-slot.ensures };
      is_limit =
          c.limit_left.ensures
          ∙ ap (λ (n : ℕ). at c.args.self.now.task.now.limits.now c.args.p - ones n) told.1
          ∙ sym (limit-left _ _ _ _ _ _ c.requires);
      is_served = told.1;
      is_most = refl;
    }
