-- The search at MINUTES and the bisection write the scratch table, which is copied where the answer is found.
use Rattle.std.proofs.Common.{◌≡◌, ◌≢◌, length, rules}
use Rattle.planning.specs.declared.Outcome.TheVariants.{Found}
use Rattle.planning.specs.ByValue.{plan_in}
use Rattle.allocation.specs.Laws.Modes.{found-ended, shortest_bisects, shortest-ends, copied_whole, found_copied, other-kept, other-answered}
use Rattle.allocation.proofs.accepted.Accepted.shortest.Goals as goal

pub returns-then-ne-clause-answers : goal.returns-then-ne-clause-answers
unfolding plan_in
returns-then-ne-clause-answers c =
    let ends = c.search_at-ended.ensures.ends in
    let other : c.search_at-ended.result.outcome ≢ Found = search rules in
    rw (shortest-ends _ ends.ended other) (other-answered _ _ ends other c.answer_of.ensures _)

pub bisect-found-requires : goal.bisect-found-requires
bisect-found-requires c =
    let is : c.search_at-ended.result.outcome ≡ Found = search rules in
    rw c.search_at-ended.ensures.kept.0 (found-ended c.search_at-ended.ensures.ends is)

pub returns-then-eq-clause-answers : goal.returns-then-eq-clause-answers
unfolding plan_in
returns-then-eq-clause-answers c =
    let is : c.search_at-ended.result.outcome ≡ Found = search rules in
    let answered : c.bisect-found.result.0.outcome ≡ Found = search rules in
    let bisects = rw c.search_at-ended.ensures.kept.0 at c.bisect-found.ensures.answers in
    let same : length c.bisect-found.result.1.now ≡ length c.args.self.now.table.now = search rules in
    rw (shortest_bisects _ (found-ended c.search_at-ended.ensures.ends is).result) (found_copied bisects answered _ (copied_whole _ _ same c.copy.ensures))

pub returns-else-eq-clause-answers : goal.returns-else-eq-clause-answers
unfolding plan_in
returns-else-eq-clause-answers c =
    let is : c.search_at-ended.result.outcome ≡ Found = search rules in
    let other : c.bisect-found.result.0.outcome ≢ Found = search rules in
    let bisects = rw c.search_at-ended.ensures.kept.0 at c.bisect-found.ensures.answers in
    rw (shortest_bisects _ (found-ended c.search_at-ended.ensures.ends is).result) (other-kept bisects other _)
