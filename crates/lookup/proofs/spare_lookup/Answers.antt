-- At each return the tests passed so far, and the one that fails, decide the refusal; past them `find` names an engine.
use Rattle.std.proofs.Common.{arith, ap, Err}
use Rattle.std.proofs.lemmas.Bool.Decides.{nat_tests}
use Rattle.planning.proofs.Laws.SpareLookup.{looked-up, refused-permitted, named-permitted}
use Rattle.planning.specs.Numbers.{within}
use Rattle.planning.specs.Refusals.{check, ◌then◌}
use Rattle.planning.specs.SpareLookup.{lookup_refusal}
use Rattle.lookup.proofs.spare_lookup.Goals as goal

pub returns-then-is_empty : goal.returns-then-is_empty
unfolding lookup_refusal check ◌then◌
returns-then-is_empty c = looked-up _ _ (refused-permitted c.args.spare.now c.args.amount (grind (arith, nat_tests)) (ap Err c.at.ensures))

pub returns-then-spare-gt-MOST_ENGINES : goal.returns-then-spare-gt-MOST_ENGINES
unfolding lookup_refusal check ◌then◌
returns-then-spare-gt-MOST_ENGINES c =
    looked-up _ _
    (refused-permitted c.args.spare.now c.args.amount (grind (arith, nat_tests)) (ap Err c.at-then-spare-gt-MOST_ENGINES.ensures))

pub returns-then-not-contains : goal.returns-then-not-contains
unfolding lookup_refusal check ◌then◌ within
returns-then-not-contains c =
    looked-up _ _ (refused-permitted c.args.spare.now c.args.amount (grind (arith, nat_tests)) (ap Err c.at-then-not-contains.ensures))

pub returns : goal.returns
unfolding lookup_refusal check ◌then◌ within
returns c = looked-up _ _ (named-permitted c.args.spare.now c.args.amount _ (grind (arith, nat_tests)) c.find.ensures)
