-- At each return the tests passed so far, and the one that fails, decide the refusal.
use Rattle.std.proofs.Common.{arith}
use Rattle.std.proofs.lemmas.Bool.Decides.{nat_tests}
use Rattle.planning.specs.Refusals.{check, ◌then◌, verdict_of}
use Rattle.checks.specs.Parts.{counts_refusal}
use Rattle.checks.proofs.refusals.counts.Goals as goal

pub returns-then-engines-eq0 : goal.returns-then-engines-eq0
unfolding counts_refusal check ◌then◌ verdict_of
returns-then-engines-eq0 c = grind (arith, nat_tests)

pub returns-then-engines-gt-MOST_ENGINES : goal.returns-then-engines-gt-MOST_ENGINES
unfolding counts_refusal check ◌then◌ verdict_of
returns-then-engines-gt-MOST_ENGINES c = grind (arith, nat_tests)

pub returns-then-table-deliveries : goal.returns-then-table-deliveries
unfolding counts_refusal check ◌then◌ verdict_of
returns-then-table-deliveries c = grind (arith, nat_tests)

pub returns : goal.returns
unfolding counts_refusal check ◌then◌ verdict_of
returns c = grind (arith, nat_tests)
