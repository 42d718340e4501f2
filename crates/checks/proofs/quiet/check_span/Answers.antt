-- At each return the tests passed so far, and the one that fails, decide the refusal.
use Rattle.std.proofs.Common.{arith}
use Rattle.std.proofs.lemmas.Bool.Decides.{nat_tests}
use Rattle.planning.specs.Numbers.{quiet_fault, within}
use Rattle.planning.specs.Refusals.{check, ◌then◌, verdict_of}
use Rattle.checks.proofs.quiet.check_span.Goals as goal

pub returns-then-span-gt-MOST_MINUTES : goal.returns-then-span-gt-MOST_MINUTES
unfolding quiet_fault within check ◌then◌ verdict_of
returns-then-span-gt-MOST_MINUTES c = grind (arith, nat_tests)

pub returns-then-not-contains : goal.returns-then-not-contains
unfolding quiet_fault within check ◌then◌ verdict_of
returns-then-not-contains c = grind (arith, nat_tests)

pub returns-then-not-fits_among : goal.returns-then-not-fits_among
unfolding quiet_fault within check ◌then◌ verdict_of
returns-then-not-fits_among c = grind (arith, nat_tests)

pub returns : goal.returns
unfolding quiet_fault within check ◌then◌ verdict_of
returns c = grind (arith, nat_tests)
