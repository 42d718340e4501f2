-- At each return the tests passed so far, and the one that fails, decide the refusal.
use Rattle.std.proofs.Common.{arith}
use Rattle.std.proofs.lemmas.Bool.Decides.{nat_tests}
use Rattle.planning.specs.Numbers.{within}
use Rattle.planning.specs.Refusals.{check, ◌then◌, verdict_of}
use Rattle.checks.specs.Laws.Parts.{outside}
use Rattle.checks.specs.Parts.{value_at, values_refusal}
use Rattle.checks.proofs.refusals.values.Goals as goal

pub returns-then-not-contains : goal.returns-then-not-contains
unfolding values_refusal within check ◌then◌ verdict_of
returns-then-not-contains c = grind (arith, nat_tests)

pub returns-in-Some : goal.returns-in-Some
unfolding values_refusal value_at within check ◌then◌ verdict_of
returns-in-Some c =
    let engine =
    outside c.new-2.result c.new-3.result _
    c.new-2.ensures.start c.new-2.ensures.end c.new-3.ensures.start c.new-3.ensures.end c.first_outside.ensures.first in
    rw (← engine, c.in-Some.is) (grind (arith, nat_tests))

pub returns-in-Some-first_outside : goal.returns-in-Some-first_outside
unfolding values_refusal value_at within check ◌then◌ verdict_of
returns-in-Some-first_outside c =
    let engine =
    outside c.new-2.result c.new-3.result _
    c.new-2.ensures.start c.new-2.ensures.end c.new-3.ensures.start c.new-3.ensures.end c.first_outside.ensures.first in
    let delivery =
    outside c.new-4.result c.new-5.result _
    c.new-4.ensures.start c.new-4.ensures.end c.new-5.ensures.start c.new-5.ensures.end c.first_outside-2.ensures.first in
    rw (← engine, c.in_default.is, ← delivery, c.in-Some-first_outside.is) (grind (arith, nat_tests))

pub returns : goal.returns
unfolding values_refusal value_at within check ◌then◌ verdict_of
returns c =
    let engine =
    outside c.new-2.result c.new-3.result _
    c.new-2.ensures.start c.new-2.ensures.end c.new-3.ensures.start c.new-3.ensures.end c.first_outside.ensures.first in
    let delivery =
    outside c.new-4.result c.new-5.result _
    c.new-4.ensures.start c.new-4.ensures.end c.new-5.ensures.start c.new-5.ensures.end c.first_outside-2.ensures.first in
    rw (← engine, c.in_default.is, ← delivery, c.in_default-first_outside.is) (grind (arith, nat_tests))
