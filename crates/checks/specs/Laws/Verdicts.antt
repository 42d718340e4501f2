-- What the code's verdicts on checks say of them.
-- Assumes nothing.
use Rattle.std.specs.Prelude.{◌≡◌, refl, Bool, true, ℕ, Ok, Err}
use Rattle.std.proofs.Math.Option.{Option, none, some}
use Rattle.planning.specs.declared.Fault.{Fault}
use Rattle.planning.specs.declared.Refusal.{Refusal}
use Rattle.planning.specs.Refusals.{check, ◌then◌, verdict_of}

-- a check that passes leaves what follows
pub passes : (test : Bool) (fault : Fault) (place : ℕ) (later : Option Refusal) → test ≡ true → check test fault place then later ≡ later
unfolding check ◌then◌
passes test fault place later e = rw e

-- what a verdict says of the refusal
pub accepted-by : (o : Option Refusal) → Ok tt ≡ verdict_of o → o ≡ none
unfolding verdict_of
accepted-by none e = refl
accepted-by (some r) e = cc

pub refused-by : (o : Option Refusal) (refusal : Refusal) → Err refusal ≡ verdict_of o → o ≡ some refusal
unfolding verdict_of
refused-by none refusal e = cc
refused-by (some r) refusal e = cc

-- a verdict on two checks in order
pub accepted-first : (first later : Option Refusal) → Ok tt ≡ verdict_of first → verdict_of later ≡ verdict_of (first then later)
unfolding ◌then◌
accepted-first first later e = rw (accepted-by first e)

pub refused-first : (first later : Option Refusal) (refusal : Refusal) → Err refusal ≡ verdict_of first
    → Err refusal ≡ verdict_of (first then later)
unfolding ◌then◌ verdict_of
refused-first first later refusal e = rw (refused-by first refusal e)
