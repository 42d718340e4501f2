-- The spare lookup: its refusals in order, and answers that are permitted or not, by evaluation.
-- Assumes nothing.
use Rattle.std.specs.Prelude.{◌≡◌, refl, List, [], ◌∷◌, map, ℕ, replicate, Ok, Some, None}
use Rattle.std.proofs.Math.Option.{Option, none, some}
use Rattle.std.proofs.Common.{arith}
use Rattle.planning.specs.declared.Fault.{Fault}
use Rattle.planning.specs.declared.Fault.TheVariants.{Value, Count, NoEngine}
use Rattle.planning.specs.declared.Refusal.{Refusal}
use Rattle.planning.specs.Numbers.{within}
use Rattle.planning.specs.Refusals.{check, ◌then◌}
use Rattle.planning.specs.SpareLookup.{lookup_refusal, Names, PermittedBy, Permitted}

-- a spare list, an amount, and the fault that it is turned down for, at place 0
pub record Example : Type 0 where
  pub spare : List ℕ
  pub amount : ℕ
  pub refusal : Option Refusal

turned_down : List ℕ → ℕ → Fault → Example
turned_down spare amount fault = record { spare = spare; amount = amount; refusal = some (record { fault = fault; place = 0 }) }

pub evaluated : Example → Example
unfolding lookup_refusal check ◌then◌ within
evaluated e = record { spare = e.spare; amount = e.amount; refusal = lookup_refusal e.spare e.amount }

pub lookups : List Example
unfolding turned_down
lookups =
    -- 8, 7, then 6
    turned_down [] 5 NoEngine
    ∷ turned_down (replicate 13 9) 5 Count
    ∷ turned_down (3 ∷ 4 ∷ []) 0 Value
    ∷ turned_down (3 ∷ 4 ∷ []) 1000000001 Value
    -- 8 before 6, 7 before 6
    ∷ turned_down [] 0 NoEngine
    ∷ turned_down (replicate 13 9) 0 Count
    -- accepted: 1 engine and 12, and both ends of the range
    ∷ record { spare = 5 ∷ []; amount = 5; refusal = none }
    ∷ record { spare = replicate 12 0; amount = 1; refusal = none }
    ∷ record { spare = 3 ∷ 4 ∷ []; amount = 1000000000; refusal = none }
    ∷ []

pub lookups_hold : map evaluated lookups ≡ lookups
unfolding evaluated lookups
lookups_hold = refl

-- either of two engines that have the amount may be named ..
pub first-permitted : Permitted (5 ∷ 3 ∷ 7 ∷ []) 4 (Ok (Some 0))
unfolding Permitted PermittedBy Names lookup_refusal check ◌then◌ within
first-permitted = (omega arith, omega arith)

pub last-permitted : Permitted (5 ∷ 3 ∷ 7 ∷ []) 4 (Ok (Some 2))
unfolding Permitted PermittedBy Names lookup_refusal check ◌then◌ within
last-permitted = (omega arith, omega arith)

-- .. but none that lacks it, none that is not there, and not "none has it"
pub smaller_forbidden : Permitted (5 ∷ 3 ∷ 7 ∷ []) 4 (Ok (Some 1)) → ⊥
unfolding Permitted PermittedBy Names lookup_refusal check ◌then◌ within
smaller_forbidden h = omega (arith, h.1)

pub outside_forbidden : Permitted (5 ∷ 3 ∷ 7 ∷ []) 4 (Ok (Some 3)) → ⊥
unfolding Permitted PermittedBy Names lookup_refusal check ◌then◌ within
outside_forbidden h = omega (arith, h.0)

pub nowhere_forbidden : Permitted (5 ∷ 3 ∷ 7 ∷ []) 4 (Ok None) → ⊥
unfolding Permitted PermittedBy Names lookup_refusal check ◌then◌ within
nowhere_forbidden h = omega (arith, h 0 (omega arith))
