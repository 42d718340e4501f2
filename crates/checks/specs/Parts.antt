-- The refusals on numbers in the parts that the code checks them in. That they make up planning's `refusal_of` is proved in Laws/Parts.
-- Assumes nothing.
use Rattle.std.specs.Prelude.{ℕ, ◌+◌, ◌*◌, Bool, not, ◌&&◌, leb, eqb, length, position, Option as Place, Some, None}
use Rattle.std.specs.List.{zip}
use Rattle.std.specs.Range.{range_inclusive_start, range_inclusive_end}
use Rattle.std.specs.declared.ops.RangeInclusive.{RangeInclusive}
use Rattle.std.proofs.Math.Option.{Option, none, some}
use Rattle.planning.specs.declared.Fault.TheVariants.{Value, Count, NoEngine, Space}
use Rattle.planning.specs.declared.Refusal.{Refusal}
use Rattle.planning.specs.Bounds.{most_engines, most_deliveries, most_minutes, most_tries, most_watts, most_fuel, most_energy, most_limit}
use Rattle.planning.specs.Numbers.{Call, within}
use Rattle.planning.specs.Refusals.{check, ◌then◌}

-- 8, 7 and 9, on lengths alone
unfoldable pub counts_refusal : (engines deliveries table spare : ℕ) → Option Refusal
counts_refusal engines deliveries table spare =
    check (leb 1 engines) NoEngine 0
    then check (leb engines most_engines) Count 0
    then check (leb deliveries most_deliveries) Count 0
    then check (eqb table (deliveries * engines)) Space 0
    then check (eqb spare engines) Space 0

-- two figures that are in the ranges of a first and a second
abbrev pub sound : (first second : RangeInclusive ℕ) → ℕ × ℕ → Bool
sound first second pair =
    within (range_inclusive_start first) (range_inclusive_end first) pair.0
    && within (range_inclusive_start second) (range_inclusive_end second) pair.1

-- watts and fuel of an engine, energy and limit of a delivery, that are in their ranges
abbrev pub engine_sound : ℕ × ℕ → Bool
engine_sound e = within 0 most_watts e.0 && within 0 most_fuel e.1

abbrev pub delivery_sound : ℕ × ℕ → Bool
delivery_sound d = within 1 most_energy d.0 && within 1 most_limit d.1

-- 6 at a place of a list, the first of which has the record number r
unfoldable pub value_at : (r : ℕ) → Place ℕ → Option Refusal
value_at r None = none
value_at r (Some i) = some (record { fault = Value; place = r + i })

-- 6 over minutes, allowance, engines, deliveries: of two lists side by side the first pair with a figure out of its range
unfoldable pub values_refusal : Call → Option Refusal
values_refusal call =
    check (within 1 most_minutes call.minutes) Value 1
    then check (within 0 most_tries call.allowance) Value 1
    then value_at 2 (position (λ e. not (engine_sound e)) (zip call.watts call.fuels))
    then value_at (2 + length call.watts) (position (λ d. not (delivery_sound d)) (zip call.energies call.limits))
