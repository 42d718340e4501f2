-- Capacity where an engine is never quiet, and where it always is.
-- Assumes nothing.
use Rattle.std.specs.Prelude.{◌≡◌, refl, false, List, [], ◌∷◌, map, ℕ, ◌*◌, ◌/◌, ◌<◌, min}
use Rattle.std.proofs.Common.{ap₂, mul-zero, arith}
use Rattle.planning.specs.Capacity.{capacity, capacities}
use Rattle.planning.proofs.Laws.Quiet.{running_always, running_never}
use Rattle.planning.specs.Plan.{Plan, Engine, All}
use Rattle.planning.specs.Quiet.{runs}

-- Document 01's own: "An engine's capacity for T minutes is the smaller of FUEL and WATTS × T / 60 rounded down."
unfoldable pub basic_capacity : Engine → ℕ → ℕ
basic_capacity e T = min e.fuel (e.watts * T / 60)

-- An engine without spans has that capacity ..
pub capacity_basic : (e : Engine) (T : ℕ) → e.quiet ≡ [] → capacity e T ≡ basic_capacity e T
unfolding capacity basic_capacity
capacity_basic e T none = rw (none, running_always T)

-- .. and a plan without spans those capacities.
pub capacities_basic : (plan : Plan) (T : ℕ) → All (λ (e : Engine). e.quiet ≡ []) plan.engines
    → capacities plan T ≡ map (λ (e : Engine). basic_capacity e T) plan.engines
unfolding capacities
capacities_basic plan T = go plan.engines
  where
    go : (engines : List Engine) → All (λ (e : Engine). e.quiet ≡ []) engines
        → map (λ (e : Engine). capacity e T) engines ≡ map (λ (e : Engine). basic_capacity e T) engines
    go [] none = refl
    go (e ∷ engines) none = ap₂ ◌∷◌ (capacity_basic e T none.0) (go engines none.1)

-- "an engine wholly quiet is simply closed": where every minute before T lies in a span, nothing is left of it.
pub capacity-quiet : (e : Engine) (T : ℕ) → ((m : ℕ) → m < T → runs e.quiet m ≡ false) → capacity e T ≡ 0
unfolding capacity
capacity-quiet e T still = rw (running_never e.quiet T still, mul-zero e.watts) (omega arith)
