-- A plan as the lists of numbers that its search works on, and the list of its spares.
-- Assumes nothing.
use Rattle.std.specs.Prelude.{◌≡◌, List, [], ◌∷◌, map, ℕ, zero, suc, ◌≤◌, ◌<◌, length}
use Rattle.std.proofs.lemmas.List.{length-map}
use Rattle.std.proofs.Common.{arith}
use Rattle.planning.specs.Capacity.{capacity, capacities}
use Rattle.planning.specs.Tables.{at}
use Rattle.planning.specs.Plan.{Plan, Delivery, All, DeliveryInRange, energies, limits}

pub length-capacities : (plan : Plan) (T : ℕ) → length (capacities plan T) ≡ length plan.engines
unfolding capacities
length-capacities plan T = length-map plan.engines (λ e. capacity e T)

pub length-energies : (plan : Plan) → length (energies plan) ≡ length plan.deliveries
length-energies plan = length-map plan.deliveries (λ d. d.energy)

pub length-limits : (plan : Plan) → length (limits plan) ≡ length plan.deliveries
length-limits plan = length-map plan.deliveries (λ d. d.limit)

-- a limit in range is at least 1
pub limit-positive : (plan : Plan) → All DeliveryInRange plan.deliveries → (p : ℕ) → p < length plan.deliveries → 1 ≤ at (limits plan) p
limit-positive plan = go plan.deliveries
  where
    go : (ds : List Delivery) → All DeliveryInRange ds → (p : ℕ) → p < length ds → 1 ≤ at (map (λ (d : Delivery). d.limit) ds) p
    go [] h p l = absurd (omega arith)
    go (d ∷ ds) h zero l = h.0.limit.least
    go (d ∷ ds) h (suc p) l = go ds h.1 p (omega arith)
