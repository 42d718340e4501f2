-- Cuttings, and that one serves a plan (document 01, "Capacity and tries"). "The search has no part in this."
-- Assumes nothing.
use Rattle.std.specs.Prelude.{◌≡◌, ℕ, ◌*◌, ◌≤◌, ◌<◌, List, length, get_or}
use Rattle.planning.specs.Capacity.{capacities}
use Rattle.planning.specs.Plan.{Plan, energies, limits}
use Rattle.planning.specs.Sum.{sum, positives}

-- A table with "a piece for every delivery and engine", x p i of delivery p and engine i, for any number of engines and deliveries,
-- amounts, capacities and limits.
pub record Fits (engines deliveries : ℕ) (capacity amount limit : ℕ → ℕ) (x : ℕ → ℕ → ℕ) : Type 0 where
  -- "each delivery's pieces add up to" its amount
  pub whole : (p : ℕ) → p < deliveries → sum engines (x p) ≡ amount p
  -- "each engine's pieces to at most" its capacity
  pub within : (i : ℕ) → i < engines → sum deliveries (λ p. x p i) ≤ capacity i
  -- "and at most LIMIT of a delivery's pieces are above 0": "The set of engines that serve a delivery has at most LIMIT members."
  pub few : (p : ℕ) → p < deliveries → positives engines (x p) ≤ limit p

-- "A cutting in n equal parts of a watt-hour, n any whole number from 1, has a piece for every delivery and engine: a whole
-- number of n-ths, 0 included." Amounts are "n × ENERGY", capacities "n × its capacity".
pub record Cuts (n : ℕ) (capacity energy limit : List ℕ) (x : ℕ → ℕ → ℕ) : Type 0 where
  pub from_one : 1 ≤ n
  pub fits : Fits (length capacity) (length energy) (λ i. n * get_or capacity i 0) (λ p. n * get_or energy p 0) (λ p. get_or limit p 0) x

-- "It serves the plan in T minutes": with the engines' capacities for T minutes
abbrev pub Serves : ℕ → Plan → ℕ → (ℕ → ℕ → ℕ) → Type 0
Serves n plan T x = Cuts n (capacities plan T) (energies plan) (limits plan) x

-- some cutting, in some number of parts, serves the plan in T minutes
pub record Served (plan : Plan) (T : ℕ) : Type 0 where
  pub parts : ℕ
  pub piece : ℕ → ℕ → ℕ
  pub serves : Serves parts plan T piece

-- for every n from 1, no cutting in n parts serves the plan in T minutes
abbrev pub NotServed : Plan → ℕ → Type 0
NotServed plan T = (n : ℕ) (x : ℕ → ℕ → ℕ) → Serves n plan T x → ⊥

-- "a shortest time is the minutes carried with found under `shortest`": what such minutes are to be. A cutting serves in T minutes,
-- T from 1, and none does in any smaller number of whole minutes, down to one.
pub record ShortestTime (plan : Plan) (T : ℕ) : Type 0 where
  pub from_one : 1 ≤ T
  pub served : Served plan T
  pub earlier : (T' : ℕ) → 1 ≤ T' → T' < T → NotServed plan T'
