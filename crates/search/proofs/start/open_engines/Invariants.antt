-- The loop's invariant: the set has those of the engines passed that have a capacity, and no other member.
use Rattle.std.proofs.Common.{◌≡◌, ℕ, ◌^◌, ◌<◌, ltb}
use Rattle.planning.specs.Tables.{at}
use Rattle.search.specs.Sets.{has}
use Rattle.search.proofs.start.open_engines.Given as goal

abbrev pub invariant-loop-i : goal.invariant-loop-i
invariant-loop-i l =
    (l.«open» < 2 ^ l.i) × ((k : ℕ) → k < l.i → has l.«open» k ≡ ltb 0 (at l.capacities k))
