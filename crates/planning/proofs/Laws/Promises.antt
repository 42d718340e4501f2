-- The page to read first: what the definitions promise, in their own words. Demand 3 is `none-exactly` with `shortest_time`,
-- demand 2's table is `found-serves`, and its stopped is `stopped-exactly`. The theorems about found and none take a plan in range,
-- which every accepted plan is; those about stopped take any plan.
-- Assumes nothing.
use Rattle.std.specs.Prelude.{◌≡◌, refl, ◌≢◌, ◌↔◌, List, ℕ, ◌+◌, ◌≤◌, ◌<◌, length}
use Rattle.std.proofs.Common.{sym, ap, subst, ◌∙◌, arith}
use Rattle.planning.specs.declared.Mode.TheVariants.{Fixed, Shortest}
use Rattle.planning.specs.declared.Outcome.TheVariants.{Found, None, Stopped}
use Rattle.planning.specs.Capacity.{capacities}
use Rattle.planning.specs.Cutting.{Served, NotServed, Serves, ShortestTime}
use Rattle.planning.proofs.Laws.Lent.{lent-serves, kept-unless-found}
use Rattle.planning.proofs.Laws.Modes.{LeastTime, planned-searched, planned-none_exactly, planned-fixed-found, planned-shortest-found, fixed-shortest-found}
use Rattle.planning.proofs.Laws.Search.Tries.{WithAllowance, stopped-outcome, going_outcome, searched_with_allowance}
use Rattle.planning.proofs.Laws.Soundness.{plan-serves, plan-length, plan-pieces, plan-spares}
use Rattle.planning.specs.Modes.{planned, planned_in, search_at, unlimited_at, answer_of, outcome_of, tries_of, spares, table_by, table_after, spares_after}
use Rattle.planning.specs.Tables.{piece_in, at}
use Rattle.planning.specs.Plan.{Plan, Within, InRange, energies, limits}
use Rattle.planning.specs.Search.{Result, found, none, stopped}
use Rattle.planning.specs.Sum.{sum, positives}

-- Unless the answer is stopped, it is none exactly when, for every n from 1, no cutting in n parts serves the plan in its MINUTES;
-- in both modes.
pub none-exactly : (plan : Plan) → InRange plan → (answer_of (planned plan)).outcome ≢ Stopped
    → ((answer_of (planned plan)).outcome ≡ None) ↔ NotServed plan plan.minutes
unfolding answer_of
none-exactly plan ranges = planned-none_exactly plan ranges.deliveries

-- The answered minutes are from 1 to the plan's MINUTES.
pub answered-minutes : (plan : Plan) → InRange plan → Within 1 plan.minutes (answer_of (planned plan)).minutes
unfolding answer_of
answered-minutes plan ranges =
    record { least = (planned-searched plan).least ranges.minutes.least; most = (planned-searched plan).most }

-- Where a shortest time T is answered, a cutting serves the plan in T minutes, and for every whole T' with 1 ≤ T' < T none does, in any n.
pub shortest_time : (plan : Plan) → InRange plan → plan.mode ≡ Shortest → (answer_of (planned plan)).outcome ≡ Found
    → ShortestTime plan (answer_of (planned plan)).minutes
unfolding answer_of
shortest_time plan ranges mode finds =
    let least : LeastTime plan (planned plan).minutes = planned-shortest-found plan ranges.deliveries mode finds in
    record { from_one = (answered-minutes plan ranges).least; served = least.served; earlier = least.earlier }

-- Where a fixed time is answered found, it is the plan's MINUTES, and a cutting serves in them.
pub fixed_time : (plan : Plan) → InRange plan → plan.mode ≡ Fixed → (answer_of (planned plan)).outcome ≡ Found
    → ((answer_of (planned plan)).minutes ≡ plan.minutes) × Served plan plan.minutes
unfolding answer_of
fixed_time plan ranges = planned-fixed-found plan ranges.deliveries

-- Unless one of them is stopped, fixed finds a plan exactly when shortest does.
pub fixed-found_exactly : (plan : Plan) → InRange plan → (answer_of (planned_in Fixed plan)).outcome ≢ Stopped
    → (answer_of (planned_in Shortest plan)).outcome ≢ Stopped
    → ((answer_of (planned_in Fixed plan)).outcome ≡ Found) ↔ ((answer_of (planned_in Shortest plan)).outcome ≡ Found)
unfolding answer_of
fixed-found_exactly plan ranges = fixed-shortest-found plan ranges.deliveries

-- A found table gives each delivery exactly its energy, loads no engine beyond its capacity for the answered minutes, and draws no
-- delivery from more engines than its limit: it is a cutting in 1 part that serves.
pub found-serves : (plan : Plan) → InRange plan → {tries : ℕ} {table : List ℕ} → (planned plan).result ≡ found tries table
    → Serves 1 plan (planned plan).minutes (piece_in (length plan.engines) table)
found-serves plan ranges e = plan-serves plan (planned plan).minutes ranges.deliveries (sym (planned-searched plan).result ∙ e)

-- So does the lent table after found, read from its front, whatever it held before; and unless the answer is found, the lent table and
-- spare list stay as they were.
pub lent-table-serves : (plan : Plan) → InRange plan → (lent : List ℕ) → (answer_of (planned plan)).outcome ≡ Found
    → Serves 1 plan (planned plan).minutes (piece_in (length plan.engines) (table_after plan lent))
unfolding answer_of outcome_of table_after table_by
lent-table-serves plan ranges lent = go (planned plan).result refl
  where
    go : (r : Result) → (planned plan).result ≡ r → outcome_of r ≡ Found
        → Serves 1 plan (planned plan).minutes (piece_in (length plan.engines) (table_by r lent))
    go (found tries table) e h =
        lent-serves plan (planned plan).minutes table lent
        (plan-length plan (planned plan).minutes ranges.deliveries (sym (planned-searched plan).result ∙ e)) (found-serves plan ranges e)
    go (none tries) e h = let z : ◌≡◌ {A = ℕ} 0 1 = cc in absurd (omega arith)
    go (stopped tries) e h = let z : ◌≡◌ {A = ℕ} 0 1 = cc in absurd (omega arith)

pub lent-kept : (plan : Plan) (table spare : List ℕ) → (answer_of (planned plan)).outcome ≢ Found
    → (table_after plan table ≡ table) × (spares_after plan spare ≡ spare)
unfolding answer_of
lent-kept = kept-unless-found

-- Each engine's spare and its pieces add up to its capacity for the answered minutes.
pub found-spares : (plan : Plan) → InRange plan → {tries : ℕ} {table : List ℕ} → (planned plan).result ≡ found tries table
    → (i : ℕ) → i < length plan.engines
    → at (spares plan (planned plan).minutes table) i
    + sum (length plan.deliveries) (λ p. piece_in (length plan.engines) table p i)
    ≡ at (capacities plan (planned plan).minutes) i
found-spares plan ranges e = plan-spares plan (planned plan).minutes ranges.deliveries (sym (planned-searched plan).result ∙ e)

-- A found table has at most deliveries + engines pieces above 0.
pub found-pieces : (plan : Plan) → InRange plan → {tries : ℕ} {table : List ℕ} → (planned plan).result ≡ found tries table
    → positives (length table) (at table) ≤ length plan.deliveries + length plan.engines
found-pieces plan ranges e = plan-pieces plan (planned plan).minutes ranges.deliveries (sym (planned-searched plan).result ∙ e)

-- The search at the answered minutes, with the allowance and without.
at_the_answer : (plan : Plan) → WithAllowance plan.allowance 0 (unlimited_at plan (planned plan).minutes) (planned plan).result
unfolding unlimited_at search_at
at_the_answer plan =
    subst (WithAllowance plan.allowance 0 (unlimited_at plan (planned plan).minutes)) (sym (planned-searched plan).result)
    (searched_with_allowance plan.allowance (capacities plan (planned plan).minutes) (energies plan) (limits plan))

-- The answer is stopped exactly when the search at the answered minutes needs more tries than were allowed ..
pub stopped-exactly : (plan : Plan)
    → ((answer_of (planned plan)).outcome ≡ Stopped) ↔ (plan.allowance < tries_of (unlimited_at plan (answer_of (planned plan)).minutes))
unfolding answer_of
stopped-exactly plan = stopped-outcome (at_the_answer plan) (omega arith)

-- .. and its tries are then the allowance.
pub stopped-tries : (plan : Plan) → (answer_of (planned plan)).outcome ≡ Stopped → (answer_of (planned plan)).tries ≡ plan.allowance
unfolding answer_of tries_of
stopped-tries plan e = ap tries_of ((at_the_answer plan).beyond (omega arith) ((stopped-exactly plan).0 e))

-- Any other answer is that of the search without an allowance, with its tries and table, and its tries are within the allowance.
pub answered-whole : (plan : Plan) → (answer_of (planned plan)).outcome ≢ Stopped
    → ((planned plan).result ≡ unlimited_at plan (planned plan).minutes) × ((answer_of (planned plan)).tries ≤ plan.allowance)
unfolding answer_of
answered-whole plan = going_outcome (at_the_answer plan) (omega arith)
