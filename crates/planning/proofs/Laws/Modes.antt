-- What fixed and shortest answer: unless stopped, none exactly when no cutting serves in the plan's minutes, and, where shortest
-- finds, the least minutes in which a cutting serves.
-- Assumes nothing.
pub mod Bisection
use Rattle.std.specs.Prelude.{◌≡◌, ◌≢◌, ◌↔◌, ℕ, ◌+◌, ◌-◌, ◌/◌, ◌≤◌, ◌<◌, length}
use Rattle.std.proofs.Math.Path.{refl, sym, subst}
use Rattle.std.proofs.Common.{ap, ◌∙◌, arith}
use Rattle.planning.specs.declared.Mode.{Mode}
use Rattle.planning.specs.declared.Mode.TheVariants.{Fixed, Shortest}
use Rattle.planning.specs.declared.Outcome.{Outcome}
use Rattle.planning.specs.declared.Outcome.TheVariants.{Found, None, Stopped}
use Rattle.planning.specs.Capacity.{capacities}
use Rattle.planning.specs.Cutting.{Served, NotServed}
use Rattle.planning.specs.Modes.{search_at, Planned, planned_at, shortest, planned_in, planned, outcome_of}
use Rattle.planning.specs.Tables.{piece_in}
use Rattle.planning.specs.Plan.{Plan, DeliveryInRange, All, energies, limits}
use Rattle.planning.specs.Search.{Result, found, none, stopped, up_to}
use Rattle.planning.proofs.Laws.Modes.Bisection.{by-outcome, bisect_induction}
use Rattle.planning.proofs.Laws.Completeness.{cutting_never_none}
use Rattle.planning.proofs.Laws.Cuttings.{serves-longer, served-longer}
use Rattle.planning.proofs.Laws.Plans.{length-energies, length-limits, limit-positive}
use Rattle.planning.proofs.Laws.Soundness.{plan-serves}

-- What an outcome means, where found means F and none means N; stopped says nothing.
abbrev pub Means : (F N : Type 0) → Outcome → Type 0
Means F N Found = F
Means F N None = N
Means F N Stopped = Unit {0}

found-is-not-none : Found ≡ None → ⊥
found-is-not-none e = subst (Means (Unit {0}) ⊥) e tt

none-exactly : (F N : Type 0) (o : Outcome) → Means F N o → (F → N → ⊥) → o ≢ Stopped → (o ≡ None) ↔ N
none-exactly F N Found m apart going = (λ e. absurd (found-is-not-none e), λ n. absurd (apart m n))
none-exactly F N None m apart going = (λ e. m, λ n. refl)
none-exactly F N Stopped m apart going = absurd (going refl)

found_exactly : (F N : Type 0) (o : Outcome) → Means F N o → (F → N → ⊥) → o ≢ Stopped → (o ≡ Found) ↔ (N → ⊥)
found_exactly F N Found m apart going = (λ e. apart m, λ h. refl)
found_exactly F N None m apart going = (λ e. absurd (found-is-not-none (sym e)), λ h. absurd (h m))
found_exactly F N Stopped m apart going = absurd (going refl)

-- The answered result is the search at the answered minutes, which are from 1 to the plan's.
pub record SearchedAt (plan : Plan) (a : Planned) : Type 0 where
  pub result : a.result ≡ search_at plan a.minutes
  pub least : 1 ≤ plan.minutes → 1 ≤ a.minutes
  pub most : a.minutes ≤ plan.minutes

fixed-searched : (plan : Plan) → SearchedAt plan (planned_at plan plan.minutes)
unfolding planned_at
fixed-searched plan = record { result = refl; least = λ l. l; most = omega arith }

pub shortest-searched : (plan : Plan) → SearchedAt plan (shortest plan)
unfolding shortest planned_at
shortest-searched plan =
    by-outcome (SearchedAt plan) (search_at plan plan.minutes) _ _ _
    (λ e. bisect_induction plan (SearchedAt plan) (λ low high. (low ≤ high) × (high ≤ plan.minutes) × (1 ≤ plan.minutes → low < high))
    (λ low high b k. record { result = refl; least = λ l. omega (arith, b.2 l); most = b.1 })
    (λ low high b k o. (omega arith, omega (arith, b.1), λ l. omega (arith, b.2 l)))
    (λ low high b k o. (omega arith, b.1, λ l. omega (arith, b.2 l)))
    (λ low high b k o. record { result = refl; least = λ l. omega arith; most = omega (arith, b.1) })
    plan.minutes 0 plan.minutes (omega arith) (omega arith, omega arith, λ l. l))
    (λ e. fixed-searched plan)
    (λ e. fixed-searched plan)

planned-in : (plan : Plan) {mode : Mode} → plan.mode ≡ mode → planned plan ≡ planned_in mode plan
unfolding planned
planned-in plan e = ap (λ (mode : Mode). planned_in mode plan) e

pub planned-searched : (plan : Plan) → SearchedAt plan (planned plan)
unfolding planned planned_in
planned-searched plan = go plan.mode
  where
    go : (mode : Mode) → SearchedAt plan (planned_in mode plan)
    go Fixed = fixed-searched plan
    go Shortest = shortest-searched plan

-- A cutting serves in T minutes, and none in fewer, down to one.
pub record LeastTime (plan : Plan) (T : ℕ) : Type 0 where
  pub served : Served plan T
  pub earlier : (T' : ℕ) → 1 ≤ T' → T' < T → NotServed plan T'

served-apart : (plan : Plan) (T : ℕ) → Served plan T → NotServed plan T → ⊥
served-apart plan T s n = n s.parts s.piece s.serves

not-served-shorter : (plan : Plan) (T T' : ℕ) → T ≤ T' → NotServed plan T' → NotServed plan T
not-served-shorter plan T T' l h n x s = h n x (serves-longer plan T T' l s)

-- A plan whose deliveries are in range.
module _ (plan : Plan) (ranges : All DeliveryInRange plan.deliveries) where
  -- what a search for T minutes means
  pub search_means : (T : ℕ) → Means (Served plan T) (NotServed plan T) (outcome_of (search_at plan T))
  unfolding search_at outcome_of
  search_means T = go (search_at plan T) refl
    where
      go : (r : Result) → search_at plan T ≡ r → Means (Served plan T) (NotServed plan T) (outcome_of r)
      go (found tries table) e = record { parts = 1; piece = piece_in (length plan.engines) table; serves = plan-serves plan T ranges e }
      go (none tries) e = λ n x s.
          cutting_never_none (capacities plan T) (energies plan) (limits plan)
          (length-limits plan ∙ sym (length-energies plan))
          (λ p l. limit-positive plan ranges p (rw (length-energies plan) at l)) s (up_to plan.allowance) tries e
      go (stopped tries) e = tt

  -- Unless a search for T minutes is stopped, it answers none exactly when no cutting serves in T minutes.
  pub search_none_exactly : (T : ℕ) → outcome_of (search_at plan T) ≢ Stopped → (outcome_of (search_at plan T) ≡ None) ↔ NotServed plan T
  search_none_exactly T =
      none-exactly (Served plan T) (NotServed plan T) (outcome_of (search_at plan T)) (search_means T) (served-apart plan T)

  -- the search for T minutes where its outcome is known
  known_means : (T : ℕ) (o : Outcome) → outcome_of (search_at plan T) ≡ o → Means (Served plan T) (NotServed plan T) o
  known_means T o e = subst (Means (Served plan T) (NotServed plan T)) e (search_means T)

  -- the invariant of the bisection: high serves, low does not or is 0
  record Bracket (low high : ℕ) : Type 0 where
    short : (T : ℕ) → 1 ≤ T → T ≤ low → NotServed plan T
    enough : outcome_of (search_at plan high) ≡ Found

  abbrev ShortestMeans : Planned → Type 0
  ShortestMeans a = Means (LeastTime plan a.minutes) (NotServed plan plan.minutes) (outcome_of a.result)

  answered : (T : ℕ) (o : Outcome) → outcome_of (search_at plan T) ≡ o
      → Means (LeastTime plan T) (NotServed plan plan.minutes) o → ShortestMeans (planned_at plan T)
  unfolding planned_at
  answered T o e m = subst (Means (LeastTime plan T) (NotServed plan plan.minutes)) (sym e) m

  shortest_means : ShortestMeans (shortest plan)
  unfolding shortest
  shortest_means =
      by-outcome ShortestMeans (search_at plan plan.minutes) _ _ _
      (λ e. bisect_induction plan ShortestMeans Bracket end
      (λ low high b k o. record { short = b.short; enough = o })
      (λ low high b k o. record {
        short = λ T l m. not-served-shorter plan T ((low + high) / 2) m (known_means ((low + high) / 2) None o);
        enough = b.enough;
      })
      (λ low high b k o. answered ((low + high) / 2) Stopped o tt)
      plan.minutes 0 plan.minutes (omega arith)
      (record { short = λ T l m. absurd (omega arith); enough = e }))
      (λ e. answered plan.minutes None e (known_means plan.minutes None e))
      (λ e. answered plan.minutes Stopped e tt)
    where
      end : (low high : ℕ) → Bracket low high → high - low ≤ 1 → ShortestMeans (planned_at plan high)
      end low high b k =
          answered high Found b.enough
          (record { served = known_means high Found b.enough; earlier = λ T l m. b.short T l (omega arith) })

  shortest-apart : LeastTime plan (shortest plan).minutes → NotServed plan plan.minutes → ⊥
  shortest-apart t =
      served-apart plan plan.minutes
      (served-longer plan (shortest plan).minutes plan.minutes (shortest-searched plan).most t.served)

  -- Unless shortest is stopped, it answers none exactly when no cutting serves in the plan's minutes.
  pub shortest-none_exactly : outcome_of (shortest plan).result ≢ Stopped
      → (outcome_of (shortest plan).result ≡ None) ↔ NotServed plan plan.minutes
  shortest-none_exactly =
      none-exactly (LeastTime plan (shortest plan).minutes) (NotServed plan plan.minutes) (outcome_of (shortest plan).result)
      shortest_means shortest-apart

  -- Where shortest finds, its minutes are the shortest time; they are from 1 to the plan's by shortest-searched.
  pub shortest-found : outcome_of (shortest plan).result ≡ Found → LeastTime plan (shortest plan).minutes
  shortest-found e = subst (Means (LeastTime plan (shortest plan).minutes) (NotServed plan plan.minutes)) e shortest_means

  -- In both modes: unless the answer is stopped, it is none exactly when no cutting serves in the plan's minutes.
  pub planned-none_exactly : outcome_of (planned plan).result ≢ Stopped
      → (outcome_of (planned plan).result ≡ None) ↔ NotServed plan plan.minutes
  unfolding planned planned_in planned_at
  planned-none_exactly = go plan.mode
    where
      go : (mode : Mode) → outcome_of (planned_in mode plan).result ≢ Stopped
          → (outcome_of (planned_in mode plan).result ≡ None) ↔ NotServed plan plan.minutes
      go Fixed = search_none_exactly plan.minutes
      go Shortest = shortest-none_exactly

  -- Where fixed finds, a cutting serves in the plan's minutes; where shortest finds, the answered minutes are the shortest time.
  pub planned-fixed-found : plan.mode ≡ Fixed → outcome_of (planned plan).result ≡ Found
      → ((planned plan).minutes ≡ plan.minutes) × Served plan plan.minutes
  unfolding planned_in planned_at
  planned-fixed-found e =
      subst (λ (a : Planned). outcome_of a.result ≡ Found → (a.minutes ≡ plan.minutes) × Served plan plan.minutes)
      (sym (planned-in plan e)) (λ o. (refl, known_means plan.minutes Found o))

  pub planned-shortest-found : plan.mode ≡ Shortest → outcome_of (planned plan).result ≡ Found
      → LeastTime plan (planned plan).minutes
  unfolding planned_in
  planned-shortest-found e =
      subst (λ (a : Planned). outcome_of a.result ≡ Found → LeastTime plan a.minutes) (sym (planned-in plan e)) shortest-found

  -- Unless one of them is stopped, fixed finds exactly when shortest does.
  pub fixed-shortest-found : outcome_of (planned_in Fixed plan).result ≢ Stopped → outcome_of (planned_in Shortest plan).result ≢ Stopped
      → (outcome_of (planned_in Fixed plan).result ≡ Found) ↔ (outcome_of (planned_in Shortest plan).result ≡ Found)
  unfolding planned_in planned_at
  fixed-shortest-found fixed-going shortest-going = (λ e. short.1 (fixed.0 e), λ e. fixed.1 (short.0 e))
    where
      fixed : (outcome_of (search_at plan plan.minutes) ≡ Found) ↔ (NotServed plan plan.minutes → ⊥)
      fixed =
          found_exactly (Served plan plan.minutes) (NotServed plan plan.minutes) (outcome_of (search_at plan plan.minutes))
          (search_means plan.minutes) (served-apart plan plan.minutes) fixed-going

      short : (outcome_of (shortest plan).result ≡ Found) ↔ (NotServed plan plan.minutes → ⊥)
      short =
          found_exactly (LeastTime plan (shortest plan).minutes) (NotServed plan plan.minutes) (outcome_of (shortest plan).result)
          shortest_means shortest-apart shortest-going
