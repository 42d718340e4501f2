-- What the checks of a call on numbers mean, and that the call is refused exactly where it is not accepted.
-- Assumes nothing.
use Rattle.std.specs.Prelude.{◌≡◌, refl, ◌↔◌, ◌⊎◌, ℕ, zero, suc, ◌+◌, ◌≤◌, ◌<◌, Bool, true, false, ◌&&◌, length, ltb, leb, eqb}
use Rattle.std.proofs.Math.Path.{sym}
use Rattle.std.proofs.Common.{ap, inl, inr, arith, ltb-true, lt-ltb, leb-true, le-leb, eqb-true, eq-eqb}
use Rattle.std.proofs.Math.Logic.Iff
use Rattle.std.proofs.lemmas.Bool.{false≢true, lt-leb}
use Rattle.std.proofs.Math.Bool.{and-eq-true_iff}
use mathlib.Core.List.{List, [], ◌∷◌, ◌++◌, zip_with, append-nil, append_assoc}
use Rattle.std.proofs.Math.Option.{Option, none, some, some-ne-none}
use Rattle.std.proofs.Math.Nat.{suc_inj}
use Rattle.planning.specs.declared.Fault.{Fault}
use Rattle.planning.specs.declared.Refusal.{Refusal}
use Rattle.planning.specs.Bounds.{most_minutes, most_watts, most_fuel}
use Rattle.planning.proofs.Laws.All.{all_more, all-each}
use Rattle.planning.proofs.Laws.Finite.Decisions.{le-or-lt}
use Rattle.planning.proofs.Laws.Quiet.{ranges_more, quiet_none, spans-none}
use Rattle.planning.proofs.Laws.Tables.{length-listed, listed-each, listed-all, listed-last}
use Rattle.planning.specs.Numbers.{Call, Accepted, quiet_of, engines_of, deliveries_of, plan_of, within, engine_fault, delivery_fault, quiet_fault}
use Rattle.planning.specs.Numbers.{check_quiet, refusal_of}
use Rattle.planning.specs.Plan.{Engine, Delivery, All, Within, QuietInRange, EngineInRange, DeliveryInRange}
use Rattle.planning.specs.Quiet.{Quiet, spans_of, fits}
use Rattle.planning.specs.Refusals.{check, check_each, ◌then◌}
use Rattle.planning.specs.Tables.{at, listed}

-- ---- the tests

-- the comparisons of two numbers
pub ltb_iff : (a b : ℕ) → (ltb a b ≡ true) ↔ (a < b)
ltb_iff a b = (ltb-true a b, lt-ltb a b)

pub leb-iff : (a b : ℕ) → (leb a b ≡ true) ↔ (a ≤ b)
leb-iff a b = (leb-true a b, le-leb a b)

pub eqb-iff : (a b : ℕ) → (eqb a b ≡ true) ↔ (a ≡ b)
eqb-iff a b = (eqb-true a b, eq-eqb a b)

-- the test `within` holds where the number is low to high
pub within-iff : (low high n : ℕ) → (within low high n ≡ true) ↔ Within low high n
unfolding within
within-iff low high n = (
  λ e. let both = simp (and-eq-true_iff, leb-iff) at e in record { least = both.0; most = both.1 },
  λ w. simp (and-eq-true_iff, leb-iff) (w.least, w.most),
)

both_false : (a : Bool) → (a && false) ≡ false
both_false true = refl
both_false false = refl

-- inside and outside of a range
pub inside : (low high n : ℕ) → low ≤ n → n ≤ high → within low high n ≡ true
inside low high n l h = (within-iff low high n).1 (record { least = l; most = h })

pub outside : (low high n : ℕ) → (n < low) ⊎ (high < n) → within low high n ≡ false
unfolding within
outside low high n (inl l) = rw (lt-leb low n l)
outside low high n (inr l) = rw (lt-leb n high l) (both_false (leb low n))

-- ---- the checks

-- a check finds no fault where its test holds
pub check-iff : (t : Bool) (fault : Fault) (place : ℕ) → (check t fault place ≡ none) ↔ (t ≡ true)
unfolding check
check-iff true fault place = (λ e. refl, λ e. refl)
check-iff false fault place = (λ e. absurd (some-ne-none _ e), λ e. absurd (false≢true e))

-- two checks in order find no fault where neither does
pub then-iff : (a b : Option Refusal) → (a then b ≡ none) ↔ ((a ≡ none) × (b ≡ none))
unfolding ◌then◌
then-iff none b = (λ e. (refl, e), λ e. e.1)
then-iff (some refusal) b = (λ e. absurd (some-ne-none _ e), λ e. e.0)

-- the check of a list finds no fault where the check of no member does
pub each-iff : {A : Type 0} (one : ℕ → A → Option Refusal) (P : A → Type 0) → ((r : ℕ) (x : A) → (one r x ≡ none) ↔ P x)
    → (r : ℕ) (xs : List A) → (check_each one r xs ≡ none) ↔ All P xs
unfolding check_each
each-iff one P one-iff r [] = (λ e. tt, λ e. refl)
each-iff one P one-iff r (x ∷ xs) =
    let both = then-iff (one r x) (check_each one (r + 1) xs) in
    let others = each-iff one P one-iff (r + 1) xs in (
      λ e. ((one-iff r x).0 (both.0 e).0, others.0 (both.0 e).1),
      λ fit. both.1 ((one-iff r x).1 fit.0, others.1 fit.1),
    )

ruleset the-checks = (then-iff, check-iff, within-iff, leb-iff, eqb-iff)

-- an engine's figures, apart from its spans
abbrev pub FiguresInRange : Engine → Type 0
FiguresInRange e = Within 0 most_watts e.watts × Within 0 most_fuel e.fuel

engine-iff : (r : ℕ) (e : Engine) → (engine_fault r e ≡ none) ↔ FiguresInRange e
unfolding engine_fault
engine-iff r e = simp the-checks Iff.rfl

delivery-iff : (r : ℕ) (d : Delivery) → (delivery_fault r d ≡ none) ↔ DeliveryInRange d
unfolding delivery_fault
delivery-iff r d = (
  λ None-found. let w = simp the-checks at None-found in record { energy = w.0; limit = w.1 },
  λ w. simp the-checks (w.energy, w.limit),
)

-- ---- quiet spans

-- Every span is one of an engine, and each engine's are in range.
pub record QuietKept (engines : ℕ) (quiet : List Quiet) : Type 0 where
  pub known : All (λ (q : Quiet). Within 1 engines q.engine) quiet
  pub ranges : (n : ℕ) → QuietInRange (spans_of n quiet)

module _ (engines : ℕ) where
  pub kept-none : QuietKept engines []
  unfolding spans_of
  kept-none = record { known = tt; ranges = λ n. quiet_none }

  -- one span more
  quiet-iff : (earlier : List Quiet) (q : Quiet) → (quiet_fault engines earlier q ≡ none)
      ↔ (Within 0 most_minutes q.span.from
      × (Within 0 most_minutes q.span.to × (Within 1 engines q.engine × (fits q.span (spans_of q.engine earlier) ≡ true))))
  unfolding quiet_fault
  quiet-iff earlier q = simp the-checks Iff.rfl

  pub kept_more : (earlier : List Quiet) (q : Quiet)
      → QuietKept engines (earlier ++ q ∷ []) ↔ (QuietKept engines earlier × (quiet_fault engines earlier q ≡ none))
  kept_more earlier q = (
    λ k.
        let (known, is) = (all_more _ earlier q).0 k.known in
        let (ranges, ((from, to), fit)) = (ranges_more earlier q).0 k.ranges in
        (record { known = known; ranges = ranges }, (quiet-iff earlier q).1 (from, (to, (is, fit)))),
    λ (k, e).
        let (from, (to, (is, fit))) = (quiet-iff earlier q).0 e in
        record { known = (all_more _ earlier q).1 (k.known, is); ranges = (ranges_more earlier q).1 (k.ranges, ((from, to), fit)) },
  )

  -- the spans in front of others that keep this keep it
  pub kept-front : (quiet more : List Quiet) → QuietKept engines (quiet ++ more) → QuietKept engines quiet
  kept-front quiet [] k = rw append-nil at k
  kept-front quiet (q ∷ more) k = ((kept_more quiet q).0 (kept-front (quiet ++ q ∷ []) more (rw append_assoc k))).0

  -- behind spans that keep it, no check refuses exactly where all of them keep it
  pub check-quiet-iff : (earlier quiet : List Quiet) → QuietKept engines earlier
      → (check_quiet engines earlier quiet ≡ none) ↔ QuietKept engines (earlier ++ quiet)
  unfolding check_quiet
  check-quiet-iff earlier [] k = (λ e. rw append-nil k, λ all. refl)
  check-quiet-iff earlier (q ∷ quiet) k =
      let both = then-iff (quiet_fault engines earlier q) (check_quiet engines (earlier ++ q ∷ []) quiet) in
      let joined : earlier ++ (q ∷ quiet) ≡ (earlier ++ q ∷ []) ++ quiet = sym (append_assoc earlier (q ∷ []) quiet) in (
        λ e.
            let (first, others) = both.0 e in
            let next = (kept_more earlier q).1 (k, first) in
            rw joined ((check-quiet-iff (earlier ++ q ∷ []) quiet next).0 others),
        λ all.
            let next = kept-front (earlier ++ q ∷ []) quiet (rw joined at all) in
            both.1 (((kept_more earlier q).0 next).1, (check-quiet-iff (earlier ++ q ∷ []) quiet next).1 (rw joined at all)),
      )

  -- and so do the first k of n
  pub kept-listed : (n : ℕ) (f : ℕ → Quiet) → QuietKept engines (listed n f) → (k : ℕ) → k ≤ n → QuietKept engines (listed k f)
  kept-listed zero f kept k l = let none : k ≡ 0 = omega arith in rw none kept
  kept-listed (suc n) f kept k l = go (kept-listed n f ((kept_more (listed n f) (f n)).0 (rw listed-last at kept)).0 k) (le-or-lt k n)
    where
      go : (k ≤ n → QuietKept engines (listed k f)) → (k ≤ n) ⊎ (n < k) → QuietKept engines (listed k f)
      go before (inl h) = before h
      go before (inr h) = let all : k ≡ suc n = omega arith in rw all kept

  -- spans of which each is one of an engine are in range where those of each engine are
  module _ (quiet : List Quiet) (known : All (λ (q : Quiet). Within 1 engines q.engine) quiet) where
    of_none : (n : ℕ) → (Within 1 engines n → ⊥) → QuietInRange (spans_of n quiet)
    of_none n no-engine =
        let others : (q : Quiet) → Within 1 engines q.engine → q.engine ≡ n → ⊥ = λ q w e. no-engine (rw e at w) in
        rw (spans-none n quiet (all-each others quiet known)) quiet_none

    pub kept-each : ((i : ℕ) → i < engines → QuietInRange (spans_of (suc i) quiet)) → (n : ℕ) → QuietInRange (spans_of n quiet)
    kept-each each zero = of_none zero (λ w. omega (arith, w.least))
    kept-each each (suc i) = go (le-or-lt (suc i) engines)
      where
        go : (suc i ≤ engines) ⊎ (engines < suc i) → QuietInRange (spans_of (suc i) quiet)
        go (inl l) = each i l
        go (inr l) = of_none (suc i) (λ w. omega (arith, w.most))

-- more engines keep it too
pub kept_wider : {engines more : ℕ} {quiet : List Quiet} → engines ≤ more → QuietKept engines quiet → QuietKept more quiet
kept_wider {engines} {more} {quiet} l k =
    let wider : (q : Quiet) → Within 1 engines q.engine → Within 1 more q.engine = λ q w.
    record { least = w.least; most = omega (arith, w.most) } in
    record { known = all-each wider quiet k.known; ranges = k.ranges }

-- ---- paired lists

length_zip : {A B C : Type 0} (f : A → B → C) (xs : List A) (ys : List B) → length xs ≡ length ys → length (zip_with f xs ys) ≡ length xs
unfolding zip_with
length_zip f [] ys e = refl
length_zip f (x ∷ xs) [] e = sym e
length_zip f (x ∷ xs) (y ∷ ys) e = ap suc (length_zip f xs ys (suc_inj e))

pub engine-count : (watts fuels : List ℕ) (quiet : List Quiet) → length (engines_of watts fuels quiet) ≡ length watts
unfolding engines_of
engine-count watts fuels quiet = length-listed (length watts) _

-- engines are in range where their figures are and each one's spans ..
pub engines_in_range : (watts fuels : List ℕ) (quiet : List Quiet) → All FiguresInRange (engines_of watts fuels quiet)
    → ((n : ℕ) → QuietInRange (spans_of n quiet)) → All EngineInRange (engines_of watts fuels quiet)
unfolding engines_of
engines_in_range watts fuels quiet figures spans =
    listed-all EngineInRange (length watts) _
    (λ i l. let (w, f) = listed-each FiguresInRange (length watts) _ figures i l in record { watts = w; fuel = f; quiet = spans (suc i) })

-- .. and only there, where every span is one of an engine
module _ (watts fuels : List ℕ) (quiet : List Quiet) (ranges : All EngineInRange (engines_of watts fuels quiet)) where
  each-engine : (i : ℕ) → i < length watts → EngineInRange (record { watts = at watts i; fuel = at fuels i; quiet = spans_of (suc i) quiet })
  unfolding engines_of
  each-engine = listed-each EngineInRange (length watts) _ ranges

  pub engines-figures : All FiguresInRange (engines_of watts fuels quiet)
  unfolding engines_of
  engines-figures = listed-all FiguresInRange (length watts) _ (λ i l. ((each-engine i l).watts, (each-engine i l).fuel))

  pub engines-quiet : All (λ (q : Quiet). Within 1 (length watts) q.engine) quiet → (n : ℕ) → QuietInRange (spans_of n quiet)
  engines-quiet known = kept-each (length watts) quiet known (λ i l. (each-engine i l).quiet)

pub delivery-count : (energies limits : List ℕ) → length energies ≡ length limits → length (deliveries_of energies limits) ≡ length energies
unfolding deliveries_of
delivery-count energies limits e = length_zip _ energies limits e

-- ---- the call

-- a call on numbers is refused by no check exactly where it is accepted
pub unrefused-iff : (call : Call) → (refusal_of call ≡ none) ↔ Accepted call
unfolding refusal_of plan_of
unrefused-iff call =
    let quiet = quiet_of call.quiet in
    let the-engines = each-iff engine_fault FiguresInRange engine-iff 2 (plan_of call).engines in
    let the-deliveries = each-iff delivery_fault DeliveryInRange delivery-iff (2 + length call.watts) (plan_of call).deliveries in
    let the-spans = check-quiet-iff (length call.watts) [] quiet (kept-none (length call.watts)) in (
      λ e.
          let (
            engine-lists,
            (
              delivery-lists,
              (threes, (some-engine, (few-engines, (few-deliveries, (table, (spare, (minutes, (allowance, (engines, (deliveries, spans)))))))))),
            ),
          ) = simp the-checks at e in
          let kept = the-spans.0 spans in
          record {
            engine_lists = engine-lists;
            delivery_lists = delivery-lists;
            quiet_threes = threes;
            quiet_engines = kept.known;
            in_range =
                record {
                  minutes = minutes;
                  allowance = allowance;
                  engine_count = rw (engine-count call.watts call.fuels quiet) (record { least = some-engine; most = few-engines });
                  delivery_count = rw (delivery-count _ _ delivery-lists) (record { least = omega arith; most = few-deliveries });
                  engines = engines_in_range call.watts call.fuels quiet (the-engines.0 engines) kept.ranges;
                  deliveries = the-deliveries.0 deliveries;
                };
            table = table;
            spare = spare;
          },
      λ a.
          let range = a.in_range in
          let engines = rw (engine-count call.watts call.fuels quiet) at range.engine_count in
          let deliveries = rw (delivery-count _ _ a.delivery_lists) at range.delivery_count in
          let engines-fit = the-engines.1 (engines-figures call.watts call.fuels quiet range.engines) in
          let deliveries-fit = the-deliveries.1 range.deliveries in
          let spans = engines-quiet call.watts call.fuels quiet range.engines a.quiet_engines in
          let spans_fit = the-spans.1 (record { known = a.quiet_engines; ranges = spans }) in
          simp the-checks search,
    )
