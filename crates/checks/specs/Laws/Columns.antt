-- The lists of a call that passes every check: each fits its column, one of three numbers each makes up a column of the quiet spans, and the
-- columns make up the plan by value.
-- Assumes nothing.
use Rattle.std.specs.Prelude.{◌≡◌, refl, List, [], ◌∷◌, map, length, get_or}
use Rattle.std.proofs.Common.{ap, ◌∙◌, suc-add}
use Rattle.std.proofs.lemmas.List.{length-map}
use Prim.Native.Nat.{ℕ, zero, suc, ◌+◌, ◌*◌, ◌/◌, ◌%◌, ◌^◌, ◌<◌}
use native.Mathlib.Omega.{arith}
use Rattle.planning.specs.declared.Deliveries.{Deliveries}
use Rattle.planning.specs.declared.EngineFigures.{EngineFigures}
use Rattle.planning.specs.declared.QuietSpan.{QuietSpan}
use Rattle.planning.specs.declared.Spans.{Spans}
use Rattle.planning.specs.Bounds.{most_engines, most_deliveries, most_quiet}
use Rattle.planning.specs.ByValue.{quiet_at, engine_in, delivery_in, Usable, no_span, no_figures, span_by, spans_by, figures_by, by_value}
use Rattle.planning.proofs.Laws.ByValue.{engine_in_range, usable-kept, span-known, span_in_range, delivery_in_range, figures-by-value}
use Rattle.planning.proofs.Laws.Padded.{at-filled, at-padded}
use Rattle.planning.proofs.Laws.Triples.{quiet-count}
use Rattle.planning.specs.Numbers.{Call, quiet_of}
use Rattle.planning.specs.Plan.{Within, SpanInRange}
use Rattle.planning.specs.Tables.{at, filled, padded}
use Rattle.checks.specs.Columns.{Fits}

-- ---- quiet spans, three numbers each

-- the span of the three numbers at a place of the list
pub span_of : (xs : List ℕ) (k : ℕ) → k < length xs / 3
    → get_or (map span_by (quiet_of xs)) k no_span ≡ record { engine = at xs (3 * k + 0); from = at xs (3 * k + 1); to = at xs (3 * k + 2) }
unfolding quiet_of
span_of [] k l = absurd (omega arith)
span_of (a ∷ []) k l = absurd (omega arith)
span_of (a ∷ b ∷ []) k l = absurd (omega arith)
span_of (a ∷ b ∷ c ∷ xs) zero l = refl
span_of (a ∷ b ∷ c ∷ xs) (suc k) l =
    let next : 3 * suc k ≡ suc (suc (suc (3 * k))) = omega arith in
    rw next (simp suc-add (span_of xs k (omega arith)))

-- as many as there are
pub length-spans : (xs : List ℕ) → length (map span_by (quiet_of xs)) ≡ length xs / 3
length-spans xs = length-map (quiet_of xs) span_by ∙ quiet-count xs

-- stored over zeros they are the spans by value
pub spans-by-value : (xs : List ℕ) {count : ℕ} {spans : List (QuietSpan ℕ)} → count ≡ length xs / 3
    → spans ≡ filled no_span most_quiet (map span_by (quiet_of xs)) → record { count = count; spans = spans } ≡ spans_by (quiet_of xs)
unfolding spans_by
spans-by-value xs c e = rw (c, e, quiet-count xs)

-- ---- the lists of a call

module _ (call : Call) (u : Usable (by_value call)) where
  pub watts_fit : Fits most_engines 32 call.watts
  unfolding by_value engine_in
  watts_fit = (
    u.engines.count.most,
    λ i l. omega (arith, ap (λ (f : EngineFigures). f.watts) (figures-by-value call.watts call.fuels i l), (engine_in_range u.engines i l).watts.most),
  )

  pub fuels_fit : length call.watts ≡ length call.fuels → Fits most_engines 32 call.fuels
  unfolding by_value engine_in
  fuels_fit e = (
    omega (arith, u.engines.count.most),
    λ i l.
        let inside : i < length call.watts = omega (arith, e) in
        omega (arith, ap (λ (f : EngineFigures). f.fuel) (figures-by-value call.watts call.fuels i inside), (engine_in_range u.engines i inside).fuel.most),
  )

  pub energies_fit : Fits most_deliveries 32 call.energies
  unfolding by_value delivery_in
  energies_fit = (
    u.deliveries.count.most,
    λ p l. omega (arith, at-padded most_deliveries call.energies p, (delivery_in_range u.deliveries p l).energy.most),
  )

  pub limits_fit : length call.energies ≡ length call.limits → Fits most_deliveries 8 call.limits
  unfolding by_value delivery_in
  limits_fit e = (
    omega (arith, u.deliveries.count.most),
    λ p l. omega (arith, at-padded most_deliveries call.limits p, (delivery_in_range u.deliveries p (omega arith)).limit.most),
  )

  -- the numbers of each quiet span
  abbrev spans : Spans
  spans = spans_by (quiet_of call.quiet)

  known : (k : ℕ) → k < length (quiet_of call.quiet) → Within 1 (length call.watts) (quiet_at spans k).engine
  unfolding by_value spans_by
  known = span-known (length call.watts) spans (usable-kept u.engines)

  ranged : (k : ℕ) → k < length (quiet_of call.quiet) → SpanInRange (quiet_at spans k).span
  unfolding by_value spans_by
  ranged = span_in_range (length call.watts) spans (usable-kept u.engines)

  -- the span at a place by value has the three numbers of the list there
  stored : (k : ℕ) → k < length call.quiet / 3
      → get_or (filled no_span most_quiet (map span_by (quiet_of call.quiet))) k no_span
      ≡ record { engine = at call.quiet (3 * k + 0); from = at call.quiet (3 * k + 1); to = at call.quiet (3 * k + 2) }
  stored k l = at-filled no_span most_quiet (map span_by (quiet_of call.quiet)) k ∙ span_of call.quiet k l

  number_fits : (start k : ℕ) → start < 3 → k < length call.quiet / 3 → at call.quiet (3 * k + start) < 2 ^ 16
  unfolding quiet_at spans_by by_value
  number_fits zero k s l =
      let here = known k (omega (arith, quiet-count call.quiet)) in
      omega (arith, here.most, u.engines.count.most, ap (λ (q : QuietSpan ℕ). q.engine) (stored k l))
  number_fits (suc zero) k s l =
      let here = ranged k (omega (arith, quiet-count call.quiet)) in omega (arith, here.from.most, ap (λ (q : QuietSpan ℕ). q.from) (stored k l))
  number_fits (suc (suc zero)) k s l =
      let here = ranged k (omega (arith, quiet-count call.quiet)) in omega (arith, here.to.most, ap (λ (q : QuietSpan ℕ). q.to) (stored k l))
  number_fits (suc (suc (suc start))) k s l = absurd (omega arith)

  pub quiet_fit : length call.quiet % 3 ≡ 0 → Fits (3 * most_quiet) 16 call.quiet
  unfolding by_value spans_by
  quiet_fit threes = (
    omega (arith, u.engines.quiet.count, quiet-count call.quiet),
    λ i l.
        let split : 3 * (i / 3) + i % 3 ≡ i = omega arith in
        rw split at (number_fits (i % 3) (i / 3) (omega arith) (omega arith)),
  )

-- what is stored of each makes up the plan by value
pub parts-by-value : (call : Call) {figures : List EngineFigures} {quiet : Spans} {deliveries : Deliveries}
    → figures ≡ filled no_figures most_engines (figures_by call.watts call.fuels) → quiet ≡ spans_by (quiet_of call.quiet)
    → deliveries.count ≡ length call.energies → deliveries.energy ≡ padded most_deliveries call.energies
    → deliveries.limit ≡ padded most_deliveries call.limits
    → record {
      mode = call.mode;
      minutes = call.minutes;
      allowance = call.allowance;
      engines = record { count = length call.watts; figures = figures; quiet = quiet };
      deliveries = deliveries;
    }
    ≡ by_value call
unfolding by_value
parts-by-value call f q n e l = rw (f, q, ← n, ← e, ← l)
