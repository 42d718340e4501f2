-- The reading accepts exactly the bytes that hold a plan, and gives that plan.
-- Assumes nothing.
use Rattle.std.specs.Prelude.{◌≡◌, refl, ◌↔◌, ℕ, suc, ◌≤◌, length}
use Rattle.std.proofs.Common.{sym, ◌∙◌, subst, arith, length-append}
use Rattle.std.proofs.Math.Logic.Iff
use mathlib.Core.List.{List, [], ◌∷◌, ◌++◌, map, map-id}
use Rattle.std.proofs.Math.ListN.{length-map}
use Rattle.rfc4180.specs.Fields.{file_values}
use Rattle.rfc4180.specs.Records.{records}
use Rattle.rfc4180.proofs.Laws.Files.{file_complete, file-sound}
use Rattle.planning.specs.declared.Refusal.{Refusal}
use Rattle.planning.specs.Plan.{All, Within, QuietInRange, InRange}
use Rattle.planning.specs.Quiet.{Span, Quiet, spans_of}
use Rattle.planning.proofs.Laws.All.{all_more, all-each}
use Rattle.planning.proofs.Laws.Numbers.{leb-iff, within-iff, FiguresInRange, engine-count as planning-count, engines_in_range, engines-figures, engines-quiet}
use Rattle.planning.specs.Numbers.{engines_of}
use Rattle.planning.specs.Tables.{at, listed}
use Rattle.planfile.specs.Bounds.{most_bytes}
use Rattle.planfile.specs.FilePlan.{FilePlan, NamedEngine, NamedDelivery, unnamed}
use Rattle.planfile.specs.Holding.{Mixture, mixture-none, mixture-engine, mixture-quiet, mixture-delivery, Holds}
use Rattle.planfile.specs.Reading.{Read, refused, accepted, read_file}
use Rattle.planfile.proofs.Laws.Records.{Figured, SoFar}
use Rattle.planfile.proofs.Laws.Reading.{Recorded, read-texts-iff}
use Rattle.planfile.proofs.Laws.Tests.{accepted-iff, refused-not-accepted, bind_iff, require-iff}

-- a file is read where its size is right, its records are those of a plan, and the plan has an engine
read-file-iff : (bytes : List ℕ) (f : FilePlan) → (read_file bytes ≡ accepted f)
    ↔ (Within 1 most_bytes (length bytes) × ((g : FilePlan) × Recorded (records bytes) g × ((1 ≤ length g.engines) × (g ≡ f))))
unfolding read_file
read-file-iff bytes f = simp (require-iff, within-iff, bind_iff, read-texts-iff, leb-iff, accepted-iff) Iff.rfl

-- the plan without its names has as many engines and deliveries
pub engine-count : (f : FilePlan) → length (unnamed f).engines ≡ length f.engines
unfolding unnamed
engine-count f =
    planning-count (map (λ (e : NamedEngine). e.watts) f.engines) (map (λ (e : NamedEngine). e.fuel) f.engines) f.quiet
    ∙ length-map f.engines (λ (e : NamedEngine). e.watts)

pub delivery-count : (f : FilePlan) → length (unnamed f).deliveries ≡ length f.deliveries
unfolding unnamed
delivery-count f = length-map f.deliveries (λ (d : NamedDelivery). d.delivery)

-- the figures of engines, engine by engine and as the columns of a plan
figures-listed : (engines : List NamedEngine) (spans : ℕ → List Span)
    → All Figured engines
    ↔ All FiguresInRange (listed (length (map (λ (e : NamedEngine). e.watts) engines))
    (λ i. record {
      watts = at (map (λ (e : NamedEngine). e.watts) engines) i;
      fuel = at (map (λ (e : NamedEngine). e.fuel) engines) i;
      quiet = spans i;
    }))
unfolding listed
figures-listed [] spans = Iff.rfl
figures-listed (e ∷ engines) spans =
    let others = figures-listed engines (λ i. spans (suc i)) in (λ (one, all). (one, others.0 all), λ (one, all). (one, others.1 all))

-- a plan in range: its engines' figures and, where every span is one of an engine, each engine's spans
module _ (f : FilePlan) (ranges : InRange (unnamed f)) where
  abbrev watts : List ℕ
  watts = map (λ (e : NamedEngine). e.watts) f.engines

  abbrev fuels : List ℕ
  fuels = map (λ (e : NamedEngine). e.fuel) f.engines

  pub plan-figures : All Figured (map (λ (e : NamedEngine). e) f.engines)
  unfolding unnamed engines_of
  plan-figures = rw map-id ((figures-listed f.engines _).1 (engines-figures watts fuels f.quiet ranges.engines))

  pub plan-quiet : All (λ (q : Quiet). Within 1 (length f.engines) q.engine) f.quiet → (n : ℕ) → QuietInRange (spans_of n f.quiet)
  unfolding unnamed
  plan-quiet known = engines-quiet watts fuels f.quiet ranges.engines (rw length-map known)

-- every span of a mixture is one of its engines
pub mixture-known : {records : List (List (List ℕ))} {engines : List NamedEngine} {quiet : List Quiet} {deliveries : List NamedDelivery}
    → Mixture records engines quiet deliveries → All (λ (q : Quiet). Within 1 (length engines) q.engine) quiet
mixture-known mixture-none = tt
mixture-known (mixture-engine {engines = engines} {quiet = quiet} m e p q) =
    let wider : (x : Quiet) → Within 1 (length engines) x.engine → Within 1 (length (engines ++ e ∷ [])) x.engine = λ x w.
    record { least = w.least; most = omega (arith, w.most, length-append engines (e ∷ [])) } in
    all-each wider quiet (mixture-known m)
mixture-known (mixture-quiet {engines = engines} {quiet = quiet} m i l s p q) =
    (all_more _ quiet _).1 (mixture-known m, record { least = omega arith; most = l })
mixture-known (mixture-delivery m d p q) = mixture-known m

in-range : (f : FilePlan) → SoFar f → 1 ≤ length f.engines → InRange (unnamed f)
unfolding unnamed engines_of
in-range f s one =
    record {
      minutes = s.minutes;
      allowance = s.allowance;
      engine_count = rw (engine-count f) (record { least = one; most = s.engines.count });
      delivery_count = rw (delivery-count f) (record { least = omega arith; most = s.deliveries.count });
      engines =
          engines_in_range (map (λ (e : NamedEngine). e.watts) f.engines) (map (λ (e : NamedEngine). e.fuel) f.engines) f.quiet
          ((figures-listed f.engines _).0 (rw map-id at s.engines.in_range)) s.quiet;
      deliveries = s.deliveries.in_range;
    }

held : (bytes : List ℕ) (f : FilePlan) → Within 1 most_bytes (length bytes) → Recorded (records bytes) f → 1 ≤ length f.engines → Holds bytes f
unfolding file_values
held bytes f size r one =
    record {
      size = size;
      first = r.first;
      others = r.others;
      file = file-sound bytes (r.first ∷ r.others) r.values;
      plan_record = r.plan_record;
      mixture = r.mixture;
      engines_named = r.so_far.engines.named;
      deliveries_named = r.so_far.deliveries.named;
      engines_unlike = r.so_far.engines.unlike;
      deliveries_unlike = r.so_far.deliveries.unlike;
      in_range = in-range f r.so_far one;
    }

-- bytes that are accepted hold the plan that is read
pub accepted-holds : (bytes : List ℕ) (f : FilePlan) → read_file bytes ≡ accepted f → Holds bytes f
accepted-holds bytes f e =
    let (size, (g, r, (one, found))) = (read-file-iff bytes f).0 e in
    subst (Holds bytes) found (held bytes g size r one)

so-far : {bytes : List ℕ} {f : FilePlan} → Holds bytes f → SoFar f
unfolding unnamed
so-far {f = f} h =
    let range = h.in_range in
    record {
      minutes = range.minutes;
      allowance = range.allowance;
      engines =
          record {
            count = rw (engine-count f) at range.engine_count.most;
            in_range = plan-figures f range;
            named = h.engines_named;
            unlike = h.engines_unlike;
          };
      quiet = plan-quiet f range (mixture-known h.mixture);
      deliveries =
          record {
            count = rw (delivery-count f) at range.delivery_count.most;
            in_range = range.deliveries;
            named = h.deliveries_named;
            unlike = h.deliveries_unlike;
          };
    }

recorded : {bytes : List ℕ} {f : FilePlan} → Holds bytes f → Recorded (records bytes) f
unfolding file_values
recorded h =
    record {
      first = h.first;
      others = h.others;
      values = file_complete h.file;
      plan_record = h.plan_record;
      mixture = h.mixture;
      so_far = so-far h;
    }

-- bytes that hold a plan are accepted, with that plan
pub holds-accepted : (bytes : List ℕ) (f : FilePlan) → Holds bytes f → read_file bytes ≡ accepted f
holds-accepted bytes f h =
    (read-file-iff bytes f).1 (h.size, (f, recorded h, (rw (engine-count f) at h.in_range.engine_count.least, refl)))

-- bytes hold one plan at most
pub holds_unique : {bytes : List ℕ} {f g : FilePlan} → Holds bytes f → Holds bytes g → f ≡ g
holds_unique {bytes = bytes} {f = f} {g = g} h k = (accepted-iff f g).0 (sym (holds-accepted bytes f h) ∙ holds-accepted bytes g k)

refused-or-held : (bytes : List ℕ) (m : Read FilePlan) → read_file bytes ≡ m → ((f : FilePlan) → Holds bytes f → ⊥)
    → (refusal : Refusal) × (read_file bytes ≡ refused refusal)
refused-or-held bytes (refused refusal) e nothing = (refusal, e)
refused-or-held bytes (accepted f) e nothing = absurd (nothing f (accepted-holds bytes f e))

-- bytes are refused exactly where they hold no plan
pub refused-iff : (bytes : List ℕ) → ((refusal : Refusal) × (read_file bytes ≡ refused refusal)) ↔ ((f : FilePlan) → Holds bytes f → ⊥)
refused-iff bytes =
    (λ (refusal, e) f h. refused-not-accepted (sym e ∙ holds-accepted bytes f h), refused-or-held bytes (read_file bytes) refl)
