-- What a caller has of a reading: a plan exactly where the file holds one, and then that plan, in range and with sound names, or the file's refusal.
-- Assumes nothing.
use Rattle.std.specs.Prelude.{◌≡◌, refl, ◌↔◌, Result, Ok, Err, ℕ, ◌≤◌, length}
use Rattle.std.proofs.Common.{sym, ◌∙◌, arith}
use Rattle.std.proofs.Math.Path.{subst}
use mathlib.Core.List.{List, [], ◌∷◌, map, map-id, map-map}
use Rattle.std.proofs.lemmas.List.{length-map}
use Rattle.planning.specs.declared.Refusal.{Refusal}
use Rattle.planning.proofs.Laws.Quiet.{few-spans}
use Rattle.planning.specs.Plan.{All, InRange}
use Rattle.planfile.specs.Bounds.{most_name_bytes}
use Rattle.planfile.specs.FilePlan.{FilePlan, engine_of, delivery_of, unnamed, engine_names, delivery_names}
use Rattle.planfile.specs.Holding.{SoundName, Unlike, Holds}
use Rattle.planfile.proofs.Laws.Holding.{engine-count, delivery-count, mixture-known, plan-quiet, accepted-holds, holds-accepted}
use Rattle.planfile.specs.Reading.{Read, refused, accepted, read_file}
use Rattle.planreader.specs.declared.FilePlan.{FilePlan as ByValue}
use Rattle.planreader.specs.Columns.{Item, engine_item, delivery_item, engine_columns_of, quiet_column_of, delivery_columns_of, by_value, reading_of}
use Rattle.planreader.specs.Laws.Columns.{filled-count, filled_items, filled-holding}
use Rattle.planreader.specs.Laws.Quiet.{quiet-back, spans-held, spans-engine}
use Rattle.planreader.specs.Plans.{plan_by, UsablePlan}
use Rattle.planreader.specs.Records.{EnginesIn, SpansIn, DeliveriesIn}

-- ---- the plan that a file holds, by value

-- sound names fit their places
shorts : {A : Type 0} (item : A → Item) (xs : List A) → All SoundName (map (λ x. (item x).name) xs)
    → All (λ (i : Item). length i.name ≤ most_name_bytes) (map item xs)
shorts item [] s = tt
shorts item (x ∷ xs) s = (s.0.size.most, shorts item xs s.1)

module _ {bytes : List ℕ} {f : FilePlan} (h : Holds bytes f) where
  engines-in : EnginesIn f.engines (engine_columns_of f.engines)
  engines-in =
      record {
        room = omega (arith, length-map f.engines engine_item, engine-count f, h.in_range.engine_count.most);
        short = shorts engine_item f.engines h.engines_named;
        columns = refl;
      }

  quiet-in : SpansIn (length f.engines) f.quiet (length f.quiet) (quiet_column_of f.quiet)
  quiet-in =
      let known = mixture-known h.mixture in
      let ranges = plan-quiet f h.in_range known in
      record {
        count = refl;
        room = omega (arith, few-spans (length f.engines) f.quiet known ranges, length-map f.engines engine_item, engines-in.room);
        filled = refl;
        known = known;
        ranges = ranges;
      }

  deliveries-in : DeliveriesIn f.deliveries (delivery_columns_of f.deliveries)
  deliveries-in =
      record {
        room = omega (arith, length-map f.deliveries delivery_item, delivery-count f, h.in_range.delivery_count.most);
        short = shorts delivery_item f.deliveries h.deliveries_named;
        columns = refl;
      }

  -- it is read back
  pub plan-back : plan_by (by_value f) ≡ f
  unfolding by_value
  plan-back =
      rw (
        filled_items engines-in engine_of ∙ map-map _ engine_item f.engines ∙ map-id f.engines,
        quiet-back f.quiet,
        filled_items deliveries-in delivery_of ∙ map-map _ delivery_item f.deliveries ∙ map-id f.deliveries,
      )

  -- and can be planned and printed
  pub plan-usable : UsablePlan (by_value f)
  unfolding by_value
  plan-usable =
      record {
        engines = filled-holding engines-in;
        quiet = spans-held (spans-engine quiet-in (omega (arith, filled-count engines-in, length-map f.engines engine_item)));
        deliveries = filled-holding deliveries-in;
        in_range = subst (λ g. InRange (unnamed g)) (sym plan-back) h.in_range;
        engines_named = subst (λ g. All SoundName (engine_names g)) (sym plan-back) h.engines_named;
        deliveries_named = subst (λ g. All SoundName (delivery_names g)) (sym plan-back) h.deliveries_named;
        engines_unlike = subst (λ g. Unlike (engine_names g)) (sym plan-back) h.engines_unlike;
        deliveries_unlike = subst (λ g. Unlike (delivery_names g)) (sym plan-back) h.deliveries_unlike;
      }

-- ---- a reading

reads-accepted : (m : Read FilePlan) (p : ByValue) → reading_of m ≡ Ok p → (f : FilePlan) × (m ≡ accepted f) × (p ≡ by_value f)
unfolding reading_of
reads-accepted (refused refusal) p e = absurd (cc)
reads-accepted (accepted f) p e = let same : by_value f ≡ p = cc in (f, refl, sym same)

reads-refused : (m : Read FilePlan) (refusal : Refusal) → reading_of m ≡ Err refusal → m ≡ refused refusal
unfolding reading_of
reads-refused (refused other) refusal e = let same : other ≡ refusal = cc in rw same
reads-refused (accepted f) refusal e = absurd (cc)

module _ (bytes : List ℕ) (r : Result ByValue Refusal) (is : r ≡ reading_of (read_file bytes)) where
  module _ (p : ByValue) (accepts : r ≡ Ok p) where
    -- an accepted file: it holds the plan by value, and is read as it
    pub read-plan : (f : FilePlan) × Holds bytes f × (p ≡ by_value f)
    read-plan =
        let (f, read, plan) = reads-accepted (read_file bytes) p (sym is ∙ accepts) in
        (f, accepted-holds bytes f read, plan)

    pub read-holds : Holds bytes (plan_by p)
    read-holds = let (f, h, plan) = read-plan in rw (plan, plan-back h) h

    pub read-accepted : read_file bytes ≡ accepted (plan_by p)
    read-accepted = holds-accepted bytes (plan_by p) read-holds

    pub read-usable : UsablePlan p
    read-usable = let (f, h, plan) = read-plan in rw plan (plan-usable h)

  -- a refused file has that refusal
  pub read-refused : (refusal : Refusal) → r ≡ Err refusal → read_file bytes ≡ refused refusal
  read-refused refusal e = reads-refused (read_file bytes) refusal (sym is ∙ e)

  -- a file is accepted exactly where it holds a plan
  pub accepted-iff-holds : ((p : ByValue) × (r ≡ Ok p)) ↔ ((f : FilePlan) × Holds bytes f)
  unfolding reading_of
  accepted-iff-holds = (λ (p, e). (plan_by p, read-holds p e), λ (f, h). (by_value f, rw (is, holds-accepted bytes f h)))
