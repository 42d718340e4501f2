-- The file that is written of a plan holds that plan, and is read as it: where the plan is in range, each of its quiet spans is one of an engine,
-- its names are sound, and no two engines and no two deliveries are named alike.
-- Assumes nothing.
use Rattle.std.specs.Prelude.{◌≡◌, refl, true, length}
use Rattle.std.proofs.Math.Path.{subst}
use Prim.Native.Nat.{ℕ, suc, ◌+◌, ◌-◌, ◌^◌, ◌≤◌, ◌<◌}
use native.Mathlib.Omega.{arith}
use mathlib.Core.List.{List, [], ◌∷◌, ◌++◌, map, append-nil, append_assoc}
use Rattle.std.proofs.Math.ListN.{length-append, length-map}
use Rattle.rfc4180.specs.Grammar.{File}
use Rattle.rfc4180.proofs.Laws.Writer.{file-written}
use Rattle.rfc4180.specs.Text.{ascii}
use Rattle.rfc4180.specs.Writer.{written, written_line, written_file, writable, writable_record}
use Rattle.planning.specs.declared.Mode.{Mode}
use Rattle.planning.specs.declared.Mode.TheVariants.{Fixed, Shortest}
use Rattle.planning.specs.Bounds.{most_engines, most_deliveries, most_quiet}
use Rattle.planning.proofs.Laws.Quiet.{span-ranges, few-spans}
use Rattle.planning.specs.Plan.{Delivery, All, Within, InRange, SpanInRange, QuietInRange, DeliveryInRange}
use Rattle.planning.specs.Quiet.{Quiet, spans_of}
use Rattle.planning.proofs.Laws.All.{all-each, all_append}
use Rattle.planfile.specs.Bounds.{most_bytes}
use Rattle.planfile.specs.FilePlan.{FilePlan, NamedEngine, NamedDelivery, unnamed, engine_names, delivery_names}
use Rattle.planfile.specs.Holding.{SoundName, Unlike, Holds, mode_word, plan-record, Mixture, mixture-none, mixture-engine, mixture-quiet, mixture-delivery}
use Rattle.planfile.proofs.Laws.Decimals.{decimal-writable, decimal-read}
use Rattle.planfile.proofs.Laws.Holding.{engine-count, delivery-count, plan-figures, plan-quiet, holds-accepted}
use Rattle.planfile.proofs.Laws.Print.{bytes-writable, four_writable, file-writable}
use Rattle.planfile.proofs.Laws.PrintLength.{name-length, number-length, line_length, lines-length}
use Rattle.planfile.proofs.Laws.Records.{Figured}
use Rattle.planfile.proofs.Laws.Tests.{all-at}
use Rattle.planfile.specs.Numerals.{decimal}
use Rattle.planfile.specs.PlanLines.{plan_line, engine_line, quiet_line, delivery_line, item_lines, plan_file}
use Rattle.planfile.specs.Print.{Line}
use Rattle.planfile.specs.Reading.{accepted, read_file}

-- ---- lines that can be written, and their length

-- a value that can be written as a field of at most so many bytes
record Fits (most : ℕ) (value : List ℕ) : Type 0 where
  writes : writable value ≡ true
  short : length (written value) ≤ most

-- a line that can be written in at most 88 bytes, the bound that `lines-length` asks for
record Sound (line : Line) : Type 0 where
  writes : writable_record line ≡ true
  short : length (written_line line) ≤ 88

name-fits : {name : List ℕ} → SoundName name → Fits 34 name
name-fits {name} s = record { writes = bytes-writable name s.bytes; short = name-length name s }

-- no number of a plan in range has more than 10 digits
number_fits : (n : ℕ) → n < 10 ^ 10 → Fits 10 (decimal n)
number_fits n l = record { writes = decimal-writable n; short = number-length n 10 (omega arith) (omega arith) }

-- a mode's word stands where a name stands in the other records
mode-fits : (mode : Mode) → Fits 34 (mode_word mode)
unfolding mode_word ascii writable written
mode-fits Fixed = record { writes = refl; short = omega arith }
mode-fits Shortest = record { writes = refl; short = omega arith }

-- 67 bytes at most
line_sound : {a b c d : List ℕ} → Fits 8 a → Fits 34 b → Fits 10 c → Fits 10 d → Sound (a ∷ b ∷ c ∷ d ∷ [])
line_sound {a} {b} {c} {d} p q r s =
    record {
      writes = four_writable a b c d p.writes q.writes r.writes s.writes;
      short = omega (arith, line_length a b c d);
    }

-- engines and deliveries alike: the lines of items of a name and two numbers
module _ {A B : Type 0} (kind : List ℕ) (name : A → List ℕ) (content : A → B) (third fourth : B → ℕ) (Ranged : B → Type 0) (word : Fits 8 kind)
    (most : (b : B) → Ranged b → (third b < 10 ^ 10) × (fourth b < 10 ^ 10)) where
  items_sound : (items : List A) → All SoundName (map name items) → All Ranged (map content items)
      → All Sound (map (λ item. kind ∷ name item ∷ decimal (third (content item)) ∷ decimal (fourth (content item)) ∷ []) items)
  items_sound [] named ranged = tt
  items_sound (item ∷ items) named ranged =
      let (m, n) = most (content item) ranged.0 in
      (line_sound word (name-fits named.0) (number_fits _ m) (number_fits _ n), items_sound items named.1 ranged.1)

-- the lines of quiet spans, each of an engine that has a sound name
spans-sound : (names : List (List ℕ)) → All SoundName names → (quiet : List Quiet) → All (λ (q : Quiet). Within 1 (length names) q.engine) quiet
    → All (λ (q : Quiet). SpanInRange q.span) quiet → All Sound (map (quiet_line names) quiet)
unfolding quiet_line ascii writable written
spans-sound names sound [] known ranges = tt
spans-sound names sound (q ∷ quiet) known ranges = (
  line_sound (record { writes = refl; short = omega arith })
      (name-fits (all-at SoundName names (q.engine - 1) sound (omega (arith, known.0.least, known.0.most))))
      (number_fits q.span.from (omega (arith, ranges.0.from.most))) (number_fits q.span.to (omega (arith, ranges.0.to.most))),
  spans-sound names sound quiet known.1 ranges.1,
)

-- ---- what the lines hold

-- the records behind record 1 are those of the engines, of the spans and of the deliveries, in order: behind a mixture, the deliveries' lines, then
-- the spans' before them, then all lines
delivery-lines : {records : List (List (List ℕ))} {es : List NamedEngine} {qs : List Quiet} {before : List NamedDelivery} → Mixture records es qs before
    → (ds : List NamedDelivery) → Mixture (records ++ map delivery_line ds) es qs (before ++ ds)
unfolding delivery_line
delivery-lines {records} {es} {qs} {before} m [] = rw (append-nil records, append-nil before) m
delivery-lines {records} {es} {qs} {before} m (d ∷ ds) =
    rw (← append_assoc records (delivery_line d ∷ []) (map delivery_line ds), ← append_assoc before (d ∷ []) ds)
    (delivery-lines {records = records ++ delivery_line d ∷ []} {before = before ++ d ∷ []}
    (mixture-delivery m d (decimal-read d.delivery.energy) (decimal-read d.delivery.limit)) ds)

module _ (es : List NamedEngine) (ds : List NamedDelivery) where
  abbrev names : List (List ℕ)
  names = map (λ (e : NamedEngine). e.name) es

  -- one span
  quiet_line_lem : {records : List (List (List ℕ))} {before : List Quiet} → Mixture records es before [] → (q : Quiet) → Within 1 (length es) q.engine
      → Mixture (records ++ quiet_line names q ∷ []) es (before ++ q ∷ []) []
  unfolding quiet_line
  quiet_line_lem {records} {before} m q w =
      let number : suc (q.engine - 1) ≡ q.engine = omega (arith, w.least) in
      subst (λ (n : ℕ). Mixture (records ++ quiet_line names q ∷ []) es (before ++ record { engine = n; span = q.span } ∷ []) []) number
      (mixture-quiet m (q.engine - 1) (omega (arith, w.least, w.most)) q.span (decimal-read q.span.from) (decimal-read q.span.to))

  quiet-lines : {records : List (List (List ℕ))} {before : List Quiet} → Mixture records es before [] → (qs : List Quiet)
      → All (λ (q : Quiet). Within 1 (length es) q.engine) qs → Mixture (records ++ (map (quiet_line names) qs ++ map delivery_line ds)) es (before ++ qs) ds
  quiet-lines {records} {before} m [] known = rw (append-nil before) (delivery-lines m ds)
  quiet-lines {records} {before} m (q ∷ qs) known =
      rw (← append_assoc records (quiet_line names q ∷ []) (map (quiet_line names) qs ++ map delivery_line ds), ← append_assoc before (q ∷ []) qs)
      (quiet-lines {records = records ++ quiet_line names q ∷ []} {before = before ++ q ∷ []} (quiet_line_lem m q known.0) qs known.1)

engine-lines : {records : List (List (List ℕ))} {before : List NamedEngine} → Mixture records before [] [] → (es : List NamedEngine)
    → Mixture (records ++ map engine_line es) (before ++ es) [] []
unfolding engine_line
engine-lines {records} {before} m [] = rw (append-nil records, append-nil before) m
engine-lines {records} {before} m (e ∷ es) =
    rw (← append_assoc records (engine_line e ∷ []) (map engine_line es), ← append_assoc before (e ∷ []) es)
    (engine-lines {records = records ++ engine_line e ∷ []} {before = before ++ e ∷ []} (mixture-engine m e (decimal-read e.watts) (decimal-read e.fuel)) es)

-- ---- the file

-- every span of a plan is one of its engines
abbrev pub Known : FilePlan → Type 0
Known f = All (λ (q : Quiet). Within 1 (length f.engines) q.engine) f.quiet

module _ (f : FilePlan) (ranges : InRange (unnamed f)) (known : Known f) (engines : All SoundName (engine_names f))
    (deliveries : All SoundName (delivery_names f)) where
  plan-sound : Sound (plan_line f)
  unfolding plan_line unnamed ascii writable written
  plan-sound =
      line_sound (record { writes = refl; short = omega arith }) (mode-fits f.mode) (number_fits f.minutes (omega (arith, ranges.minutes.most)))
      (number_fits f.allowance (omega (arith, ranges.allowance.most)))

  spans : (n : ℕ) → QuietInRange (spans_of n f.quiet)
  spans = plan-quiet f ranges known

  lines-sound : All Sound (item_lines f)
  unfolding item_lines engine_line delivery_line unnamed ascii writable written
  lines-sound =
      (all_append Sound (map engine_line f.engines) _).1 (
        items_sound (ascii "engine") (λ (e : NamedEngine). e.name) (λ (e : NamedEngine). e)
            (λ (e : NamedEngine). e.watts) (λ (e : NamedEngine). e.fuel) Figured
            (record { writes = refl; short = omega arith }) (λ e r. (omega (arith, r.0.most), omega (arith, r.1.most)))
            f.engines engines (plan-figures f ranges),
        (all_append Sound (map (quiet_line (engine_names f)) f.quiet) (map delivery_line f.deliveries)).1 (
          spans-sound (engine_names f) engines f.quiet (rw length-map known) (span-ranges f.quiet (λ n. (spans n).each)),
          items_sound (ascii "delivery") (λ (d : NamedDelivery). d.name) (λ (d : NamedDelivery). d.delivery)
              (λ (d : Delivery). d.energy) (λ (d : Delivery). d.limit) DeliveryInRange
              (record { writes = refl; short = omega arith }) (λ d r. (omega (arith, r.energy.most), omega (arith, r.limit.most)))
              f.deliveries deliveries ranges.deliveries,
        ),
      )

  -- no more lines than a plan may have engines, spans and deliveries
  line_count : length (item_lines f) ≤ most_engines + most_quiet + most_deliveries
  unfolding item_lines
  line_count =
      omega (
        arith,
        length-append (map engine_line f.engines) (map (quiet_line (engine_names f)) f.quiet ++ map delivery_line f.deliveries),
        length-append (map (quiet_line (engine_names f)) f.quiet) (map delivery_line f.deliveries),
        length-map f.engines engine_line,
        length-map f.quiet (quiet_line (engine_names f)),
        length-map f.deliveries delivery_line,
        few-spans (length f.engines) f.quiet known spans,
        engine-count f,
        delivery-count f,
        ranges.engine_count.most,
        ranges.delivery_count.most,
      )

  -- and record 1, each of at most 88 bytes
  file-size : Within 1 most_bytes (length (plan_file f))
  unfolding plan_file plan_line written_file
  file-size =
      let joins = length-append (written_line (plan_line f)) (written_file (item_lines f)) in
      let first = line_length (ascii "plan") (mode_word f.mode) (decimal f.minutes) (decimal f.allowance) in
      record {
        least = omega (arith, joins, first);
        most =
            omega (arith, joins, plan-sound.short, lines-length (item_lines f) (all-each (λ line s. s.short) (item_lines f) lines-sound), line_count);
      }

  file-reads : File (plan_file f) (plan_line f ∷ item_lines f)
  unfolding plan_file
  file-reads =
      file-written (plan_line f ∷ item_lines f)
      (file-writable (plan_line f) (item_lines f) plan-sound.writes (all-each (λ line s. s.writes) (item_lines f) lines-sound))

-- the file that is written of a plan holds it
pub plan-file-holds : (f : FilePlan) → InRange (unnamed f) → Known f → All SoundName (engine_names f) → All SoundName (delivery_names f)
    → Unlike (engine_names f) → Unlike (delivery_names f) → Holds (plan_file f) f
unfolding plan_line item_lines
plan-file-holds f ranges known engines deliveries engines_unlike deliveries_unlike =
    record {
      size = file-size f ranges known engines deliveries;
      first = plan_line f;
      others = item_lines f;
      file = file-reads f ranges known engines deliveries;
      plan_record = plan-record (decimal-read f.minutes) (decimal-read f.allowance);
      mixture = quiet-lines f.engines f.deliveries (engine-lines mixture-none f.engines) f.quiet known;
      engines_named = engines;
      deliveries_named = deliveries;
      engines_unlike = engines_unlike;
      deliveries_unlike = deliveries_unlike;
      in_range = ranges;
    }

-- so the reading accepts it, with that plan
pub plan-file-accepted : (f : FilePlan) → InRange (unnamed f) → Known f → All SoundName (engine_names f) → All SoundName (delivery_names f)
    → Unlike (engine_names f) → Unlike (delivery_names f) → read_file (plan_file f) ≡ accepted f
plan-file-accepted f ranges known engines deliveries engines_unlike deliveries_unlike =
    holds-accepted (plan_file f) f (plan-file-holds f ranges known engines deliveries engines_unlike deliveries_unlike)
