-- What is left to be read of a file behind the records that are read, at each turn of the loop over them. Assumes nothing.
use Rattle.std.specs.Prelude.{◌≡◌, Result, Ok, Err, List, [], ◌∷◌, ℕ, zero, suc, ◌+◌, ◌≤◌, ◌<◌, length, drop}
use Rattle.std.proofs.Math.Path.{refl}
use Rattle.std.proofs.Common.{sym, ap, ◌∙◌, subst, arith, length-drop, drop_of_length-le}
use Rattle.std.proofs.Math.ListN.{length-map}
use borrow.Author.Tests.{le-leb, lt-leb}
use Rattle.rfc4180.specs.Records.{first_record, further, further_records}
use Rattle.csv_fields.specs.Laws.RecordSpans.{Stands, record_stands, records-from}
use Rattle.csv_fields.specs.Spans.{record_span}
use Rattle.planning.specs.declared.Fault.{Fault}
use Rattle.planning.specs.declared.Fault.TheVariants.{NoEngine}
use Rattle.planning.specs.declared.Refusal.{Refusal}
use Rattle.planning.specs.declared.Mode.{Mode}
use Rattle.planning.specs.Bounds.{most_engines, most_deliveries}
use Rattle.planfile.specs.FilePlan.{FilePlan, begun}
use Rattle.planfile.specs.Reading.{Read, refused, accepted, ◌>>=◌, fault, require, read_records}
use Rattle.planreader.specs.declared.FilePlan.{FilePlan as ByValue}
use Rattle.planreader.specs.Columns.{engine_item, by_value, reading_of}
use Rattle.planreader.specs.Laws.Columns.{columns-nothing, filled-nothing, filled-count}
use Rattle.planreader.specs.Laws.Quiet.{spans-nothing}
use Rattle.planreader.specs.Laws.Records.{records-refused, records-added}
use Rattle.planreader.specs.Records.{PlanIn, read_text, AddsBehind, AddsRecord, AddsNext, require_engine, read_behind, begun_by, IsBegun, RecordsBy}

-- a plan by value that holds a plan is that plan by value
plan-value : {f : FilePlan} {p : ByValue} → PlanIn f p → p ≡ by_value f
unfolding by_value
plan-value h = rw (← h.mode, ← h.minutes, ← h.allowance, ← h.engines.columns, ← h.spans.count, ← h.spans.filled, ← h.deliveries.columns)

-- what the records from a place on are read as: those from the start behind a plan are read as those from here behind the plan so far
pub record Pending (file : List ℕ) (start : ℕ) (b : FilePlan) (p : ByValue) (from place : ℕ) : Type 0 where
  pub so_far : FilePlan
  pub held : PlanIn so_far p
  pub few : place ≤ from + 2
  pub bound : ℕ
  pub enough : length (drop from file) ≤ bound
  pub left : read_records b 2 (further_records (length file) (drop start file)) ≡ read_records so_far place (further_records bound (drop from file))

-- the plan behind record 1 is held by value
begun-held : (mode : Mode) (minutes allowance : ℕ) → PlanIn (begun mode minutes allowance) (by_value (begun mode minutes allowance))
unfolding by_value
begun-held mode minutes allowance =
    record {
      mode = refl;
      minutes = refl;
      allowance = refl;
      engines = rw (← columns-nothing most_engines) (filled-nothing most_engines);
      spans = spans-nothing;
      deliveries = rw (← columns-nothing most_deliveries) (filled-nothing most_deliveries);
    }

pub pending_start : (file : List ℕ) (start : ℕ) (p : ByValue) → IsBegun p → Pending file start (begun_by p) p start 2
pending_start file start p e =
    record {
      so_far = begun_by p;
      held = subst (PlanIn (begun_by p)) (sym e) (begun-held p.mode p.minutes p.allowance);
      few = omega arith;
      bound = length file;
      enough = omega (arith, length-drop start file);
      left = refl;
    }

-- ---- the next record

module _ {file : List ℕ} {start : ℕ} {b : FilePlan} {p : ByValue} {from place : ℕ} (s : Pending file start b p from place) (more : from < length file) where
  abbrev text : List ℕ
  text = (first_record (drop from file)).text

  -- it stands in the file
  pub next-stands : Stands file from text (further (first_record (drop from file))) (record_span file from)
  next-stands = record_stands file from (omega arith)

  -- the records from here on: it, and the others
  pub record Next : Type 0 where
    pub bound : ℕ
    pub enough : length (drop (record_span file from).next file) ≤ bound
    pub first : further_records s.bound (drop from file) ≡ text ∷ further_records bound (drop (record_span file from).next file)

  next : Next
  next = let (bound, enough, first) = records-from file from s.bound more s.enough in record { bound = bound; enough = enough; first = first }

  -- it has a fault
  pending-refused : (after : ByValue) (what : Fault) → ((r : ℕ) → read_text s.so_far r text ≡ fault what r)
      → RecordsBy (read_behind file start b) after (Err (record { fault = what; place = place }))
  unfolding RecordsBy read_behind require_engine ◌>>=◌ fault
  pending-refused after what h =
      rw (s.left ∙ ap (read_records s.so_far place) next.first ∙ records-refused s.so_far place text _ what (h place))

  -- as the function that adds it says it: over variables, so that a caller rewrites no large goal
  told : (after : ByValue) (how : Result (Unit {0}) Fault) → AddsRecord text p after how → AddsBehind text s.so_far after how
  unfolding AddsRecord
  told after how adds = adds s.so_far s.held

  module _ (after : ByValue) {how : Result ℕ Fault} (adds : AddsNext file from p after how) where
    pub pending_fault : {what : Fault} → how ≡ Err what → RecordsBy (read_behind file start b) after (Err (record { fault = what; place = place }))
    unfolding AddsNext AddsBehind
    pending_fault {what} is = pending-refused after what (told after (Err what) (rw is at adds)).0

    pub pending_next : {to : ℕ} → how ≡ Ok to → to ≡ (record_span file from).next
    unfolding AddsNext
    pending_next is = (rw is at adds).1

    pub pending_added : {to : ℕ} → how ≡ Ok to → Pending file start b after to (place + 1)
    unfolding AddsNext AddsBehind
    pending_added {to} is =
        let (adds, behind) = rw is at adds in
        let (g, reads, held) = told after (Ok tt) adds in
        record {
          so_far = g;
          held = held;
          few = omega (arith, behind, next-stands.onward more, s.few);
          bound = next.bound;
          enough = rw behind next.enough;
          left = rw behind (s.left ∙ ap (read_records s.so_far place) next.first ∙ records-added s.so_far place text _ (reads place));
        }

-- ---- the end

module _ {file : List ℕ} {start : ℕ} {b : FilePlan} {p : ByValue} {from place : ℕ} (s : Pending file start b p from place) (over : length file ≤ from) where
  -- all records are read
  pending_end : read_records b 2 (further_records (length file) (drop start file)) ≡ accepted s.so_far
  pending_end =
      s.left
      ∙ ap (λ (bytes : List ℕ). read_records s.so_far place (further_records s.bound bytes)) (drop_of_length-le file {i = from} over)
      ∙ nothing s.bound
    where
      nothing : (m : ℕ) → read_records s.so_far place (further_records m []) ≡ accepted s.so_far
      nothing zero = unfold read_records further_records in refl
      nothing (suc m) = unfold read_records further_records in refl

  engine-count : p.engines.count ≡ length s.so_far.engines
  engine-count = omega (arith, filled-count s.held.engines, length-map s.so_far.engines engine_item)

  -- there is no engine
  pub pending_missing : p.engines.count ≡ 0 → RecordsBy (read_behind file start b) p (Err (record { fault = NoEngine; place = 0 }))
  unfolding RecordsBy read_behind require_engine ◌>>=◌ require fault
  pending_missing z = rw (pending_end, lt-leb 1 (length s.so_far.engines) (omega (arith, engine-count)))

  -- all are read
  pub pending_read : 1 ≤ p.engines.count → RecordsBy (read_behind file start b) p (Ok tt)
  unfolding RecordsBy read_behind require_engine ◌>>=◌ require
  pending_read z = rw (pending_end, le-leb 1 (length s.so_far.engines) (omega (arith, engine-count))) (refl, plan-value s.held)

-- ---- what is handed back

pub records-refused-by : (m : Read FilePlan) (after : ByValue) (refusal : Refusal) → RecordsBy m after (Err refusal) → m ≡ refused refusal
unfolding RecordsBy
records-refused-by (refused other) after refusal h = let same : refusal ≡ other = cc in rw same
records-refused-by (accepted f) after refusal h = absurd (cc)

pub records-read-by : {done : Unit {0}} (m : Read FilePlan) (after : ByValue) → RecordsBy m after (Ok done) → Ok after ≡ reading_of m
unfolding RecordsBy reading_of
records-read-by (refused other) after h = absurd (cc)
records-read-by (accepted f) after h = ap Ok h.1
