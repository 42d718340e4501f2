-- What the functions on the records after record 1 return, in terms of the reading. The plan so far stands in a plan by value.
-- Assumes nothing.
use Rattle.std.specs.Prelude.{◌≡◌, Bool, true, false, nat_eq, Option, None, Some, Result, Ok, Err, List, map, ℕ, ◌≤◌, leb, length, drop}
use Rattle.std.specs.Cmp.Lexicographic.{pointwise}
use Rattle.rfc4180.specs.Text.{ascii}
use Rattle.rfc4180.specs.Records.{first_record, further_records}
use Rattle.csv_fields.specs.Spans.{record_span}
use Rattle.planning.specs.declared.Fault.{Fault}
use Rattle.planning.specs.declared.Fault.TheVariants.{NoEngine}
use Rattle.planning.specs.declared.Refusal.{Refusal}
use Rattle.planning.specs.Bounds.{most_engines, most_quiet, most_deliveries}
use Rattle.planning.specs.Plan.{All, Within, QuietInRange}
use Rattle.planning.specs.Quiet.{Quiet, spans_of}
use Rattle.planfile.specs.Bounds.{most_name_bytes}
use Rattle.planfile.specs.FilePlan.{FilePlan, NamedEngine, NamedDelivery, begun}
use Rattle.planfile.specs.Reading.{Read, refused, accepted, fault, require, fields_of, read_record, read_records, ◌>>=◌}
use Rattle.planreader.specs.declared.FilePlan.{FilePlan as ByValue}
use Rattle.planreader.specs.declared.items.Items.{Items}
use Rattle.planreader.specs.declared.records.Kind.{Kind}
use Rattle.planreader.specs.declared.records.Kind.TheVariants as kind
use Rattle.planreader.specs.Columns.{Item, columns_of, engine_item, delivery_item, quiet_column_of, by_value}

-- the kind of a word
unfoldable pub kind_by : (engine quiet delivery : Bool) → Option Kind
kind_by true quiet delivery = Some kind.Engine
kind_by false true delivery = Some kind.Quiet
kind_by false false true = Some kind.Delivery
kind_by false false false = None

unfoldable pub kind_named : (text : List ℕ) → Option Kind
kind_named text =
    kind_by (pointwise nat_eq text (ascii "engine")) (pointwise nat_eq text (ascii "quiet")) (pointwise nat_eq text (ascii "delivery"))

-- columns that hold these items
pub record Filled {most : ℕ} (items : List Item) (c : Items most) : Type 0 where
  pub room : length items ≤ most
  pub short : All (λ (i : Item). length i.name ≤ most_name_bytes) items
  pub columns : c ≡ columns_of most items

abbrev pub EnginesIn : List NamedEngine → Items most_engines → Type 0
EnginesIn engines c = Filled (map engine_item engines) c

abbrev pub DeliveriesIn : List NamedDelivery → Items most_deliveries → Type 0
DeliveriesIn deliveries c = Filled (map delivery_item deliveries) c

-- a column that holds n quiet spans, each one of so many engines, and each engine's in range
pub record SpansIn (engines : ℕ) (quiet : List Quiet) (n : ℕ) (column : List (List ℕ)) : Type 0 where
  pub count : n ≡ length quiet
  pub room : n ≤ most_quiet
  pub filled : column ≡ quiet_column_of quiet
  pub known : All (λ (q : Quiet). Within 1 engines q.engine) quiet
  pub ranges : (i : ℕ) → QuietInRange (spans_of i quiet)

-- a plan by value that holds this plan so far
pub record PlanIn (f : FilePlan) (p : ByValue) : Type 0 where
  pub mode : p.mode ≡ f.mode
  pub minutes : p.minutes ≡ f.minutes
  pub allowance : p.allowance ≡ f.allowance
  pub engines : EnginesIn f.engines p.engines
  pub spans : SpansIn (length f.engines) f.quiet p.spans p.quiet
  pub deliveries : DeliveriesIn f.deliveries p.deliveries

-- some plan so far
abbrev pub Held : ByValue → Type 0
Held p = (f : FilePlan) × PlanIn f p

-- a record's text, read behind the plan so far
unfoldable pub read_text : FilePlan → (r : ℕ) → (text : List ℕ) → Read FilePlan
read_text f r text = do
  x ← fields_of r text
  read_record f r x

-- a record's text is read behind a plan as making it another one, which the plan by value then holds, or as having that fault, and then it holds
-- that plan still
unfoldable pub AddsBehind : (text : List ℕ) → FilePlan → (after : ByValue) → Result (Unit {0}) Fault → Type 0
AddsBehind text f after (Ok done) = (g : FilePlan) × ((r : ℕ) → read_text f r text ≡ accepted g) × PlanIn g after
AddsBehind text f after (Err what) = ((r : ℕ) → read_text f r text ≡ fault what r) × PlanIn f after

-- whatever plan the plan by value held before it
unfoldable pub AddsRecord : (text : List ℕ) → (before after : ByValue) → Result (Unit {0}) Fault → Type 0
AddsRecord text before after r = (f : FilePlan) → PlanIn f before → AddsBehind text f after r

-- the record that begins at a place of a file is added so, and behind it the next one begins; or it has that fault
unfoldable pub AddsNext : (file : List ℕ) → (from : ℕ) → (before after : ByValue) → Result ℕ Fault → Type 0
AddsNext file from before after (Ok next) = AddsRecord (first_record (drop from file)).text before after (Ok tt) × (next ≡ (record_span file from).next)
AddsNext file from before after (Err what) = AddsRecord (first_record (drop from file)).text before after (Err what)

-- 8 after the last record
unfoldable pub require_engine : Read FilePlan → Read FilePlan
require_engine m = do
  f ← m
  _ ← require (leb 1 (length f.engines)) NoEngine 0
  accepted f

-- the records from a place of a file on, which are records 2 and further, behind the plan so far
unfoldable pub read_behind : (file : List ℕ) → (start : ℕ) → FilePlan → Read FilePlan
read_behind file start f = require_engine (read_records f 2 (further_records (length file) (drop start file)))

-- the plan behind record 1, and a plan by value that holds it
abbrev pub begun_by : ByValue → FilePlan
begun_by p = begun p.mode p.minutes p.allowance

abbrev pub IsBegun : ByValue → Type 0
IsBegun p = p ≡ by_value (begun_by p)

-- what the records are read as: a refusal, or the plan that the plan by value then is
unfoldable pub RecordsBy : Read FilePlan → (after : ByValue) → Result (Unit {0}) Refusal → Type 0
RecordsBy (refused refusal) after r = r ≡ Err refusal
RecordsBy (accepted f) after r = (r ≡ Ok tt) × (after ≡ by_value f)
