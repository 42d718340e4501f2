-- What reading a quiet span and adding it to a plan by value comes to, in terms of the reading.
-- Assumes nothing.
use Rattle.std.specs.Prelude.{◌≡◌, Result, Ok, Err, List, [], ◌∷◌, ℕ, ◌+◌, length, set}
use Rattle.std.proofs.Math.Option.{none}
use Rattle.planning.specs.declared.Fault.{Fault}
use Rattle.planning.specs.Numbers.{quiet_fault}
use Rattle.planning.specs.Quiet.{Quiet}
use Rattle.planfile.specs.FilePlan.{FilePlan, engine_names, with_quiet}
use Rattle.planfile.specs.Reading.{Read, accepted, fault, FourFields, read_quiet}
use Rattle.planreader.specs.declared.FilePlan.{FilePlan as ByValue}
use Rattle.planning.specs.declared.QuietSpan.{QuietSpan as Span}
use Rattle.planreader.specs.Plans.{names_in, quiet_in}

-- a span that was read, as one of the plan
abbrev pub quiet_by : Span ℕ → Quiet
quiet_by s = record { engine = s.engine; span = record { from = s.from; to = s.to } }

-- how a quiet record is read behind engines of these names and these spans, whatever else the plan so far has
abbrev pub QuietReads : (names : List (List ℕ)) → List Quiet → FourFields → (FilePlan → (r : ℕ) → Read FilePlan) → Type 0
QuietReads names quiet x how = (f : FilePlan) → engine_names f ≡ names → f.quiet ≡ quiet → (r : ℕ) → read_quiet f r x ≡ how f r

-- behind engines of these names and these spans the record adds a span that no check refuses there, or has that fault
unfoldable pub SpanRead : (names : List (List ℕ)) → List Quiet → FourFields → Result (Span ℕ) Fault → Type 0
SpanRead names quiet x (Ok s) =
    (quiet_fault (length names) quiet (quiet_by s) ≡ none) × QuietReads names quiet x (λ f r. accepted (with_quiet f (quiet_by s)))
SpanRead names quiet x (Err what) = QuietReads names quiet x (λ f r. fault what r)

-- the column with a span stored behind the first n, and the plan by value with it
unfoldable pub with_span : (n : ℕ) → Span ℕ → (column : List (List ℕ)) → List (List ℕ)
with_span n s column = set column n (s.engine ∷ s.from ∷ s.to ∷ [])

unfoldable pub plan_with_span : Span ℕ → ByValue → ByValue
plan_with_span s p =
    record {
      mode = p.mode;
      minutes = p.minutes;
      allowance = p.allowance;
      engines = p.engines;
      spans = p.spans + 1;
      quiet = with_span p.spans s p.quiet;
      deliveries = p.deliveries;
    }

-- a span is added as the reading has it, or the reading has that fault and the plan stays
unfoldable pub AddsQuiet : FourFields → (before after : ByValue) → Result (Unit {0}) Fault → Type 0
AddsQuiet x before after (Ok done) =
    (s : Span ℕ) × SpanRead (names_in before.engines) (quiet_in before.spans before.quiet) x (Ok s) × (after ≡ plan_with_span s before)
AddsQuiet x before after (Err what) = SpanRead (names_in before.engines) (quiet_in before.spans before.quiet) x (Err what) × (after ≡ before)
