-- The allocation on numbers (document 01, "Turned down", second part; document 02, K1): what is lent and asked, its refusal with its place, and,
-- apart from that, when it is accepted.
-- Assumes nothing.
use Rattle.std.specs.Prelude.{◌≡◌, ℕ, suc, ◌+◌, ◌*◌, ◌%◌, Bool, ◌&&◌, length, leb, eqb, Result, Ok, Err}
use mathlib.Core.List.{List, [], ◌∷◌, ◌++◌, zip_with}
use Rattle.std.proofs.Math.Option.{Option, none, some}
use Rattle.planning.specs.declared.Answer.{Answer}
use Rattle.planning.specs.declared.Fault.TheVariants.{Fields, Value, Count, NoEngine, Space, UnknownEngine, QuietSpan}
use Rattle.planning.specs.declared.Mode.{Mode}
use Rattle.planning.specs.declared.PlanLists.{PlanLists}
use Rattle.planning.specs.declared.Refusal.{Refusal}
use Rattle.planning.specs.Bounds.{most_engines, most_deliveries, most_minutes, most_tries, most_watts, most_fuel, most_energy, most_limit}
use Rattle.planning.specs.Modes.{planned, answer_of, table_after, spares_after}
use Rattle.planning.specs.Plan.{Plan, Engine, Delivery, All, Within, InRange}
use Rattle.planning.specs.Quiet.{Quiet, spans_of, fits}
use Rattle.planning.specs.Refusals.{check, check_each, ◌then◌}
use Rattle.planning.specs.Tables.{at, listed}

-- "It takes mode, minutes, allowance and lists of watts, fuels, energies and limits, and is lent a piece table .. and a spare list"; "On numbers
-- the spans are a further list" (document 02, K1)
pub record Call : Type 0 where
  pub mode : Mode
  pub minutes : ℕ
  pub allowance : ℕ
  pub watts : List ℕ
  pub fuels : List ℕ
  pub energies : List ℕ
  pub limits : List ℕ
  pub quiet : List ℕ
  pub table : List ℕ
  pub spare : List ℕ

-- a call with those values
abbrev pub call_on : Mode → (minutes allowance : ℕ) → (watts fuels energies limits quiet table spare : List ℕ) → Call
call_on mode minutes allowance watts fuels energies limits quiet table spare =
    record {
      mode = mode;
      minutes = minutes;
      allowance = allowance;
      watts = watts;
      fuels = fuels;
      energies = energies;
      limits = limits;
      quiet = quiet;
      table = table;
      spare = spare;
    }

-- the call with the lists of a plan, which is lent those
abbrev pub call_of : PlanLists → (table spare : List ℕ) → Call
call_of lists table spare =
    call_on lists.mode lists.minutes lists.allowance lists.watts.now lists.fuels.now lists.energies.now lists.limits.now lists.quiet.now table spare

-- the spans of a list of "three numbers each (engine counted from 1, FROM, TO ..)"
unfoldable pub quiet_of : List ℕ → List Quiet
quiet_of [] = []
quiet_of (engine ∷ []) = []
quiet_of (engine ∷ from ∷ []) = []
quiet_of (engine ∷ from ∷ to ∷ more) = record { engine = engine; span = record { from = from; to = to } } ∷ quiet_of more

-- the span of three of them
abbrev pub quiet_three : List ℕ → Quiet
quiet_three three = record { engine = at three 0; span = record { from = at three 1; to = at three 2 } }

-- and such a list of spans
unfoldable pub triples_of : List Quiet → List ℕ
triples_of [] = []
triples_of (q ∷ quiet) = q.engine ∷ q.span.from ∷ q.span.to ∷ triples_of quiet

-- the engines of paired lists, each with its own spans, and the deliveries
unfoldable pub engines_of : (watts fuels : List ℕ) → List Quiet → List Engine
engines_of watts fuels quiet = listed (length watts) (λ i. record { watts = at watts i; fuel = at fuels i; quiet = spans_of (suc i) quiet })

unfoldable pub deliveries_of : (energies limits : List ℕ) → List Delivery
deliveries_of energies limits = zip_with (λ (e l : ℕ). record { energy = e; limit = l }) energies limits

-- the plan of a call
unfoldable pub plan_of : Call → Plan
plan_of call =
    record {
      mode = call.mode;
      minutes = call.minutes;
      allowance = call.allowance;
      engines = engines_of call.watts call.fuels (quiet_of call.quiet);
      deliveries = deliveries_of call.energies call.limits;
    }

-- n is low to high, as a test
unfoldable pub within : (low high n : ℕ) → Bool
within low high n = leb low n && leb n high

-- "engines (watts, fuel)" and "deliveries (energy, limit)" against their ranges, at record r
unfoldable pub engine_fault : (r : ℕ) → Engine → Option Refusal
engine_fault r e = check (within 0 most_watts e.watts) Value r then check (within 0 most_fuel e.fuel) Value r

unfoldable pub delivery_fault : (r : ℕ) → Delivery → Option Refusal
delivery_fault r d = check (within 1 most_energy d.energy) Value r then check (within 1 most_limit d.limit) Value r

-- a quiet span of one of so many engines, behind earlier ones: "by 6 (FROM, TO), 10 (no such engine), 11, place 0"
unfoldable pub quiet_fault : (engines : ℕ) → (earlier : List Quiet) → Quiet → Option Refusal
quiet_fault engines earlier q =
    check (within 0 most_minutes q.span.from) Value 0
    then check (within 0 most_minutes q.span.to) Value 0
    then check (within 1 engines q.engine) UnknownEngine 0
    then check (fits q.span (spans_of q.engine earlier)) QuietSpan 0

-- "span by span"
unfoldable pub check_quiet : (engines : ℕ) → (earlier : List Quiet) → List Quiet → Option Refusal
check_quiet engines earlier [] = none
check_quiet engines earlier (q ∷ quiet) = quiet_fault engines earlier q then check_quiet engines (earlier ++ q ∷ []) quiet

-- "It checks 3, 8, 7, 9, then 6 over minutes, allowance, engines (watts, fuel), deliveries (energy, limit). .. Its place for 6
-- is the record number with plan first, engines, then deliveries; else 0." Of the quiet spans "a length that isn't a multiple of three is 3", and
-- they are "checked last".
unfoldable pub refusal_of : Call → Option Refusal
refusal_of call =
    check (eqb (length call.watts) (length call.fuels)) Fields 0
    then check (eqb (length call.energies) (length call.limits)) Fields 0
    then check (eqb (length call.quiet % 3) 0) Fields 0
    then check (leb 1 (length call.watts)) NoEngine 0
    then check (leb (length call.watts) most_engines) Count 0
    then check (leb (length call.energies) most_deliveries) Count 0
    then check (eqb (length call.table) (length call.energies * length call.watts)) Space 0
    then check (eqb (length call.spare) (length call.watts)) Space 0
    then check (within 1 most_minutes call.minutes) Value 1
    then check (within 0 most_tries call.allowance) Value 1
    then check_each engine_fault 2 (plan_of call).engines
    then check_each delivery_fault (2 + length call.watts) (plan_of call).deliveries
    then check_quiet (length call.watts) [] (quiet_of call.quiet)

-- Apart from the refusal: "A plan on numbers that passes every check is accepted". Lists paired, counts and ranges kept, and
-- "a piece table of deliveries × engines .. and a spare list, one number for each engine"; every quiet span is one of an engine.
pub record Accepted (call : Call) : Type 0 where
  pub engine_lists : length call.watts ≡ length call.fuels
  pub delivery_lists : length call.energies ≡ length call.limits
  pub quiet_threes : length call.quiet % 3 ≡ 0
  pub quiet_engines : All (λ (q : Quiet). Within 1 (length call.watts) q.engine) (quiet_of call.quiet)
  pub in_range : InRange (plan_of call)
  pub table : length call.table ≡ length call.energies * length call.watts
  pub spare : length call.spare ≡ length call.watts

-- what the call returns, and what the lent table and spare list hold afterwards: "Each refusal .. changes nothing lent."
unfoldable pub answered_by : Call → Option Refusal → Result Answer Refusal
answered_by call (some refusal) = Err refusal
answered_by call none = Ok (answer_of (planned (plan_of call)))

unfoldable pub allocation : Call → Result Answer Refusal
allocation call = answered_by call (refusal_of call)

unfoldable pub unless_refused : Option Refusal → (lent written : List ℕ) → List ℕ
unless_refused (some refusal) lent written = lent
unless_refused none lent written = written

unfoldable pub table_on_exit : Call → List ℕ
table_on_exit call = unless_refused (refusal_of call) call.table (table_after (plan_of call) call.table)

unfoldable pub spare_on_exit : Call → List ℕ
spare_on_exit call = unless_refused (refusal_of call) call.spare (spares_after (plan_of call) call.spare)
