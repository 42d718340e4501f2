-- What the call with a file promises, for every call: the fields of its contract. Demands 1 to 3 are said in terms of cuttings and of the plan
-- that the bytes hold; the reading and its order of checks have no part in them.
-- Assumes nothing.
use Rattle.std.specs.Prelude.{◌≡◌, ◌≢◌, ◌↔◌, ℕ, suc, ◌+◌, ◌*◌, ◌≤◌, ◌<◌, length, take, drop, get_or, Result, Ok, Err}
use mathlib.Core.List.{List, [], ◌∷◌, Memᴰ}
use Rattle.rfc4180.specs.Grammar.{File}
use Rattle.rfc4180.specs.Records.{records}
use Rattle.planning.specs.declared.Answer.{Answer}
use Rattle.planning.specs.declared.Fault.{Fault}
use Rattle.planning.specs.declared.Fault.TheVariants.{Size, Grammar, Fields, Kind, Name, Value, Count, NoEngine, Space, UnknownEngine, QuietSpan}
use Rattle.planning.specs.declared.Mode.TheVariants.{Fixed, Shortest}
use Rattle.planning.specs.declared.Outcome.TheVariants.{Found, None, Stopped}
use Rattle.planning.specs.declared.Refusal.{Refusal}
use Rattle.planning.specs.Bounds.{most_cells, most_engines}
use Rattle.planning.specs.Capacity.{capacities}
use Rattle.planning.specs.Cutting.{NotServed, Serves, ShortestTime}
use Rattle.planning.specs.Modes.{tries_of, unlimited_at}
use Rattle.planning.specs.Tables.{piece_in, at, cell}
use Rattle.planning.specs.Plan.{Within}
use Rattle.planning.specs.Search.{found}
use Rattle.planning.specs.Sum.{sum, positives}
use Rattle.planfile.specs.FileCall.{FileCall, printed, answer_to_file, file_table, file_spare, file_output, print_length_by, print_output_by, program_print}
use Rattle.planfile.specs.FilePlan.{FilePlan, unnamed, engine_names, delivery_names, name_at}
use Rattle.planfile.specs.Holding.{Holds}
use Rattle.planfile.specs.Numerals.{Numeral, decimal}
use Rattle.planfile.specs.Print.{Line, word_of, lines_of, refusal_line, refusal_print, line_of, longest_print}

-- "a piece table of deliveries × engines (a row for each delivery ..)": how many numbers of the lent table are the plan's
abbrev pub plan_cells : FilePlan → ℕ
plan_cells f = length f.deliveries * length f.engines

-- the piece of delivery p and engine i in the lent table
abbrev pub piece_of : FilePlan → (table : List ℕ) → (p i : ℕ) → ℕ
piece_of f table p i = piece_in (length f.engines) table p i

-- "delivery, engine, Wh": the line with the names of delivery p and engine i and a text for the number
abbrev pub named_line : FilePlan → (p i : ℕ) → (text : List ℕ) → Line
named_line f p i text = line_of (name_at (delivery_names f) p) (name_at (engine_names f) i) text

-- ---- a call that is accepted, and where a refusal may be

-- The bytes hold a plan; "A call with a file is lent exactly" 444 (document 02, K7) "and 12 numbers"; and the plan's output is not "longer
-- than the lent space".
pub record FileAccepted (call : FileCall) : Type 0 where
  pub plan : FilePlan
  pub held : Holds call.file plan
  pub table : length call.table ≡ most_cells
  pub spare : length call.spare ≡ most_engines
  pub output : length (printed plan) ≤ length call.output

-- "Each refusal returns its number and the record counted from 1 (0 for 1, 8 and 9)": the places of a fault in a file of so many records
unfoldable pub FaultInFile : (records : ℕ) → Fault → (place : ℕ) → Type 0
FaultInFile records Size place = place ≡ 0
FaultInFile records Grammar place = Within 1 records place
FaultInFile records Fields place = Within 1 records place
FaultInFile records Kind place = Within 1 records place
FaultInFile records Name place = Within 1 records place
FaultInFile records Value place = Within 1 records place
FaultInFile records Count place = Within 1 records place
FaultInFile records NoEngine place = place ≡ 0
FaultInFile records Space place = place ≡ 0
FaultInFile records UnknownEngine place = Within 1 records place
FaultInFile records QuietSpan place = Within 1 records place

-- ---- a print read back

-- The print of an answer, read by the definition of RFC 4180.
pub record PrintLines (print : List ℕ) (f : FilePlan) (a : Answer) (table : List ℕ) : Type 0 where
  -- the lines behind line 1
  pub pieces : List Line
  -- "Line 1: answer, minutes, tries, pieces."
  pub file : File print ((word_of a.outcome ∷ decimal a.minutes ∷ decimal a.tries ∷ decimal (length pieces) ∷ []) ∷ pieces)
  -- "Then delivery, engine, Wh, in file order of deliveries, then engines.": those of the plan's numbers in the table on exit
  pub where_found : a.outcome ≡ Found → pieces ≡ lines_of f (found a.tries (take (plan_cells f) table))
  -- "Others print one line"
  pub otherwise : a.outcome ≢ Found → pieces ≡ []

-- Lines that give exactly the table's pieces above 0, behind a line 1.
pub record PiecesRead (lines : List Line) (f : FilePlan) (table : List ℕ) : Type 0 where
  -- a line for each of them
  pub count : length lines ≡ suc (positives (plan_cells f) (at table))
  -- by names: a line with those of delivery p and engine i is there exactly where their piece is above 0, and has its number
  pub named : (p i : ℕ) → p < length f.deliveries → i < length f.engines → (text : List ℕ)
      → Memᴰ (named_line f p i text) lines ↔ ((0 < piece_of f table p i) × Numeral text (piece_of f table p i))
  -- in order: behind line 1 and a line for each piece above 0 in an earlier cell
  pub in_order : (p i : ℕ) → p < length f.deliveries → i < length f.engines → 0 < piece_of f table p i
      → get_or lines (suc (positives (cell (length f.engines) p i) (at table))) [] ≡ named_line f p i (decimal (piece_of f table p i))

-- ---- the contract

-- `table'`, `spare'` and `output'` are what the lent lists hold on exit
pub record FilePromised (call : FileCall) (r : Result (Answer × ℕ) Refusal) (table' spare' output' : List ℕ) : Type 0 where
  -- what is returned, and what the lent lists hold, are what the definitions say
  pub result : r ≡ answer_to_file call
  pub table : table' ≡ file_table call
  pub spare : spare' ≡ file_spare call
  pub output : output' ≡ file_output call
  -- Demand 1. A call that is accepted, and no other, is answered: "An answer is one of found, none and stopped, carried with its minutes and
  -- tries."
  pub answered_exactly : ((a : Answer) × (n : ℕ) × (r ≡ Ok (a, n))) ↔ FileAccepted call
  -- Any other call is refused: for want of space exactly where the bytes hold a plan, else for a fault of the file. (Which fault, and which
  -- record, the field `result` says.)
  pub refused_by_file : (refusal : Refusal) → r ≡ Err refusal
      → FaultInFile (length (records call.file)) refusal.fault refusal.place
      × ((refusal.fault ≡ Space) ↔ ((f : FilePlan) × Holds call.file f))
  -- Each refusal "changes nothing lent".
  pub turned_down : (refusal : Refusal) → r ≡ Err refusal → (table' ≡ call.table) × (spare' ≡ call.spare) × (output' ≡ call.output)
  -- Demand 2. "Found writes the piece table .. and each engine's spare: capacity less its pieces." The table is a cutting in whole watt-hours
  -- that serves the plan in the answered minutes: each delivery's pieces add up to its energy, each engine's to at most its capacity, and at
  -- most LIMIT of a delivery's pieces are above 0. The call "fills from the front what its plan has, and keeps the others".
  pub found_serves : (a : Answer) (n : ℕ) (f : FilePlan) → r ≡ Ok (a, n) → Holds call.file f → a.outcome ≡ Found
      → Serves 1 (unnamed f) a.minutes (piece_of f table')
      × ((i : ℕ) → i < length f.engines
      → at spare' i + sum (length f.deliveries) (λ p. piece_of f table' p i) ≡ at (capacities (unnamed f) a.minutes) i)
      × (drop (plan_cells f) table' ≡ drop (plan_cells f) call.table)
      × (drop (length f.engines) spare' ≡ drop (length f.engines) call.spare)
  -- "None and stopped leave both untouched."
  pub kept_unless_found : (a : Answer) (n : ℕ) → r ≡ Ok (a, n) → a.outcome ≢ Found → (table' ≡ call.table) × (spare' ≡ call.spare)
  -- "where one more would exceed the allowance, the answer is stopped, its tries equal to the allowance": the search at the answered
  -- minutes needs more tries than were allowed.
  pub stopped_exactly : (a : Answer) (n : ℕ) (f : FilePlan) → r ≡ Ok (a, n) → Holds call.file f
      → ((a.outcome ≡ Stopped) ↔ (f.allowance < tries_of (unlimited_at (unnamed f) a.minutes)))
      × (a.outcome ≡ Stopped → a.tries ≡ f.allowance)
  -- "The print stands at the front of the lent output; bytes behind it are kept."
  pub print_reads : (a : Answer) (n : ℕ) (f : FilePlan) → r ≡ Ok (a, n) → Holds call.file f
      → (n ≤ length call.output) × (drop n output' ≡ drop n call.output) × PrintLines (take n output') f a table'
  -- Whatever a found print is read as, by the definition of RFC 4180, is the table's pieces.
  pub reads_back : (a : Answer) (n : ℕ) (f : FilePlan) → r ≡ Ok (a, n) → Holds call.file f → a.outcome ≡ Found
      → (lines : List Line) → File (take n output') lines → PiecesRead lines f table'
  -- Demand 3. Unless the answer is stopped, it is none exactly when, for every n from 1, no cutting in n parts serves the plan in its
  -- MINUTES: "The minutes a plan gives are its MINUTES, in both modes".
  pub none_exactly : (a : Answer) (n : ℕ) (f : FilePlan) → r ≡ Ok (a, n) → Holds call.file f → a.outcome ≢ Stopped
      → (a.outcome ≡ None) ↔ NotServed (unnamed f) f.minutes
  -- "a shortest time is the minutes carried with found under `shortest`": a cutting serves the plan in that time, and none in any smaller
  -- whole minute down to one. A fixed time that is answered found is the plan's MINUTES.
  pub shortest_exactly : (a : Answer) (n : ℕ) (f : FilePlan) → r ≡ Ok (a, n) → Holds call.file f → a.outcome ≡ Found
      → (f.mode ≡ Shortest → ShortestTime (unnamed f) a.minutes)
      × (f.mode ≡ Fixed → a.minutes ≡ f.minutes)

-- ---- a refusal's line

-- The line stands at the front of the lent output where there is space for it, and its length is returned; else nothing is written, and
-- 0 is returned. Read by the definition of RFC 4180, it is "`refused,NUMBER,RECORD,0`".
pub record RefusalWritten (refusal : Refusal) (lent : List ℕ) (n : ℕ) (output' : List ℕ) : Type 0 where
  pub result : n ≡ print_length_by (Err refusal) (length lent)
  pub output : output' ≡ print_output_by (Err refusal) lent
  pub reads : 0 < n → File (take n output') (refusal_line refusal ∷ [])

-- ---- The program `planner`

-- What is printed of an input is document 01's print of it, and never a refusal by 9.
pub record ProgramPrints (input print : List ℕ) : Type 0 where
  pub whole : print ≡ program_print input
  pub never_space : (refusal : Refusal) → refusal.fault ≡ Space → print ≡ refusal_print refusal → ⊥

-- So it is where tables of the lengths asked for are lent and an output that holds every print.
unfoldable pub PrintsAsProgram : FileCall → (n : ℕ) → (output : List ℕ) → Type 0
PrintsAsProgram call n output =
    length call.table ≡ most_cells → length call.spare ≡ most_engines → longest_print ≤ length call.output → ProgramPrints call.file (take n output)
