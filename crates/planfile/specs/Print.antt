-- The planner's print (document 01, "The planner's print"): the exact bytes for every answer, and for a refusal.
-- Assumes nothing.
use Rattle.std.specs.Prelude.{ℕ, zero, suc, ◌+◌, ◌*◌, List, [], ◌∷◌, ◌++◌, length}
use Rattle.rfc4180.specs.Text.{ascii}
use Rattle.rfc4180.specs.Writer.{written_file}
use Rattle.planning.specs.declared.Outcome.{Outcome}
use Rattle.planning.specs.declared.Outcome.TheVariants.{Found, None, Stopped}
use Rattle.planning.specs.declared.Refusal.{Refusal}
use Rattle.planning.specs.Bounds.{most_engines, most_deliveries}
use Rattle.planning.specs.Modes.{Planned, outcome_of, tries_of}
use Rattle.planning.specs.Tables.{piece_in}
use Rattle.planning.specs.Refusals.{fault_number}
use Rattle.planning.specs.Search.{Result, found, none, stopped}
use Rattle.planfile.specs.FilePlan.{FilePlan, engine_names, delivery_names}
use Rattle.planfile.specs.Numerals.{decimal}

-- a line by the values of its fields
abbrev pub Line : Type 0
Line = List (List ℕ)

-- the word of an answer
unfoldable pub word_of : Outcome → List ℕ
word_of Found = ascii "found"
word_of None = ascii "none"
word_of Stopped = ascii "stopped"

-- "delivery, engine, Wh", the number as text
abbrev pub line_of : (delivery engine text : List ℕ) → Line
line_of delivery engine text = ascii "piece" ∷ delivery ∷ engine ∷ text ∷ []

-- for a piece above 0
unfoldable pub piece_line : (delivery engine : List ℕ) → (piece : ℕ) → List Line
piece_line delivery engine zero = []
piece_line delivery engine (suc n) = line_of delivery engine (decimal (suc n)) ∷ []

-- the lines of a delivery, by the names, in file order of engines; x i is its piece of engine i
unfoldable pub row_lines : (delivery : List ℕ) → (engines : List (List ℕ)) → (x : ℕ → ℕ) → List Line
row_lines delivery [] x = []
row_lines delivery (engine ∷ engines) x = piece_line delivery engine (x 0) ++ row_lines delivery engines (λ i. x (suc i))

-- "in file order of deliveries, then engines"
unfoldable pub piece_lines : (deliveries engines : List (List ℕ)) → (x : ℕ → ℕ → ℕ) → List Line
piece_lines [] engines x = []
piece_lines (delivery ∷ deliveries) engines x = row_lines delivery engines (λ i. x 0 i) ++ piece_lines deliveries engines (λ p i. x (suc p) i)

-- the lines behind line 1: "Others print one line", which has no pieces
unfoldable pub lines_of : FilePlan → Result → List Line
lines_of f (found tries table) = piece_lines (delivery_names f) (engine_names f) (λ p i. piece_in (length f.engines) table p i)
lines_of f (none tries) = []
lines_of f (stopped tries) = []

-- "Line 1: answer, minutes, tries, pieces."
abbrev pub answer_line : Outcome → (minutes tries pieces : ℕ) → Line
answer_line outcome minutes tries pieces = word_of outcome ∷ decimal minutes ∷ decimal tries ∷ decimal pieces ∷ []

unfoldable pub answer_lines : (minutes : ℕ) → Result → (pieces : List Line) → List Line
answer_lines minutes result pieces = answer_line (outcome_of result) minutes (tries_of result) (length pieces) ∷ pieces

-- the print of an answer, "every line CR LF"; "A name is quoted only if it holds a quote or comma."
unfoldable pub print_of : FilePlan → Planned → List ℕ
print_of f a = written_file (answer_lines a.minutes a.result (lines_of f a.result))

-- "`refused,NUMBER,RECORD,0`", which the program prints
abbrev pub refusal_line : Refusal → Line
refusal_line refusal = ascii "refused" ∷ decimal (fault_number refusal.fault) ∷ decimal refusal.place ∷ ascii "0" ∷ []

unfoldable pub refusal_print : Refusal → List ℕ
refusal_print refusal = written_file (refusal_line refusal ∷ [])

-- No print is longer (Laws/PrintLength). A piece's line has its word, two names of at most 34 bytes, ten digits, three commas, CR and LF;
-- line 1 of found its word, at most 5, 10 and 2 digits, three commas, CR and LF. A plan has at most a piece for each engine and delivery.
abbrev pub longest_piece_line : ℕ
longest_piece_line = 88

abbrev pub longest_print : ℕ
longest_print = 27 + (most_engines + most_deliveries) * longest_piece_line
