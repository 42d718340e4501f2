-- The call with a file (document 01, "Turned down" and "The planner's print"): what it returns, and what the lent tables and the
-- output hold afterwards.
-- Assumes nothing.
use Rattle.std.specs.Prelude.{ℕ, cond, List, length, leb, eqb, Result, Ok, Err}
use Rattle.planning.specs.declared.Answer.{Answer}
use Rattle.planning.specs.declared.Fault.TheVariants.{Space}
use Rattle.planning.specs.declared.Refusal.{Refusal}
use Rattle.planning.specs.Bounds.{most_cells, most_engines}
use Rattle.planning.specs.Modes.{planned, answer_of, table_after, spares_after}
use Rattle.planning.specs.Tables.{over_front}
use Rattle.planfile.specs.FilePlan.{FilePlan, unnamed}
use Rattle.planfile.specs.Print.{print_of, refusal_print}
use Rattle.planfile.specs.Reading.{Read, refused, accepted, require, read_file, ◌>>=◌}

-- "A call with a file is lent exactly" 444 (document 02, K7) "and 12 numbers", and an output
pub record FileCall : Type 0 where
  pub file : List ℕ
  pub table : List ℕ
  pub spare : List ℕ
  pub output : List ℕ

-- the print of the plan's answer
unfoldable pub printed : FilePlan → List ℕ
printed f = print_of f (planned (unnamed f))

-- "9 comes after 8, before anything is written.": "lent table of the wrong length, or output longer than the lent space"
unfoldable pub read_call : FileCall → Read FilePlan
read_call call = do
  f ← read_file call.file
  _ ← require (eqb (length call.table) most_cells) Space 0
  _ ← require (eqb (length call.spare) most_engines) Space 0
  _ ← require (leb (length (printed f)) (length call.output)) Space 0
  accepted f

-- what the call returns: the answer with the print's length, or "its number and the record"
unfoldable pub answer_by : Read FilePlan → Result (Answer × ℕ) Refusal
answer_by (refused refusal) = Err refusal
answer_by (accepted f) = Ok (answer_of (planned (unnamed f)), length (printed f))

unfoldable pub answer_to_file : FileCall → Result (Answer × ℕ) Refusal
answer_to_file call = answer_by (read_call call)

-- the lent lists afterwards: "fills from the front what its plan has, and keeps the others"; each refusal "changes nothing lent"
unfoldable pub on_exit : Read FilePlan → (lent : List ℕ) → (FilePlan → List ℕ) → List ℕ
on_exit (refused refusal) lent changed = lent
on_exit (accepted f) lent changed = changed f

unfoldable pub file_table : FileCall → List ℕ
file_table call = on_exit (read_call call) call.table (λ f. table_after (unnamed f) call.table)

unfoldable pub file_spare : FileCall → List ℕ
file_spare call = on_exit (read_call call) call.spare (λ f. spares_after (unnamed f) call.spare)

-- "The print stands at the front of the lent output; bytes behind it are kept."
unfoldable pub file_output : FileCall → List ℕ
file_output call = on_exit (read_call call) call.output (λ f. over_front (printed f) call.output)

-- "`refused,NUMBER,RECORD,0`": the call's print, or behind a refusal its line where there is space for it. The print's length, 0 where nothing
-- is printed ..
unfoldable pub print_length_by : Result (Answer × ℕ) Refusal → (space : ℕ) → ℕ
print_length_by (Ok (answer, n)) space = n
print_length_by (Err refusal) space = cond (leb (length (refusal_print refusal)) space) (length (refusal_print refusal)) 0

unfoldable pub print_length : FileCall → ℕ
print_length call = print_length_by (answer_to_file call) (length call.output)

-- .. and the output afterwards
unfoldable pub print_output_by : Result (Answer × ℕ) Refusal → (output : List ℕ) → List ℕ
print_output_by (Ok (answer, n)) output = output
print_output_by (Err refusal) output = cond (leb (length (refusal_print refusal)) (length output)) (over_front (refusal_print refusal) output) output

unfoldable pub print_output : FileCall → List ℕ
print_output call = print_output_by (answer_to_file call) (file_output call)

-- "Program `planner` reads standard input and prints CSV": all that it prints. It has to bring tables of the lengths asked for and
-- space for every print, so that 9 has no part in it.
unfoldable pub program_by : Read FilePlan → List ℕ
program_by (refused refusal) = refusal_print refusal
program_by (accepted f) = printed f

unfoldable pub program_print : (input : List ℕ) → List ℕ
program_print input = program_by (read_file input)
