-- The call that prints its refusal too prints as the program `planner` does, where it is lent what the program brings: document 01's print
-- of the input, and never a refusal by 9.
-- Assumes nothing.
use Rattle.std.specs.Prelude.{◌≡◌, ◌≢◌, Bool, true, false, cond, ℕ, ◌+◌, ◌≤◌, ◌<◌, drop, get_or, leb, Result, Ok, Err}
use Rattle.std.proofs.Math.Path.{refl}
use Rattle.std.proofs.Common.{sym, ap, ◌∙◌}
use mathlib.Core.List.{List, [], ◌∷◌}
use native.Mathlib.Omega.{arith}
use Rattle.std.proofs.Math.ListN.{length, take, length-append}
use borrow.Author.Tests.{le-leb, lt-leb}
use Rattle.rfc4180.specs.Grammar.{File}
use Rattle.rfc4180.proofs.Laws.Files.{file_unique, records-count}
use Rattle.rfc4180.specs.Records.{records}
use Rattle.rfc4180.specs.Text.{ascii}
use Rattle.rfc4180.specs.Writer.{written, written_line, written_file}
use Rattle.planning.specs.declared.Answer.{Answer}
use Rattle.planning.specs.declared.Fault.{Fault}
use Rattle.planning.specs.declared.Fault.TheVariants.{Size, Grammar, Fields, Kind, Name, Value, Count, NoEngine, Space, UnknownEngine, QuietSpan}
use Rattle.planning.specs.declared.Outcome.{Outcome}
use Rattle.planning.specs.declared.Outcome.TheVariants.{Found, None, Stopped}
use Rattle.planning.specs.declared.Refusal.{Refusal}
use Rattle.planning.specs.Bounds.{most_cells, most_engines}
use Rattle.planning.proofs.Laws.Numbers.{within-iff}
use Rattle.planning.specs.Modes.{planned}
use Rattle.planning.specs.Tables.{over_front}
use Rattle.planning.specs.Numbers.{within}
use Rattle.planning.specs.Refusals.{fault_number}
use Rattle.planfile.specs.Bounds.{most_bytes}
use Rattle.planfile.specs.FileCall.{FileCall, printed, read_call, answer_by, answer_to_file, on_exit, file_output, print_length_by, print_length}
use Rattle.planfile.specs.FileCall.{print_output_by, print_output, program_by, program_print}
use Rattle.planfile.specs.FilePlan.{FilePlan, unnamed}
use Rattle.planfile.proofs.Laws.Decimals.{decimal-read}
use Rattle.planfile.proofs.Laws.Holding.{accepted-holds}
use Rattle.planfile.proofs.Laws.Print.{print-reads, refusal-reads}
use Rattle.planfile.proofs.Laws.PrintLength.{number-length, line_length, print-length}
use Rattle.planfile.proofs.Laws.Promises.Answered.{front-taken}
use Rattle.planfile.proofs.Laws.Promises.Calls.{call-accepted, file-fault, fault-place}
use Rattle.planfile.proofs.Laws.Refusals.{refusal-placed}
use Rattle.planfile.proofs.Laws.Tests.{numeral_unique}
use Rattle.planfile.specs.Numerals.{decimal}
use Rattle.planfile.specs.Print.{Line, word_of, answer_lines, refusal_line, refusal_print, longest_print}
use Rattle.planfile.specs.Promises.{FaultInFile, FilePromised, RefusalWritten, PrintsAsProgram}
use Rattle.planfile.specs.Reading.{Read, refused, accepted, ◌>>=◌, fault, require, read_file}

-- ---- a file's refusal

-- every number has one digit or two
number-most : (what : Fault) → fault_number what < 100
unfolding fault_number
number-most Size = omega arith
number-most Grammar = omega arith
number-most Fields = omega arith
number-most Kind = omega arith
number-most Name = omega arith
number-most Value = omega arith
number-most Count = omega arith
number-most NoEngine = omega arith
number-most Space = omega arith
number-most UnknownEngine = omega arith
number-most QuietSpan = omega arith

module _ (bytes : List ℕ) (refusal : Refusal) (e : read_file bytes ≡ refused refusal) where
  -- a file's fault, at one of its records or at none
  faulted : FaultInFile (length (records bytes)) refusal.fault refusal.place × (refusal.fault ≢ Space)
  faulted = file-fault _ refusal.place refusal.fault (refusal-placed bytes refusal e)

  -- its place is 0 where the size is at fault, and otherwise one of at most 32,769 records
  place-most : refusal.place ≤ most_bytes + 1
  place-most = go (within 1 most_bytes (length bytes)) refl
    where
      go : (t : Bool) → within 1 most_bytes (length bytes) ≡ t → refusal.place ≤ most_bytes + 1
      go true t =
          omega (
            arith,
            fault-place _ refusal.place refusal.fault faulted.0,
            records-count bytes,
            ((within-iff 1 most_bytes (length bytes)).0 t).most,
          )
      go false t = unfold read_file ◌>>=◌ require fault in
          let nowhere : refusal.place ≡ 0 = cc in omega arith

  -- the word, two digits and five, "0", three commas, CR and LF
  refusal-short : length (refusal_print refusal) ≤ 20
  unfolding refusal_print written_file written ascii
  refusal-short =
      omega (
        arith,
        length-append (written_line (refusal_line refusal)) [],
        line_length (ascii "refused") (decimal (fault_number refusal.fault)) (decimal refusal.place) (ascii "0"),
        number-length (fault_number refusal.fault) 2 (number-most refusal.fault) (omega arith),
        number-length refusal.place 5 (omega (arith, place-most)) (omega arith),
      )

-- ---- a refusal's line

-- what is promised of a line that stands at the front where it has space
pub refusal-written : (refusal : Refusal) {lent out : List ℕ} {n : ℕ} → n ≡ print_length_by (Err refusal) (length lent)
    → out ≡ print_output_by (Err refusal) lent → RefusalWritten refusal lent n out
refusal-written refusal {lent} {out} {n} size stands = record { result = size; output = stands; reads = read }
  where
    go : (t : Bool) → n ≡ cond t (length (refusal_print refusal)) 0 → out ≡ cond t (over_front (refusal_print refusal) lent) lent → 0 < n
        → File (take n out) (refusal_line refusal ∷ [])
    go true size stands above = rw (stands, front-taken (refusal_print refusal) lent (sym size)) (refusal-reads refusal)
    go false size stands above = absurd (omega arith)

    read : 0 < n → File (take n out) (refusal_line refusal ∷ [])
    read = unfold print_length_by print_output_by in go (leb (length (refusal_print refusal)) (length lent)) size stands

-- one that has space, and one that has none
module _ (refusal : Refusal) {lent : List ℕ} where
  pub refusal-fits : length (refusal_print refusal) ≤ length lent
      → RefusalWritten refusal lent (length (refusal_print refusal)) (over_front (refusal_print refusal) lent)
  unfolding print_length_by print_output_by
  refusal-fits room =
      let enough = le-leb (length (refusal_print refusal)) (length lent) room in
      refusal-written refusal (rw enough) (rw enough)

  pub refusal-long : length lent < length (refusal_print refusal) → RefusalWritten refusal lent 0 lent
  unfolding print_length_by print_output_by
  refusal-long over =
      let short = lt-leb (length (refusal_print refusal)) (length lent) over in
      refusal-written refusal (rw short) (rw short)

-- ---- what the call prints

-- the print of a call by its answer
module _ (call : FileCall) {r : Result (Answer × ℕ) Refusal} {table spare output : List ℕ} (promised : FilePromised call r table spare output) where
  pub call-printed : {a : Answer} {n : ℕ} → r ≡ Ok (a, n) → (n ≡ print_length call) × (output ≡ print_output call)
  unfolding print_length print_output print_length_by print_output_by
  call-printed e = (rw (← promised.result, e), promised.output ∙ rw (← promised.result, e))

  pub call-refused : {refusal : Refusal} → r ≡ Err refusal → {n : ℕ} {output' : List ℕ} → RefusalWritten refusal output n output'
      → (n ≡ print_length call) × (output' ≡ print_output call)
  unfolding print_length print_output
  call-refused {refusal} e wrote =
      let same = (promised.turned_down refusal e).2 in
      (wrote.result ∙ rw (← promised.result, e, same), wrote.output ∙ rw (← promised.result, e, promised.output))

module _ (call : FileCall) (table : length call.table ≡ most_cells) (spare : length call.spare ≡ most_engines)
    (output : longest_print ≤ length call.output) where
  -- the answer's print has space, and so has a refusal's
  print-whole : take (print_length call) (print_output call) ≡ program_print call.file
  unfolding print_length print_length_by print_output print_output_by answer_to_file answer_by file_output on_exit program_print program_by
  print-whole = go (read_file call.file) refl
    where
      go : (m : Read FilePlan) → read_file call.file ≡ m → take (print_length call) (print_output call) ≡ program_by m
      go (refused refusal) e =
          let read : read_call call ≡ refused refusal = unfold read_call ◌>>=◌ in rw e in
          rw (read, le-leb (length (refusal_print refusal)) (length call.output) (omega (arith, refusal-short call.file refusal e)))
          (front-taken (refusal_print refusal) call.output refl)
      go (accepted f) e =
          let h = accepted-holds call.file f e in
          let fits : length (printed f) ≤ length call.output = omega (arith, print-length f h.engines_named h.deliveries_named h.in_range) in
          rw (call-accepted call (record { plan = f; held = h; table = table; spare = spare; output = fits }))
          (front-taken (printed f) call.output refl)

-- ---- never a refusal by 9

-- field k of line 1
abbrev field_of : (k : ℕ) → List Line → List ℕ
field_of k lines = get_or (get_or lines 0 []) k []

-- no answer's word is a refusal's
word-unlike : (o : Outcome) → word_of o ≡ ascii "refused" → ⊥
unfolding word_of ascii
word-unlike Found e = omega (arith, ap (λ (word : List ℕ). get_or word 0 0) e)
word-unlike None e = omega (arith, ap (λ (word : List ℕ). get_or word 0 0) e)
word-unlike Stopped e = omega (arith, ap (λ (word : List ℕ). get_or word 0 0) e)

-- no two numbers are written alike
decimal_injective : (n m : ℕ) → decimal n ≡ decimal m → n ≡ m
decimal_injective n m e = numeral_unique (decimal-read n) (rw e (decimal-read m))

-- no other fault has the number of the want of space
space_number : (what : Fault) → fault_number what ≡ fault_number Space → what ≡ Space
unfolding fault_number
space_number Size e = absurd (omega arith)
space_number Grammar e = absurd (omega arith)
space_number Fields e = absurd (omega arith)
space_number Kind e = absurd (omega arith)
space_number Name e = absurd (omega arith)
space_number Value e = absurd (omega arith)
space_number Count e = absurd (omega arith)
space_number NoEngine e = absurd (omega arith)
space_number Space e = refl
space_number UnknownEngine e = absurd (omega arith)
space_number QuietSpan e = absurd (omega arith)

-- the print of an input begins with an answer's word, or gives a file's fault: 9 is none
never_nine : (input : List ℕ) (refusal : Refusal) → refusal.fault ≡ Space → program_print input ≡ refusal_print refusal → ⊥
unfolding program_print program_by
never_nine input refusal space = go (read_file input) refl
  where
    -- a print that is the refusal's reads as its line
    read_as : {print : List ℕ} {lines : List Line} → File print lines → print ≡ refusal_print refusal → lines ≡ refusal_line refusal ∷ []
    read_as file same = file_unique file (rw same (refusal-reads refusal))

    go : (m : Read FilePlan) → read_file input ≡ m → program_by m ≡ refusal_print refusal → ⊥
    go (refused other) e same =
        let number = decimal_injective _ _ (ap (field_of 1) (read_as (refusal-reads other) same)) in
        (faulted input other e).1 (space_number other.fault (number ∙ ap fault_number space))
    go (accepted f) e same = unfold printed answer_lines in
        let h = accepted-holds input f e in
        word-unlike _ (ap (field_of 0) (read_as (print-reads f h.engines_named h.deliveries_named (planned (unnamed f))) same))

-- ---- the clause of the contract

-- so the call prints as the program does
pub prints_as_program : (call : FileCall) → PrintsAsProgram call (print_length call) (print_output call)
unfolding PrintsAsProgram
prints_as_program call table spare output =
    let whole = print-whole call table spare output in
    record { whole = whole; never_space = λ refusal space same. never_nine call.file refusal space (sym whole ∙ same) }

-- whatever is lent, the print is within the output
pub print-inside : (call : FileCall) → print_length call ≤ length (print_output call)
unfolding print_length print_output answer_to_file file_output
print-inside call = go (read_call call)
  where
    over : (print lent : List ℕ) → length print ≤ length (over_front print lent)
    over print lent = unfold over_front in omega (arith, length-append print (drop (length print) lent))

    by : (t : Bool) (print : List ℕ) → cond t (length print) 0 ≤ length (cond t (over_front print call.output) call.output)
    by true print = over print call.output
    by false print = omega arith

    go : (m : Read FilePlan)
        → print_length_by (answer_by m) (length call.output)
        ≤ length (print_output_by (answer_by m) (on_exit m call.output (λ f. over_front (printed f) call.output)))
    go (refused refusal) = unfold print_length_by print_output_by answer_by on_exit in
        by (leb (length (refusal_print refusal)) (length call.output)) (refusal_print refusal)
    go (accepted f) = unfold print_length_by print_output_by answer_by on_exit in over (printed f) call.output
