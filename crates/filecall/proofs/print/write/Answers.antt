-- Line 1, and for found the lines of the pieces behind it. Assumes nothing.
use Rattle.std.proofs.Common.{◌≡◌, List, [], ◌∷◌, ℕ, refl, sym, ◌∙◌, length, Result, Ok, Err, IsErrAnd}
use Rattle.rfc4180.specs.Text.{ascii}
use Rattle.std.specs.Prelude.{⊤}
use Rattle.lines.specs.declared.output.Output.{Output}
use Rattle.lines.specs.declared.WriteError.{WriteError}
use Rattle.lines.specs.Laws.Lines.{then_lines, then_lines-error}
use Rattle.lines.specs.Lines.{PutLines}
use Rattle.planning.specs.declared.Answer.{Answer}
use Rattle.planning.specs.declared.Outcome.{Outcome}
use Rattle.planning.specs.declared.Outcome.TheVariants.{Found, None, Stopped}
use Rattle.planfile.proofs.Laws.PieceLines.{table-lines}
use Rattle.planfile.specs.Print.{word_of, answer_line}
use Rattle.filecall.specs.Printing.{lines_behind, print_lines}
use Rattle.filecall.proofs.print.write.Goals as goal

-- line 1 of the outcome that the answer has, and the lines behind it, or the error that line 1 ended in
module _ (answer : Answer) {o : Outcome} (deliveries engines : List (List ℕ)) (pieces : List ℕ) {n : ℕ} (outcome : answer.outcome ≡ o)
    (count : n ≡ length (lines_behind o deliveries engines pieces)) {before between : Output} {first result : Result ⊤ WriteError} where
  print-put : {after : Output} → first ≡ Ok tt → PutLines (answer_line o answer.minutes answer.tries n ∷ []) before first between
      → PutLines (lines_behind o deliveries engines pieces) between result after → PutLines (print_lines answer deliveries engines pieces) before result after
  unfolding print_lines
  print-put e line behind = rw outcome (then_lines e (rw count at line) behind)

  print-error : {error : WriteError} → first ≡ Err error → PutLines (answer_line o answer.minutes answer.tries n ∷ []) before first between
      → IsErrAnd result (λ given. given ≡ error) → PutLines (print_lines answer deliveries engines pieces) before result between
  unfolding print_lines
  print-error e line h = rw outcome (then_lines-error (lines_behind o deliveries engines pieces) e (rw count at line) h)

-- line 1 alone
print-one : (answer : Answer) {o : Outcome} (deliveries engines : List (List ℕ)) (pieces : List ℕ) → answer.outcome ≡ o
    → [] ≡ lines_behind o deliveries engines pieces → {before after : Output} {result : Result ⊤ WriteError}
    → PutLines (answer_line o answer.minutes answer.tries 0 ∷ []) before result after
    → PutLines (print_lines answer deliveries engines pieces) before result after
unfolding print_lines
print-one answer deliveries engines pieces outcome none line = rw (outcome, ← none) line

pub returns-in_err-write_answer-in-Found : goal.returns-in_err-write_answer-in-Found
unfolding ascii word_of lines_behind
returns-in_err-write_answer-in-Found c =
    let counted = c.count_pieces-count.ensures ∙ sym (table-lines c.args.deliveries.now c.args.engines.now c.args.pieces.now c.requires.1) in
    print-error c.args.answer {o = Found} _ _ _ c.in-Found.is counted c.in_err-write_answer-in-Found.was c.write_answer.ensures c.from_residual.ensures.1

pub returns-in_ok-write_answer-in-Found : goal.returns-in_ok-write_answer-in-Found
unfolding ascii word_of lines_behind
returns-in_ok-write_answer-in-Found c =
    let counted = c.count_pieces-count.ensures ∙ sym (table-lines c.args.deliveries.now c.args.engines.now c.args.pieces.now c.requires.1) in
    print-put c.args.answer {o = Found} _ _ _ c.in-Found.is counted c.in_ok-write_answer-in-Found.was c.write_answer.ensures c.write_rows.ensures

pub returns-in-None : goal.returns-in-None
unfolding ascii word_of lines_behind
returns-in-None c = print-one _ {o = None} _ _ _ c.in-None.is refl c.write_answer-in-None.ensures

pub returns-in-Stopped : goal.returns-in-Stopped
unfolding ascii word_of lines_behind
returns-in-Stopped c = print-one _ {o = Stopped} _ _ _ c.in-Stopped.is refl c.write_answer-in-Stopped.ensures
