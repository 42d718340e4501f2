-- The clauses of the contract of the call with a file: each follows from the theorems about reading, print and planning where the result
-- and the lists lent are what FileCall's definitions say.
-- Assumes nothing.
pub mod Calls
pub mod Answered
use Rattle.std.specs.Prelude.{◌≡◌, ◌⊎◌, List, ℕ, take, Result, Ok, Err}
use Rattle.std.proofs.Math.Path.{refl, ap}
use Rattle.std.proofs.Common.{sym, subst, ◌∙◌, arith}
use Rattle.std.proofs.Math.Logic.{⊎_elim}
use Rattle.std.proofs.Math.ListN.{length}
use Rattle.planning.specs.declared.Answer.{Answer}
use Rattle.planning.specs.declared.Refusal.{Refusal}
use Rattle.planning.proofs.Laws.Promises.{none-exactly, shortest_time, fixed_time, lent-table-serves, lent-kept, stopped-exactly, stopped-tries}
use Rattle.planning.specs.declared.Outcome.TheVariants.{Found}
use Rattle.planning.specs.Modes.{planned, answer_of, outcome_of, table_after, spares_after}
use Rattle.planning.specs.Tables.{over_front}
use Rattle.planfile.specs.FileCall.{FileCall, printed, read_call, answer_by, answer_to_file, on_exit, file_table, file_spare, file_output}
use Rattle.planfile.specs.FilePlan.{FilePlan, unnamed}
use Rattle.planfile.specs.Holding.{Holds}
use Rattle.planfile.proofs.Laws.Holding.{accepted-holds, holds_unique, refused-iff, engine-count}
use Rattle.planfile.proofs.Laws.PrintLength.{found-cells}
use Rattle.planfile.proofs.Laws.Refusals.{refusal-placed}
use Rattle.planfile.specs.Promises.{FaultInFile, FilePromised}
use Rattle.planfile.specs.Reading.{Read, refused, accepted}
use Rattle.planfile.proofs.Laws.Promises.Calls.{accepted-call, call-accepted, refused-call, file-fault}
use Rattle.planfile.proofs.Laws.Promises.Answered.{table-after, spares-add, reads-back, front-taken, front_dropped, left-count, spare-after}
use Rattle.planfile.proofs.Laws.Promises.Answered.{found-result, print-lines}

-- ---- the result taken apart

refused-by : (m : Read FilePlan) {refusal : Refusal} → answer_by m ≡ Err refusal → m ≡ refused refusal
unfolding answer_by
refused-by (refused refusal) e = cc
refused-by (accepted f) e = cc

-- the call is read as the plan f, which is answered a with a print of n bytes
record Answering (call : FileCall) (f : FilePlan) (a : Answer) (n : ℕ) : Type 0 where
  read : read_call call ≡ accepted f
  answer : answer_of (planned (unnamed f)) ≡ a
  size : length (printed f) ≡ n

answered-by : (call : FileCall) (m : Read FilePlan) {a : Answer} {n : ℕ} → read_call call ≡ m → answer_by m ≡ Ok (a, n)
    → (f : FilePlan) × Answering call f a n
unfolding answer_by
answered-by call (refused refusal) read e = let z : ◌≡◌ {A = ℕ} 0 1 = cc in absurd (omega arith)
answered-by call (accepted f) {a} {n} read e =
    let pair : ◌≡◌ {A = Answer × ℕ} (answer_of (planned (unnamed f)), length (printed f)) (a, n) = cc in
    (f, record { read = read; answer = ap (λ (p : Answer × ℕ). p.0) pair; size = ap (λ (p : Answer × ℕ). p.1) pair })

-- ---- the clauses

module _ (call : FileCall) {r : Result (Answer × ℕ) Refusal} (result : r ≡ answer_to_file call) where
  some-answering : {a : Answer} {n : ℕ} → r ≡ Ok (a, n) → (f : FilePlan) × Answering call f a n
  unfolding answer_to_file
  some-answering e = answered-by call (read_call call) refl (sym result ∙ e)

  -- with the plan that the file holds
  answering : {a : Answer} {n : ℕ} {f : FilePlan} → r ≡ Ok (a, n) → Holds call.file f → Answering call f a n
  answering {a} {n} e h =
      let (g, x) = some-answering e in
      let (ok, same) = accepted-call call x.read in
      subst (λ (f : FilePlan). Answering call f a n) (sym same ∙ holds_unique ok.held h) x

  refusing : {refusal : Refusal} → r ≡ Err refusal → read_call call ≡ refused refusal
  unfolding answer_to_file
  refusing e = refused-by (read_call call) (sym result ∙ e)

  -- the plan that is answered found
  found_of : {a : Answer} {n : ℕ} {f : FilePlan} → Answering call f a n → a.outcome ≡ Found → outcome_of (planned (unnamed f)).result ≡ Found
  unfolding answer_of
  found_of x found_it = ap (λ (b : Answer). b.outcome) x.answer ∙ found_it

  module _ {table spare output : List ℕ} (table_is : table ≡ file_table call) (spare-is : spare ≡ file_spare call)
      (output-is : output ≡ file_output call) where
    -- the lent lists of an answered call
    table-then : {f : FilePlan} → read_call call ≡ accepted f → table ≡ table_after (unnamed f) call.table
    unfolding file_table on_exit
    table-then e = table_is ∙ rw e

    spare-then : {f : FilePlan} → read_call call ≡ accepted f → spare ≡ spares_after (unnamed f) call.spare
    unfolding file_spare on_exit
    spare-then e = spare-is ∙ rw e

    output-then : {f : FilePlan} → read_call call ≡ accepted f → output ≡ over_front (printed f) call.output
    unfolding file_output on_exit
    output-then e = output-is ∙ rw e

    print-taken : {f : FilePlan} {a : Answer} {n : ℕ} → Answering call f a n → take n output ≡ printed f
    print-taken {f} x = rw (output-then x.read) (front-taken (printed f) call.output x.size)

    pub promised : FilePromised call r table spare output
    unfolding FaultInFile answer_to_file answer_by answer_of file_table file_spare file_output on_exit unnamed
    promised =
        record {
          result = result;
          table = table_is;
          spare = spare-is;
          output = output-is;
          answered_exactly = (
            λ (a, n, e). (accepted-call call (some-answering e).1.read).0,
            λ ok. (answer_of (planned (unnamed ok.plan)), length (printed ok.plan), result ∙ ap answer_by (call-accepted call ok)),
          );
          refused_by_file =
              λ refusal e.
              ⊎_elim
              (λ m. let (placed, other) = file-fault _ refusal.place refusal.fault (refusal-placed call.file refusal m) in
              (placed, (λ space. absurd (other space), λ (f, h). absurd ((refused-iff call.file).0 (refusal, m) f h))))
              (λ (f, m, s). rw s (refl, (λ space. (f, accepted-holds call.file f m), λ held. refl)))
              (refused-call call (refusing e));
          turned_down = λ refusal e. let read = refusing e in (table_is ∙ rw read, spare-is ∙ rw read, output-is ∙ rw read);
          found_serves =
              λ a n f e h found_it.
              let x = answering e h in
              let finds = found_of x found_it in
              let (tries, cells, is) = found-result (planned (unnamed f)).result finds in
              rw (table-then x.read, spare-then x.read, ← x.answer) (
                rw (engine-count f) at (lent-table-serves (unnamed f) h.in_range call.table finds),
                spares-add f h.in_range is call.table call.spare,
                rw (table-after f h.in_range is call.table) (front_dropped cells call.table (found-cells f h.in_range is)),
                rw (spare-after f h.in_range is call.spare) (front_dropped _ call.spare (left-count f h.in_range is)),
              );
          kept_unless_found =
              λ a n e other.
              let (f, x) = some-answering e in
              rw (table-then x.read, spare-then x.read)
              (lent-kept (unnamed f) call.table call.spare (λ found_it. other (ap (λ (b : Answer). b.outcome) (sym x.answer) ∙ found_it)));
          stopped_exactly = λ a n f e h. rw (← (answering e h).answer) (stopped-exactly (unnamed f), stopped-tries (unnamed f));
          print_reads =
              λ a n f e h.
              let x = answering e h in
              let (ok, same) = accepted-call call x.read in (
                rw (← x.size, ← same) ok.output,
                rw (output-then x.read) (front_dropped (printed f) call.output x.size),
                rw (print-taken x, table-then x.read, ← x.answer) (print-lines f h call.table),
              );
          reads_back =
              λ a n f e h found_it lines file.
              let x = answering e h in
              let (tries, cells, is) = found-result (planned (unnamed f)).result (found_of x found_it) in
              rw (table-then x.read) (reads-back f h.in_range is call.table h lines (rw (print-taken x) at file));
          none_exactly = λ a n f e h. rw (← (answering e h).answer) (none-exactly (unnamed f) h.in_range);
          shortest_exactly =
              λ a n f e h found_it.
              let x = answering e h in
              let finds = found_of x found_it in
              rw (← x.answer)
              (λ mode. shortest_time (unnamed f) h.in_range mode finds, λ mode. (fixed_time (unnamed f) h.in_range mode finds).0);
        }
