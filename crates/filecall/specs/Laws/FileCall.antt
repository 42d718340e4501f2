-- The call with a file by what its file is read as and by the lengths of what is lent. Assumes nothing.
use Rattle.std.specs.Prelude.{◌≡◌, refl, List, ℕ, length, Err}
use borrow.Author.Tests.{eq-eqb, ne_eqb}
use Rattle.planning.specs.declared.Fault.TheVariants.{Space}
use Rattle.planning.specs.declared.Refusal.{Refusal}
use Rattle.planning.specs.Bounds.{most_cells, most_engines}
use Rattle.planning.specs.Modes.{table_after, spares_after}
use Rattle.planning.specs.Tables.{over_front}
use Rattle.planfile.specs.FileCall.{FileCall, printed, read_call, answer_by, answer_to_file, on_exit, file_table, file_spare, file_output}
use Rattle.planfile.specs.FilePlan.{FilePlan, unnamed}
use Rattle.planfile.proofs.Laws.Promises.{promised}
use Rattle.planfile.specs.Promises.{FilePromised}
use Rattle.planfile.specs.Reading.{Read, refused, accepted, ◌>>=◌, fault, require, read_file}
use Rattle.filecall.specs.HandOver.{with_space, Returned, Lent, lent_lists, HandedOver}

-- the promises hold of what the call's reading comes to
pub read-promised : (call : FileCall) (m : Read FilePlan) → read_call call ≡ m → {r : Returned} {table spare output : List ℕ} → r ≡ answer_by m
    → table ≡ on_exit m call.table (λ f. table_after (unnamed f) call.table) → spare ≡ on_exit m call.spare (λ f. spares_after (unnamed f) call.spare)
    → output ≡ on_exit m call.output (λ f. over_front (printed f) call.output) → FilePromised call r table spare output
unfolding answer_to_file file_table file_spare file_output
read-promised call m reads a t s o = promised call (rw reads a) (rw reads t) (rw reads s) (rw reads o)

-- a call that is refused
pub refusal-promised : (call : FileCall) (refusal : Refusal) → read_call call ≡ refused refusal
    → FilePromised call (Err refusal) call.table call.spare call.output
unfolding answer_by on_exit
refusal-promised call refusal e = read-promised call (refused refusal) e refl refl refl refl

-- a call that is handed over
pub handed-promised : (call : FileCall) (f : FilePlan) → read_call call ≡ with_space f call.output → {r : Returned} {after : Lent}
    → HandedOver f r (lent_lists call.table call.spare call.output) after
    → FilePromised call r after.table after.spare after.output
handed-promised call f reads over = read-promised call (with_space f call.output) reads over.result over.table over.spare over.output

module _ (call : FileCall) where
  -- a file that is refused
  pub file-refused : (refusal : Refusal) → read_file call.file ≡ refused refusal → read_call call ≡ refused refusal
  unfolding read_call ◌>>=◌
  file-refused refusal e = rw e

  module _ (f : FilePlan) (reads : read_file call.file ≡ accepted f) where
    -- 9 for a lent table of the wrong length
    pub table-refused : (length call.table ≡ most_cells → ⊥) → read_call call ≡ fault Space 0
    unfolding read_call ◌>>=◌ require fault
    table-refused n = rw (reads, ne_eqb _ _ n)

    pub spare-refused : length call.table ≡ most_cells → (length call.spare ≡ most_engines → ⊥) → read_call call ≡ fault Space 0
    unfolding read_call ◌>>=◌ require fault
    spare-refused l n = rw (reads, eq-eqb _ _ l, ne_eqb _ _ n)

    -- or else by the space for the print
    pub call_space : length call.table ≡ most_cells → length call.spare ≡ most_engines → read_call call ≡ with_space f call.output
    unfolding read_call ◌>>=◌ require with_space
    call_space l m = rw (reads, eq-eqb _ _ l, eq-eqb _ _ m)
