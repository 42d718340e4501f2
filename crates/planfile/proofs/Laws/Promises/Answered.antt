-- What the lent lists and the print hold after an answer of found.
-- Assumes nothing.
use Rattle.std.specs.Prelude.{◌≡◌, ◌≢◌, List, [], take, drop}
use Rattle.std.proofs.Math.Path.{refl, subst}
use Rattle.std.proofs.Common.{ap, ◌∙◌}
use Prim.Native.Nat.{ℕ, suc, ◌+◌, ◌≤◌, ◌<◌}
use native.Mathlib.Omega.{arith}
use Rattle.std.proofs.Math.ListN.{length, get_or-append}
use Rattle.std.proofs.Math.Seq.{take-append_seam, drop-append_seam}
use Rattle.rfc4180.specs.Grammar.{File}
use Rattle.rfc4180.proofs.Laws.Files.{file_unique}
use Rattle.planning.specs.declared.Outcome.TheVariants.{Found}
use Rattle.planning.specs.Capacity.{capacities}
use Rattle.planning.proofs.Laws.Finite.Sums.{sum_ext, positives_ext}
use Rattle.planning.proofs.Laws.Lent.{front-piece}
use Rattle.planning.proofs.Laws.Promises.{found-spares}
use Rattle.planning.proofs.Laws.Soundness.{length-spares}
use Rattle.planning.proofs.Laws.Soundness.Table.{cell-inside}
use Rattle.planning.specs.Modes.{planned, answer_of, outcome_of, tries_of, spares, table_by, table_after, spares_by, spares_after}
use Rattle.planning.specs.Tables.{over_front, at, cell}
use Rattle.planning.specs.Plan.{InRange}
use Rattle.planning.specs.Search.{Result, found, none, stopped}
use Rattle.planning.specs.Sum.{sum, positives}
use Rattle.planfile.specs.FileCall.{printed}
use Rattle.planfile.specs.FilePlan.{FilePlan, unnamed}
use Rattle.planfile.specs.Holding.{Holds}
use Rattle.planfile.proofs.Laws.Holding.{engine-count, delivery-count}
use Rattle.planfile.proofs.Laws.Print.{print-reads}
use Rattle.planfile.proofs.Laws.PrintLength.{found-cells, found-count}
use Rattle.planfile.proofs.Laws.ReadBack.{found-read-back, found-place}
use Rattle.planfile.specs.Print.{Line, lines_of, answer_lines}
use Rattle.planfile.specs.Promises.{plan_cells, piece_of, PrintLines, PiecesRead}

-- a list at the front of a lent one, and what stands behind it
module _ (new lent : List ℕ) where
  front_at : (i : ℕ) → i < length new → at (over_front new lent) i ≡ at new i
  unfolding over_front
  front_at i l = get_or-append new (drop (length new) lent) 0 i l

  pub front-taken : {n : ℕ} → length new ≡ n → take n (over_front new lent) ≡ new
  unfolding over_front
  front-taken e = rw (← e) (take-append_seam new (drop (length new) lent))

  pub front_dropped : {n : ℕ} → length new ≡ n → drop n (over_front new lent) ≡ drop n lent
  unfolding over_front
  front_dropped e = rw (← e) (drop-append_seam new (drop (length new) lent))

-- a plan that is answered found
module _ (f : FilePlan) (ranges : InRange (unnamed f)) {tries : ℕ} {cells : List ℕ} (finds : (planned (unnamed f)).result ≡ found tries cells) where
  -- what is left of its engines
  pub left : List ℕ
  left = spares (unnamed f) (planned (unnamed f)).minutes cells

  pub left-count : length left ≡ length f.engines
  unfolding left
  left-count = length-spares (unnamed f) (planned (unnamed f)).minutes cells ∙ engine-count f

  pub spare-after : (spare : List ℕ) → spares_after (unnamed f) spare ≡ over_front left spare
  unfolding spares_after spares_by left
  spare-after spare = rw finds

  module _ (table : List ℕ) where
    pub table-after : table_after (unnamed f) table ≡ over_front cells table
    unfolding table_after table_by
    table-after = rw finds

    piece-after : (p i : ℕ) → p < length f.deliveries → i < length f.engines
        → piece_of f (table_after (unnamed f) table) p i ≡ piece_of f cells p i
    piece-after p i l m =
        rw table-after (front-piece (length f.engines) (length f.deliveries) cells table (found-cells f ranges finds) p i l m)

    positives-after : (n : ℕ) → n ≤ length cells → positives n (at (table_after (unnamed f) table)) ≡ positives n (at cells)
    positives-after n most = rw table-after (positives_ext n _ _ (λ i l. front_at cells table i (omega arith)))

    -- what is left of an engine and its pieces add up to its capacity
    pub spares-add : (spare : List ℕ) (i : ℕ) → i < length f.engines
        → at (spares_after (unnamed f) spare) i + sum (length f.deliveries) (λ p. piece_of f (table_after (unnamed f) table) p i)
        ≡ at (capacities (unnamed f) (planned (unnamed f)).minutes) i
    unfolding left
    spares-add spare i l =
        rw (spare-after spare)
        (omega (
          arith,
          front_at left spare i (omega (arith, left-count)),
          sum_ext (length f.deliveries) _ _ (λ p k. piece-after p i k l),
          rw (engine-count f, delivery-count f) at (found-spares (unnamed f) ranges finds i (omega (arith, engine-count f))),
        ))

    -- the print read back
    pub reads-back : {bytes : List ℕ} → Holds bytes f → (lines : List Line) → File (printed f) lines → PiecesRead lines f (table_after (unnamed f) table)
    unfolding printed answer_lines
    reads-back h lines file =
        record {
          count = rw (all, ← found-cells f ranges finds, positives-after (length cells) (omega arith)) (ap suc (found-count f ranges finds));
          named = λ p i l m text. rw (piece-after p i l m) (found-read-back h (planned (unnamed f)) finds file p i l m text);
          in_order =
              λ p i l m.
              let inside : cell (length f.engines) p i ≤ length cells =
              omega (arith, found-cells f ranges finds, cell-inside (length f.engines) (length f.deliveries) p i l m) in
              rw (all, piece-after p i l m, positives-after (cell (length f.engines) p i) inside) (found-place f tries cells p i l m);
        }
      where
        all : lines ≡ answer_lines (planned (unnamed f)).minutes (found tries cells) (lines_of f (found tries cells))
        all =
            subst (λ (r : Result). lines ≡ answer_lines (planned (unnamed f)).minutes r (lines_of f r)) finds
            (file_unique file (print-reads f h.engines_named h.deliveries_named (planned (unnamed f))))

-- what an answer of found was made from
pub found-result : (r : Result) → outcome_of r ≡ Found → (tries : ℕ) × (cells : List ℕ) × (r ≡ found tries cells)
unfolding outcome_of
found-result (found tries cells) e = (tries, cells, refl)
found-result (none tries) e = let z : ◌≡◌ {A = ℕ} 0 1 = cc in absurd (omega arith)
found-result (stopped tries) e = let z : ◌≡◌ {A = ℕ} 0 1 = cc in absurd (omega arith)

-- the print's lines
pub print-lines : {bytes : List ℕ} (f : FilePlan) → Holds bytes f → (table : List ℕ)
    → PrintLines (printed f) f (answer_of (planned (unnamed f))) (table_after (unnamed f) table)
unfolding printed answer_of answer_lines
print-lines f h table =
    record {
      pieces = lines_of f (planned (unnamed f)).result;
      file = print-reads f h.engines_named h.deliveries_named (planned (unnamed f));
      where_found = of_found (planned (unnamed f)).result refl;
      otherwise = of_others (planned (unnamed f)).result;
    }
  where
    of_found : (r : Result) → (planned (unnamed f)).result ≡ r → outcome_of r ≡ Found
        → lines_of f r ≡ lines_of f (found (tries_of r) (take (plan_cells f) (table_after (unnamed f) table)))
    of_found (found tries cells) finds e = unfold tries_of in
        rw (table-after f h.in_range finds table, front-taken cells table (found-cells f h.in_range finds))
    of_found (none tries) finds e = unfold outcome_of in cc
    of_found (stopped tries) finds e = unfold outcome_of in cc

    of_others : (r : Result) → outcome_of r ≢ Found → lines_of f r ≡ []
    of_others (found tries cells) n = unfold outcome_of in absurd (n refl)
    of_others (none tries) n = unfold lines_of in refl
    of_others (stopped tries) n = unfold lines_of in refl
