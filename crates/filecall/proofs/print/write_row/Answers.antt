-- A piece above 0 puts the next line, and 0 none. Assumes nothing.
use Rattle.std.proofs.Common.{◌≡◌, List, [], ◌∷◌, ℕ, ◌+◌, ◌<◌, ◌++◌, ◌∙◌, rules, length, get_or, arith}
use Rattle.std.proofs.lemmas.List.{length_push}
use Rattle.std.proofs.lemmas.Slice.Zip.{zip_turn, zip_end}
use Rattle.lines.specs.Laws.Lines.{lines-put, all_lines, lines-error}
use Rattle.planfile.specs.Numerals.{decimal}
use Rattle.planfile.specs.Print.{line_of}
use Rattle.filecall.specs.Laws.Printing.{row_from, row-end, row-piece, row-none}
use Rattle.filecall.proofs.print.write_row.Goals as goal

-- a piece above 0, with the bytes of the name beside it
next-piece : (delivery : List ℕ) (engines : List (List ℕ)) (row : List ℕ) (i : ℕ) {name : List ℕ} {piece : ℕ} → i < length engines → i < length row
    → name ≡ get_or engines i [] → piece ≡ get_or row i 0 → 0 < piece
    → row_from delivery engines row i ≡ (line_of delivery name (decimal piece) ∷ []) ++ row_from delivery engines row (i + 1)
next-piece delivery engines row i inside cells named is above = rw (named, is) (row-piece delivery engines row i inside cells (rw is at above))

pub returns-in_err-write_piece : goal.returns-in_err-write_piece
returns-in_err-write_piece c =
    let turn =
    zip_turn c.args.engines.now c.args.row.now _ _ _ c.next.new.self _
    (search rules) (search rules)
    c.loop-engine.yielded_by _ c.in-Some.is c.next.ensures.steps
    in
    let next = next-piece c.args.delivery.now _ _ _ turn.0 turn.1 (c.bytes.ensures.value ∙ turn.2 []) (turn.3 0) c.if-piece-gt0.true in
    lines-error _ c.loop-engine.invariant next c.in_err-write_piece.was c.write_piece.ensures c.from_residual.ensures.1

pub loop-engine-preserved-in-Continue-1 : goal.loop-engine-preserved-in-Continue-1
loop-engine-preserved-in-Continue-1 c =
    let turn =
    zip_turn c.args.engines.now c.args.row.now _ _ _ c.next.new.self _
    (search rules) (search rules)
    c.loop-engine.yielded_by _ c.in-Some.is c.next.ensures.steps
    in
    let next = next-piece c.args.delivery.now _ _ _ turn.0 turn.1 (c.bytes.ensures.value ∙ turn.2 []) (turn.3 0) c.if-piece-gt0.true in
    rw (length_push c.loop-engine.yielded _) (lines-put c.loop-engine.invariant next c.in_ok-write_piece.was c.write_piece.ensures)

pub loop-engine-preserved : goal.loop-engine-preserved
loop-engine-preserved c =
    let turn =
    zip_turn c.args.engines.now c.args.row.now _ _ _ c.next.new.self _
    (search rules) (search rules)
    c.loop-engine.yielded_by _ c.in-Some.is c.next.ensures.steps
    in
    let none = row-none c.args.delivery.now c.args.engines.now c.args.row.now _ turn.0 turn.1 (omega (arith, turn.3 0)) in
    rw (length_push c.loop-engine.yielded _, ← none) c.loop-engine.invariant

pub returns : goal.returns
returns c =
    let whole =
    zip_end c.args.engines.now c.args.row.now _ _ _ c.next.new.self _
    (search rules) (search rules)
    c.loop-engine.yielded_by c.in-None.is c.next.ensures.steps
    in
    let none = row-end c.args.delivery.now c.args.engines.now c.args.row.now (length c.loop-engine.yielded) (omega (arith, whole)) in
    all_lines (rw none at c.loop-engine.invariant)
