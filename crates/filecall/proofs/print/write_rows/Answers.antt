-- The row of each delivery puts its lines. Assumes nothing.
use Rattle.std.specs.Prelude.{◌≡◌, List, [], ◌∷◌, ℕ, ◌*◌, ◌<◌, ◌++◌, length}
use Rattle.std.proofs.Common.{◌∙◌, ⊎_elim, length-append, arith}
use Rattle.std.proofs.Math.Path.{refl}
use Rattle.std.proofs.Math.Nat.{suc-mul}
use Rattle.std.proofs.lemmas.List.{nil_from_length}
use Rattle.lines.specs.Laws.Lines.{lines-put, all_lines, lines-error}
use Rattle.filecall.specs.Laws.Printing.{table-end, table-row}
use Rattle.filecall.proofs.print.write_rows.Goals as goal

-- no delivery is left where no row is
none-left : (names : List (List ℕ)) (pieces : List ℕ) (n : ℕ) → length pieces ≡ length names * n → length pieces < n → names ≡ []
none-left [] pieces n whole short = refl
none-left (name ∷ names) pieces n whole short = absurd (omega (arith, suc-mul (length names) n))

-- a row less for a delivery less
row-less : {names others : List (List ℕ)} {name pieces : List ℕ} (n : ℕ) (row rest : List ℕ) → length pieces ≡ length names * n → names ≡ name ∷ others
    → pieces ≡ row ++ rest → length row ≡ n → length rest ≡ length others * n
row-less {others = others} n row rest whole named split row-long =
    omega (arith, rw (named, split) at whole, length-append row rest, suc-mul (length others) n)

pub returns-in_err-write_row : goal.returns-in_err-write_row
returns-in_err-write_row c =
    let turn = c.in-Some.ensures.steps in
    let next = table-row c.args.engines.now _ _ _ turn.0 c.bytes.ensures.value turn.1.1.0 (turn.1.1.1 ∙ c.loop-delivery.invariant.0) in
    lines-error _ c.loop-delivery.invariant.2 next c.in_err-write_row.was c.write_row.ensures c.from_residual.ensures.1

pub loop-delivery-preserved : goal.loop-delivery-preserved
loop-delivery-preserved c =
    let turn = c.in-Some.ensures.steps in
    let whole = turn.1.1.1 ∙ c.loop-delivery.invariant.0 in
    let next = table-row c.args.engines.now _ _ _ turn.0 c.bytes.ensures.value turn.1.1.0 whole in (
      turn.1.0 ∙ c.loop-delivery.invariant.0,
      row-less (length c.args.engines.now) _ _ c.loop-delivery.invariant.1 turn.0 turn.1.1.0 whole,
      lines-put c.loop-delivery.invariant.2 next c.in_ok-write_row.was c.write_row.ensures,
    )

pub returns : goal.returns
returns c =
    let inv = c.loop-delivery.invariant in
    let none =
    ⊎_elim (λ a. nil_from_length _ a.1.0) (λ b. none-left _ _ (length c.args.engines.now) inv.1 (omega (arith, b.1.1.0, inv.0))) c.in-None.ensures.steps
    in
    all_lines (rw (table-end c.args.engines.now _ none) at inv.2)
