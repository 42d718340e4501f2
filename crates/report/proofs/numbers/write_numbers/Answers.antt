-- A number that the next one equals makes the run longer, and any other ends it.
use Rattle.std.proofs.Common.{◌≡◌, ◌∙◌, sym, refl, Bool, List, [], ◌∷◌, ℕ, ◌+◌, ◌-◌, ◌<◌, arith, eqb, length, take, drop, length-drop}
use Rattle.std.proofs.Math.Bool.{and-true}
use Rattle.std.proofs.Math.Seq.{take_all}
use Rattle.std.specs.List.{starts_with as std_starts_with}
use Rattle.lines.specs.Laws.Loops.{all_left, next-put, last-put, put-error}
use Rattle.lines.specs.Laws.Putting.{no_text}
use Rattle.report.specs.Numbers.{starts_with, number_texts}
use Rattle.report.proofs.Laws.Numbers.{texts-end, run_goes_on, run_ends}
use Rattle.report.proofs.numbers.write_numbers.Goals as goal
use Rattle.report.proofs.numbers.write_numbers.Goals.{then-not-starts_with+in_ok-write_run, else-not-starts_with}

-- std asks the same of a list and one number
begins : (n : ℕ) (list : List ℕ) → std_starts_with eqb list (n ∷ []) ≡ starts_with n list
unfolding starts_with
begins n [] = refl
begins n (m ∷ list) = and-true (eqb n m)

-- what is asked of the rest of the list
follows : (list : List ℕ) (i n : ℕ) {r t : Bool} → i < length list → r ≡ std_starts_with eqb (take (length list - (i + 1)) (drop (i + 1) list)) (n ∷ [])
    → r ≡ t → starts_with n (drop (i + 1) list) ≡ t
follows list i n inside is e =
    rw (take_all (length list - (i + 1)) (drop (i + 1) list) (simp length-drop (omega arith)), begins n (drop (i + 1) list)) at (sym is ∙ e)

pub loop-i-init : goal.loop-i-init
unfolding number_texts
loop-i-init c = (omega arith, all_left)

pub returns-in_err-write_run : goal.returns-in_err-write_run
returns-in_err-write_run c =
    let last = follows c.args.list.now c.loop-i.i _ c.loop-i-test.true c.starts_with.ensures.value c.if-not-starts_with.true in
    put-error _ c.loop-i.invariant.1 (run_ends c.args.list.now c.loop-i.times c.loop-i.i c.loop-i-test.true last) c.in_err-write_run.was
    c.write_run.ensures c.from_residual.ensures.1

pub loop-i-preserved : goal.loop-i-preserved
loop-i-preserved c =
    let l = c.loop-i in
    elim c.if-not-starts_with.branch [
      | then-not-starts_with+in_ok-write_run w ↦
          let last = follows c.args.list.now l.i _ c.loop-i-test.true c.starts_with.ensures.value w.if-not-starts_with.true in
          rw (w.out-is, w.times-is)
          (omega arith, next-put l.invariant.1 (run_ends c.args.list.now l.times l.i c.loop-i-test.true last) w.in_ok-write_run.was w.write_run.ensures)
      | else-not-starts_with w ↦
          let more = follows c.args.list.now l.i _ c.loop-i-test.true c.starts_with.ensures.value w.if-not-starts_with.false in
          rw (w.out-is, w.times-is) (omega arith, rw (run_goes_on c.args.list.now l.times l.i c.loop-i-test.true more) at l.invariant.1)
    ]

pub returns : goal.returns
returns c = last-put (rw (texts-end c.args.list.now c.loop-i.times c.loop-i.i c.loop-i-test.false) at c.loop-i.invariant.1) no_text
