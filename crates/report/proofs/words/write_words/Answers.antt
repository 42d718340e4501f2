-- A number that is taken is the first that is left, and any other byte is put as it is.
use Rattle.std.proofs.Common.{◌≡◌, [], get_or}
use Rattle.std.proofs.lemmas.List.{nil_from_length}
use Rattle.lines.specs.Laws.Loops.{next-put, last-put, put-error}
use Rattle.lines.specs.Laws.Putting.{no_text}
use Rattle.report.proofs.Laws.Numbers.{nothing-behind}
use Rattle.report.proofs.Laws.Words.{words_end, word_number, word_byte}
use Rattle.report.specs.Words.{number_sign}
use Rattle.report.proofs.words.write_words.Goals as goal
use Rattle.report.proofs.words.write_words.Goals.{in-Some+in_ok-write_number-in-Some, in_default+in_ok-write_bytes-in_default}
use Rattle.report.proofs.words.write_words.Goals.{in_default-via-in-Some+else-b-eq-NUMBER_SIGN, in_default-via-in_default}

pub returns-in_err-write_number-in-Some : goal.returns-in_err-write_number-in-Some
returns-in_err-write_number-in-Some c =
    let next = word_number _ _ c.loop-b-test.true c.in-Some.n.now c.in-Some.rest.now c.if-b-eq-NUMBER_SIGN.true in
    let left = rw c.in-Some.ensures.cases.0 at c.loop-b.invariant in
    put-error _ left next c.in_err-write_number-in-Some.was (nothing-behind c.write_number.ensures.puts) c.from_residual.ensures.1

pub returns-in_err-write_bytes-in_default : goal.returns-in_err-write_bytes-in_default
returns-in_err-write_bytes-in_default c =
    let other : get_or c.args.words.now c.loop-b.b-index 0 ≡ number_sign → c.loop-b.left.now ≡ [] =
    elim c.in_default.branch [
      | in_default-via-in-Some+else-b-eq-NUMBER_SIGN w ↦ λ e. absurd (w.if-b-eq-NUMBER_SIGN.false e)
      | in_default-via-in_default w ↦ λ e. nil_from_length _ w.in_default.ensures.cases
    ] in
    put-error _ c.loop-b.invariant (word_byte _ _ c.loop-b-test.true _ other) c.in_err-write_bytes-in_default.was
    c.write_bytes.ensures.puts c.from_residual-in_err-write_bytes-in_default.ensures.1

pub loop-b-preserved : goal.loop-b-preserved
loop-b-preserved c =
    elim c.match-split_first.branch [
      | in-Some+in_ok-write_number-in-Some w ↦
          let next = word_number _ _ c.loop-b-test.true w.in-Some.n.now w.in-Some.rest.now w.if-b-eq-NUMBER_SIGN.true in
          let left = rw w.in-Some.ensures.cases.0 at c.loop-b.invariant in
          rw (w.out-is, w.left-is) (next-put left next w.in_ok-write_number-in-Some.was (nothing-behind w.write_number.ensures.puts))
      | in_default+in_ok-write_bytes-in_default w ↦
          let other : get_or c.args.words.now c.loop-b.b-index 0 ≡ number_sign → c.loop-b.left.now ≡ [] =
          elim w.in_default.branch [
            | in_default-via-in-Some+else-b-eq-NUMBER_SIGN w' ↦ λ e. absurd (w'.if-b-eq-NUMBER_SIGN.false e)
            | in_default-via-in_default w' ↦ λ e. nil_from_length _ w'.in_default.ensures.cases
          ] in
          rw (w.out-is, w.left-is)
          (next-put c.loop-b.invariant (word_byte _ _ c.loop-b-test.true _ other) w.in_ok-write_bytes-in_default.was w.write_bytes.ensures.puts)
    ]

pub returns : goal.returns
returns c = last-put (rw (words_end _ _ _ c.loop-b-test.false) at c.loop-b.invariant) no_text
