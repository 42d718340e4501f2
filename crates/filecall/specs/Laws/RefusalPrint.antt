-- The line of a refusal: how long it may be, and that it is put where it fits. Assumes nothing.
use Rattle.std.specs.Prelude.{◌≡◌, List, [], ◌∷◌, ℕ, ◌+◌, ◌*◌, ◌^◌, ◌≤◌, ◌<◌, length, take, Result, Ok, Err, ⊤}
use Rattle.std.proofs.Common.{sym, ap, ◌∙◌, arith, length-append}
use Rattle.std.proofs.Math.Seq.{take-append_seam}
use Rattle.rfc4180.specs.Text.{ascii}
use Rattle.rfc4180.specs.Writer.{written, written_line, written_file}
use Rattle.lines.specs.declared.output.Output.{Output}
use Rattle.lines.specs.declared.WriteError.{WriteError}
use Rattle.lines.specs.Laws.Digits.{most_digits}
use Rattle.lines.specs.Laws.Front.{lines-at-front, bytes-at-front, bytes-kept}
use Rattle.lines.specs.Lines.{PutLines}
use Rattle.lines.specs.Putting.{plain, State, Puts}
use Rattle.planning.specs.declared.Refusal.{Refusal}
use Rattle.planning.specs.Refusals.{fault_number}
use Rattle.planning.specs.Tables.{over_front}
use Rattle.planfile.proofs.Laws.Print.{refusal-writable}
use Rattle.planfile.proofs.Laws.PrintLength.{number-length, line_length}
use Rattle.planfile.proofs.Laws.Program.{refusal-fits, refusal-long}
use Rattle.planfile.specs.Numerals.{decimal, decimal_within}
use Rattle.planfile.specs.Print.{refusal_line, refusal_print}
use Rattle.planfile.specs.Promises.{RefusalWritten}

-- no line of a refusal is longer: its word, two numbers, 0, three commas, CR and LF
abbrev pub longest_refusal : ℕ
longest_refusal = 13 + 2 * most_digits

refusal-length : (refusal : Refusal) → fault_number refusal.fault < 2 ^ 64 → refusal.place < 2 ^ 64 → length (refusal_print refusal) ≤ longest_refusal
unfolding refusal_print written_file written ascii
refusal-length refusal number place =
    omega (
      arith,
      length-append (written_line (refusal_line refusal)) [],
      line_length (ascii "refused") (decimal (fault_number refusal.fault)) (decimal refusal.place) (ascii "0"),
      number-length (fault_number refusal.fault) most_digits (omega arith) (omega arith),
      number-length refusal.place most_digits (omega arith) (omega arith),
    )

-- a refusal's line at the front of an output that holds every one
pub record RefusalMade (refusal : Refusal) (result : Result ⊤ WriteError) (n : ℕ) (out : List ℕ) : Type 0 where
  pub wrote : result ≡ Ok tt
  pub stands : take n out ≡ refusal_print refusal
  pub ends : n ≡ length (take n out)
  pub short : n ≤ longest_refusal

-- it stands there made of its parts
pub refusal-made : (refusal : Refusal) {number : ℕ} {before after : Output} {result : Result ⊤ WriteError} {lent : List ℕ} → before.at ≡ 0
    → before.bytes.now ≡ lent → number ≡ fault_number refusal.fault → number < 2 ^ 64 → refusal.place < 2 ^ 64 → longest_refusal ≤ length lent
    → PutLines ((ascii "refused" ∷ decimal number ∷ decimal refusal.place ∷ decimal 0 ∷ []) ∷ []) before result after
    → {n : ℕ} {out : List ℕ} → n ≡ after.at → out ≡ after.bytes.now → RefusalMade refusal result n out
unfolding refusal_print decimal decimal_within ascii
refusal-made refusal front is number fits place room put {n} {out} ends holds =
    let short = refusal-length refusal (rw number at fits) place in
    let made = lines-at-front front is (refusal-writable refusal) (omega (arith, short)) (rw number at put) in
    let size : n ≡ length (refusal_print refusal) = ends ∙ ap (λ (o : State). o.at) made in
    let stands : take n out ≡ refusal_print refusal =
    ap (take n) (holds ∙ ap (λ (o : State). o.bytes) made) ∙ rw size (take-append_seam (refusal_print refusal) _) in
    record { wrote = ap (λ (o : State). o.wrote) made; stands = stands; ends = size ∙ sym (ap length stands); short = omega (arith, size, short) }

-- the line put where it fits, and kept out where it does not
module _ (refusal : Refusal) {bytes lent out : List ℕ} {before after : Output} {result : Result ⊤ WriteError} (is : bytes ≡ refusal_print refusal)
    (front : before.at ≡ 0) (begun : before.bytes.now ≡ lent) (put : Puts (plain bytes ∷ []) before result after) (holds : out ≡ after.bytes.now) where
  same-put : Puts (plain (refusal_print refusal) ∷ []) before result after
  same-put = rw is at put

  pub refusal-put : {n : ℕ} → result ≡ Ok tt → n ≡ length bytes → RefusalWritten refusal lent n out
  unfolding over_front
  refusal-put e size =
      let (room, ends, stands) = bytes-at-front front begun same-put e in
      rw (holds, stands, size, is) (refusal-fits refusal room)

  pub refusal-kept : {error : WriteError} → result ≡ Err error → RefusalWritten refusal lent 0 out
  refusal-kept e =
      let (over, kept) = bytes-kept front begun same-put e in
      rw (holds, kept) (refusal-long refusal over)
