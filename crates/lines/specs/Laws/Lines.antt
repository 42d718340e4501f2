-- Lines whose values can be written: put text by text they are the bytes that RFC 4180's writer has for them. Assumes nothing.
use Rattle.std.specs.Prelude.{◌≡◌, refl, true, ℕ, ◌+◌, ◌≤◌, length, Result, Ok, Err, IsErrAnd, ⊤}
use Rattle.std.proofs.Common.{sym, ap, ◌∙◌}
use Rattle.std.proofs.lemmas.Bool.{false≢true}
use Rattle.std.proofs.Math.Bool.{and-eq-true_iff}
use mathlib.Core.List.{List, [], ◌∷◌, ◌++◌, append_assoc, append-nil}
use Rattle.std.proofs.Math.Option.{some}
use Rattle.rfc4180.specs.Bytes.{comma, carriage_return, line_feed}
use Rattle.rfc4180.specs.Writer.{written, written_record, written_line, written_file, writable, writable_record, writable_file}
use Rattle.planfile.proofs.Laws.Decimals.{decimal-plain, decimal-writable}
use Rattle.planfile.specs.Numerals.{decimal}
use Rattle.lines.specs.declared.output.Output.{Output}
use Rattle.lines.specs.declared.WriteError.{WriteError}
use Rattle.lines.specs.Lines.{line_texts, file_texts, PutLines}
use Rattle.lines.specs.Putting.{field, number, state, left, put_at, Puts}
use Rattle.lines.specs.Laws.Loops.{TextsLeft, next-put, last-put, put-error}
use Rattle.lines.specs.Laws.Putting.{Joined, joined-none, joined-more, joined-text, joined-append, all-put, no_text, then, then-error}
use Rattle.lines.specs.Laws.Values.{written-plain}

-- ---- values

-- a value that can be written has its bytes
pub field-text : (value : List ℕ) → writable value ≡ true → field value ≡ some (written value)
unfolding field
field-text value e = rw e

-- a number is written as the field that its digits are
pub number-text : (n : ℕ) → field (decimal n) ≡ number n
number-text n = field-text (decimal n) (decimal-writable n) ∙ ap some (written-plain (decimal n) (decimal-plain n))

-- ---- lines

-- a line's texts joined are its bytes
pub line_joined : (values : List (List ℕ)) → writable_record values ≡ true → Joined (line_texts values) (written_line values)
unfolding writable_record line_texts
line_joined [] e = absurd (false≢true e)
line_joined (value ∷ []) e = unfold written_line in joined-text (field-text value e) (joined-more joined-none)
line_joined (value ∷ next ∷ values) e =
    let both = (and-eq-true_iff (writable value) (writable_record (next ∷ values))).0 e in
    rw (parts value next values) (joined-text (field-text value both.0) (joined-more (line_joined (next ∷ values) both.1)))
  where
    parts : (value next : List ℕ) (values : List (List ℕ))
        → written_line (value ∷ next ∷ values) ≡ written value ++ (comma ∷ [] ++ written_line (next ∷ values))
    parts value next values = unfold written_line in append_assoc (written value) (comma ∷ written_record (next ∷ values)) (carriage_return ∷ line_feed ∷ [])

-- so are those of lines one behind the other
pub file-joined : (lines : List (List (List ℕ))) → writable_file lines ≡ true → Joined (file_texts lines) (written_file lines)
unfolding file_texts written_file writable_file
file-joined [] e = absurd (false≢true e)
file-joined (line ∷ []) e = joined-append (line_joined line e) joined-none
file-joined (line ∷ next ∷ lines) e =
    let both = (and-eq-true_iff (writable_record line) (writable_file (next ∷ lines))).0 e in
    joined-append (line_joined line both.0) (file-joined (next ∷ lines) both.1)

-- where they fit they stand in the output
pub lines-stand : (lines : List (List (List ℕ))) → writable_file lines ≡ true → {before after : Output} {result : Result ⊤ WriteError}
    → before.at + length (written_file lines) ≤ length before.bytes.now → PutLines lines before result after
    → left result after ≡ state (Ok tt) (before.at + length (written_file lines)) (put_at before.at (written_file lines) before.bytes.now)
lines-stand lines e {before} room put = put.texts.all ∙ all-put (file-joined lines e) before.at before.bytes.now room

-- a line whose texts are put
pub line_put : (values : List (List ℕ)) {before after : Output} {result : Result ⊤ WriteError} → Puts (line_texts values) before result after
    → PutLines (values ∷ []) before result after
unfolding file_texts
line_put values put = record { texts = rw (append-nil (line_texts values)) put }

-- lines are put one after the other
texts-append : (lines others : List (List (List ℕ))) → file_texts (lines ++ others) ≡ file_texts lines ++ file_texts others
unfolding file_texts
texts-append [] others = refl
texts-append (line ∷ lines) others = rw (texts-append lines others) (sym (append_assoc (line_texts line) (file_texts lines) (file_texts others)))

pub then_lines : {lines others : List (List (List ℕ))} {before between after : Output} {first result : Result ⊤ WriteError} → first ≡ Ok tt
    → PutLines lines before first between → PutLines others between result after → PutLines (lines ++ others) before result after
then_lines {lines} {others} e p q = record { texts = rw (texts-append lines others) (then e p.texts q.texts) }

-- an error at some lines ends those behind them too
pub then_lines-error : (others : List (List (List ℕ))) {lines : List (List (List ℕ))} {before after : Output} {error : WriteError}
    {first result : Result ⊤ WriteError} → first ≡ Err error → PutLines lines before first after → IsErrAnd result (λ given. given ≡ error)
    → PutLines (lines ++ others) before result after
then_lines-error others {lines} e p h = record { texts = rw (texts-append lines others) (then-error (file_texts others) e p.texts h) }

-- ---- lines in a loop

-- lines that are still to be put, as the texts that they are
pub record LinesLeft (lines : List (List (List ℕ))) (out : Output) (all : List (List (List ℕ))) (first : Output) : Type 0 where
  pub texts : TextsLeft (file_texts lines) out (file_texts all) first

-- the next of them are put
pub lines-put : {lines others rest all : List (List (List ℕ))} {out after first : Output} {result : Result ⊤ WriteError}
    → LinesLeft rest out all first → rest ≡ lines ++ others → result ≡ Ok tt → PutLines lines out result after → LinesLeft others after all first
lines-put {lines} {others} still parts e put = record { texts = next-put still.texts (ap file_texts parts ∙ texts-append lines others) e put.texts }

-- when none is left, all are put
pub all_lines : {all : List (List (List ℕ))} {out first : Output} → LinesLeft [] out all first → PutLines all first (Ok tt) out
unfolding file_texts
all_lines still = record { texts = last-put still.texts no_text }

-- an error at the next of them ends all
pub lines-error : (others : List (List (List ℕ))) {lines rest all : List (List (List ℕ))} {out after first : Output} {error : WriteError}
    {given result : Result ⊤ WriteError} → LinesLeft rest out all first → rest ≡ lines ++ others → given ≡ Err error → PutLines lines out given after
    → IsErrAnd result (λ passed. passed ≡ error) → PutLines all first result after
lines-error others {lines} still parts e put h =
    record { texts = put-error (file_texts others) still.texts (ap file_texts parts ∙ texts-append lines others) e put.texts h }
