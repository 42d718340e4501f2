-- What the functions put reads as it is meant: bytes as they are, a field as its value, digits as their number. Assumes nothing.
use Rattle.std.specs.Prelude.{◌≡◌, refl, Bool, true, false, cond, List, [], ◌∷◌, ◌++◌, ℕ, Result, ⊤}
use Rattle.std.proofs.Common.{◌∙◌, append-nil, arith}
use Rattle.std.proofs.Math.Option.{none, some}
use Rattle.rfc4180.specs.Grammar.{Field}
use Rattle.rfc4180.proofs.Laws.Writer.{field-written as value_written}
use Rattle.rfc4180.specs.Writer.{written, writable}
use Rattle.planfile.proofs.Laws.Decimals.{decimal-read}
use Rattle.planfile.specs.Numerals.{Numeral, decimal}
use Rattle.lines.specs.declared.output.Output.{Output}
use Rattle.lines.specs.declared.WriteError.{WriteError}
use Rattle.lines.specs.Putting.{Text, plain, field, number, Puts, Writes}
use Rattle.lines.specs.Laws.Putting.{Joined, joined-none, joined-more, writes}

-- the bytes of a text and of an end behind it
last-text : {text : Text} {bytes : List ℕ} → Joined (text ∷ []) bytes → text ≡ some bytes
last-text (joined-more {bytes = bytes} joined-none) = rw (append-nil bytes)

first-text : {text end : Text} {bytes : List ℕ} → Joined (text ∷ end ∷ []) bytes
    → (first : List ℕ) × (last : List ℕ) × (text ≡ some first) × (end ≡ some last) × (bytes ≡ first ++ last)
first-text (joined-more {bytes = bytes} {others = others} j) = (bytes, others, refl, last-text j, refl)

-- the bytes of a field are of the grammar
field-reads : (value raw : List ℕ) → field value ≡ some raw → Field raw value
unfolding field
field-reads value raw e = go (writable value) refl e
  where
    go : (t : Bool) → writable value ≡ t → cond t (some (written value)) none ≡ some raw → Field raw value
    go true w e = let same : written value ≡ raw = cc in rw same at (value_written value w)
    go false w e = let z : ◌≡◌ {A = ℕ} 0 1 = cc in absurd (omega arith)

module _ {before after : Output} {result : Result ⊤ WriteError} where
  pub bytes-written : {bytes : List ℕ} → Puts (plain bytes ∷ []) before result after → Writes (plain bytes ∷ []) (λ stands. stands ≡ bytes) before result after
  bytes-written {bytes} put = writes put (λ stands. stands ≡ bytes) read
    where
      read : (stands : List ℕ) → Joined (plain bytes ∷ []) stands → stands ≡ bytes
      read stands j = let e = last-text j in cc

  pub field-written : {value end : List ℕ} → Puts (field value ∷ plain end ∷ []) before result after
      → Writes (field value ∷ plain end ∷ []) (λ stands. (raw : List ℕ) × Field raw value × (stands ≡ raw ++ end)) before result after
  field-written {value} {end} put = writes put _ read
    where
      read : (stands : List ℕ) → Joined (field value ∷ plain end ∷ []) stands → (raw : List ℕ) × Field raw value × (stands ≡ raw ++ end)
      read stands j =
          let (raw, last, text, ends, whole) = first-text j in
          let same : last ≡ end = cc in
          (raw, field-reads value raw text, whole ∙ rw same)

  pub number-written : {n : ℕ} {end : List ℕ} → Puts (number n ∷ plain end ∷ []) before result after
      → Writes (number n ∷ plain end ∷ []) (λ stands. (digits : List ℕ) × Numeral digits n × (stands ≡ digits ++ end)) before result after
  number-written {n} {end} put = writes put _ read
    where
      read : (stands : List ℕ) → Joined (number n ∷ plain end ∷ []) stands → (digits : List ℕ) × Numeral digits n × (stands ≡ digits ++ end)
      read stands j =
          let (digits, last, text, ends, whole) = first-text j in
          let same : decimal n ≡ digits = cc in
          let stops : last ≡ end = cc in
          (digits, rw same at (decimal-read n), whole ∙ rw stops)
