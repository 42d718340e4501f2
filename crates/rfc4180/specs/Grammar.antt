-- The grammar of RFC 4180, section 2, as relations between bytes and the values that they stand for. Each constructor is
-- one way in which a rule of the grammar reads bytes; nothing here searches or decides. Assumes nothing.
use Rattle.std.specs.Prelude.{ℕ, ◌≤◌, List, [], ◌∷◌, ◌++◌}
use Rattle.rfc4180.specs.Bytes.{quote, comma, carriage_return, line_feed}

-- TEXTDATA = %x20-21 / %x23-2B / %x2D-7E
pub data TextData : ℕ → Type 0 where
  text_20_21 : {b : ℕ} → 0x20 ≤ b → b ≤ 0x21 → TextData b
  text_23_2B : {b : ℕ} → 0x23 ≤ b → b ≤ 0x2B → TextData b
  text_2D_7E : {b : ℕ} → 0x2D ≤ b → b ≤ 0x7E → TextData b

-- non-escaped = *TEXTDATA
pub data NonEscaped : List ℕ → Type 0 where
  non_escaped-end : NonEscaped []
  non_escaped-text : {b : ℕ} {text : List ℕ} → TextData b → NonEscaped text → NonEscaped (b ∷ text)

-- what stands between the quotes of an escaped field, *(TEXTDATA / COMMA / CR / LF / 2DQUOTE), and its value: every
-- byte stands for itself, but 2DQUOTE for one quote
pub data Escaped : List ℕ → List ℕ → Type 0 where
  escaped-end : Escaped [] []
  escaped-text : {b : ℕ} {inside value : List ℕ} → TextData b → Escaped inside value → Escaped (b ∷ inside) (b ∷ value)
  escaped-comma : {inside value : List ℕ} → Escaped inside value → Escaped (comma ∷ inside) (comma ∷ value)
  escaped_cr : {inside value : List ℕ} → Escaped inside value → Escaped (carriage_return ∷ inside) (carriage_return ∷ value)
  escaped_lf : {inside value : List ℕ} → Escaped inside value → Escaped (line_feed ∷ inside) (line_feed ∷ value)
  escaped-quote : {inside value : List ℕ} → Escaped inside value → Escaped (quote ∷ quote ∷ inside) (quote ∷ value)

-- field = (escaped / non-escaped), and its value; escaped = DQUOTE *(TEXTDATA / COMMA / CR / LF / 2DQUOTE) DQUOTE
pub data Field : List ℕ → List ℕ → Type 0 where
  field-escaped : {inside value : List ℕ} → Escaped inside value → Field (quote ∷ inside ++ quote ∷ []) value
  field_non_escaped : {text : List ℕ} → NonEscaped text → Field text text

-- record = field *(COMMA field), and the values of its fields
pub data Record : List ℕ → List (List ℕ) → Type 0 where
  record_last : {raw value : List ℕ} → Field raw value → Record raw (value ∷ [])
  record_more : {raw value text : List ℕ} {values : List (List ℕ)}
      → Field raw value → Record text values → Record (raw ++ comma ∷ text) (value ∷ values)

-- file = [header CRLF] record *(CRLF record) [CRLF], and the values of its records: a header has the form of a record and
-- is one here, and a CRLF at the very end is the optional one, so that no record follows it
pub data File : List ℕ → List (List (List ℕ)) → Type 0 where
  file-last : {text : List ℕ} {values : List (List ℕ)} → Record text values → File text (values ∷ [])
  file-ended : {text : List ℕ} {values : List (List ℕ)}
      → Record text values → File (text ++ carriage_return ∷ line_feed ∷ []) (values ∷ [])
  file-more : {text : List ℕ} {values : List (List ℕ)} {b : ℕ} {rest : List ℕ} {records : List (List (List ℕ))}
      → Record text values → File (b ∷ rest) records → File (text ++ carriage_return ∷ line_feed ∷ b ∷ rest) (values ∷ records)
