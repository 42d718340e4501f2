-- What the writer writes is of the grammar and reads as the values written, and how long it is. Assumes nothing.
use Rattle.std.specs.Prelude.{◌≡◌, refl, ℕ, suc, ◌+◌, ◌≤◌, Bool, true, false, cond, ◌||◌, List, [], ◌∷◌, ◌++◌, length, eqb}
use Rattle.std.proofs.Common.{arith, true≢false, append_assoc, append-nil, length-append}
use Rattle.std.proofs.lemmas.Bool.{false≢true}
use Rattle.std.proofs.Math.Bool.{and-eq-true_iff}
use Rattle.rfc4180.specs.declared.ByteClass.{ByteClass}
use Rattle.rfc4180.specs.declared.ByteClass.TheVariants.{Text, Quote, Comma, CarriageReturn, LineFeed, Refused}
use Rattle.rfc4180.specs.Bytes.{quote, carriage_return, line_feed, class_of}
use Rattle.rfc4180.specs.Grammar.{NonEscaped, non_escaped-end, non_escaped-text, Escaped, escaped-end, escaped-text, escaped-comma, escaped_cr}
use Rattle.rfc4180.specs.Grammar.{escaped_lf, escaped-quote, Field, field-escaped, field_non_escaped, Record, record_last, record_more, File}
use Rattle.rfc4180.specs.Grammar.{file-ended, file-more}
use Rattle.rfc4180.specs.Writer.{asks_for_quotes, needs_quotes, doubled, written, written_record, written_file, is_allowed, writable, writable_record}
use Rattle.rfc4180.specs.Writer.{writable_file, quote_count}
use Rattle.rfc4180.proofs.Laws.Classes.{class_means, text_no_quote}
use Rattle.rfc4180.proofs.Laws.Quotes.{NonEmpty}

-- ---- fields

byte_doubled : (b : ℕ) (rest : List ℕ) (k : ByteClass) → class_of b ≡ k → is_allowed k ≡ true → Escaped (doubled rest) rest
    → Escaped (doubled (b ∷ rest)) (b ∷ rest)
unfolding is_allowed doubled
byte_doubled b rest Text p e r = rw (text_no_quote (class_means b p)) (escaped-text (class_means b p) r)
byte_doubled b rest Quote p e r = rw (class_means b p) (escaped-quote r)
byte_doubled b rest Comma p e r = rw (class_means b p) (escaped-comma r)
byte_doubled b rest CarriageReturn p e r = rw (class_means b p) (escaped_cr r)
byte_doubled b rest LineFeed p e r = rw (class_means b p) (escaped_lf r)
byte_doubled b rest Refused p e r = absurd (false≢true e)

doubled-escaped : (value : List ℕ) → writable value ≡ true → Escaped (doubled value) value
unfolding writable doubled
doubled-escaped [] e = escaped-end
doubled-escaped (b ∷ rest) e =
    let both = (and-eq-true_iff (is_allowed (class_of b)) (writable rest)).0 e in
    byte_doubled b rest (class_of b) refl both.0 (doubled-escaped rest both.1)

byte_plain : (b : ℕ) (rest : List ℕ) (k : ByteClass) → class_of b ≡ k → is_allowed k ≡ true → (asks_for_quotes k || needs_quotes rest) ≡ false
    → (needs_quotes rest ≡ false → NonEscaped rest) → NonEscaped (b ∷ rest)
unfolding is_allowed asks_for_quotes
byte_plain b rest Text p e q r = non_escaped-text (class_means b p) (r q)
byte_plain b rest Quote p e q r = absurd (true≢false q)
byte_plain b rest Comma p e q r = absurd (true≢false q)
byte_plain b rest CarriageReturn p e q r = absurd (true≢false q)
byte_plain b rest LineFeed p e q r = absurd (true≢false q)
byte_plain b rest Refused p e q r = absurd (false≢true e)

plain-text : (value : List ℕ) → writable value ≡ true → needs_quotes value ≡ false → NonEscaped value
unfolding writable needs_quotes
plain-text [] e q = non_escaped-end
plain-text (b ∷ rest) e q =
    let both = (and-eq-true_iff (is_allowed (class_of b)) (writable rest)).0 e in
    byte_plain b rest (class_of b) refl both.0 q (plain-text rest both.1)

written-by : (value : List ℕ) (t : Bool) → needs_quotes value ≡ t → writable value ≡ true → Field (cond t (quote ∷ doubled value ++ quote ∷ []) value) value
written-by value true q e = field-escaped (doubled-escaped value e)
written-by value false q e = field_non_escaped (plain-text value e q)

-- a written value is a field with that value
pub field-written : (value : List ℕ) → writable value ≡ true → Field (written value) value
unfolding written
field-written value e = written-by value (needs_quotes value) refl e

-- ---- records and files

-- one written value or more, with commas between them, are a record with these values
pub record_written : (values : List (List ℕ)) → writable_record values ≡ true → Record (written_record values) values
unfolding writable_record written_record
record_written [] e = absurd (false≢true e)
record_written (value ∷ []) e = record_last (field-written value e)
record_written (value ∷ next ∷ values) e =
    let both = (and-eq-true_iff (writable value) (writable_record (next ∷ values))).0 e in
    record_more (field-written value both.0) (record_written (next ∷ values) both.1)

line_more : (text bytes : List ℕ) (values : List (List ℕ)) (others : List (List (List ℕ))) → NonEmpty bytes → Record text values → File bytes others
    → File (text ++ carriage_return ∷ line_feed ∷ [] ++ bytes) (values ∷ others)
line_more text [] values others n r f = absurd n
line_more text (b ∷ rest) values others n r f = rw append_assoc (file-more r f)

line_non_empty : (text bytes : List ℕ) → NonEmpty (text ++ carriage_return ∷ line_feed ∷ [] ++ bytes)
line_non_empty [] bytes = tt
line_non_empty (b ∷ text) bytes = tt

-- one written line or more are a file with these values
pub file-written : (all : List (List (List ℕ))) → writable_file all ≡ true → File (written_file all) all
unfolding writable_file written_file
file-written [] e = absurd (false≢true e)
file-written (values ∷ []) e = rw append-nil (file-ended (record_written values e))
file-written (values ∷ next ∷ others) e =
    let both = (and-eq-true_iff (writable_record values) (writable_file (next ∷ others))).0 e in
    line_more (written_record values) (written_file (next ∷ others)) values (next ∷ others) (line_non_empty (written_record next) (written_file others))
    (record_written values both.0) (file-written (next ∷ others) both.1)

-- ---- lengths

byte_length : (b : ℕ) (rest : List ℕ) (t : Bool) → length (doubled rest) ≡ length rest + quote_count rest
    → length (cond t (quote ∷ b ∷ []) (b ∷ []) ++ doubled rest) ≡ suc (length rest) + cond t (suc (quote_count rest)) (quote_count rest)
byte_length b rest true e = omega arith
byte_length b rest false e = omega arith

length-doubled : (value : List ℕ) → length (doubled value) ≡ length value + quote_count value
unfolding doubled quote_count
length-doubled [] = refl
length-doubled (b ∷ rest) = byte_length b rest (eqb b quote) (length-doubled rest)

-- a value that needs quotes takes two bytes more, and one more for each quote in it
pub length-written : (value : List ℕ) → length (written value) ≡ cond (needs_quotes value) (length value + quote_count value + 2) (length value)
unfolding written
length-written value = go (needs_quotes value)
  where
    go : (t : Bool) → length (cond t (quote ∷ doubled value ++ quote ∷ []) value) ≡ cond t (length value + quote_count value + 2) (length value)
    go true = omega (arith, length-doubled value, length-append (doubled value) (quote ∷ []))
    go false = refl

-- a value holds at most as many quotes as bytes
pub quote-count-le : (value : List ℕ) → quote_count value ≤ length value
unfolding quote_count
quote-count-le [] = omega arith
quote-count-le (b ∷ rest) = go (eqb b quote) (quote-count-le rest)
  where
    go : (t : Bool) → quote_count rest ≤ length rest → cond t (suc (quote_count rest)) (quote_count rest) ≤ suc (length rest)
    go true h = omega arith
    go false h = omega arith
