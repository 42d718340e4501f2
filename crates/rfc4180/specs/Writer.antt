-- Writing values as RFC 4180: quotes only where a value needs them. Assumes nothing.
use Rattle.std.specs.Prelude.{ℕ, zero, suc, Bool, true, false, cond, ◌&&◌, ◌||◌, List, [], ◌∷◌, ◌++◌, map, eqb}
use Rattle.rfc4180.specs.declared.ByteClass.{ByteClass}
use Rattle.rfc4180.specs.declared.ByteClass.TheVariants.{Text, Quote, Comma, CarriageReturn, LineFeed, Refused}
use Rattle.rfc4180.specs.Bytes.{quote, comma, carriage_return, line_feed, class_of}

-- the bytes that rule 6 wants in quotes: line breaks, double quotes and commas
unfoldable pub asks_for_quotes : ByteClass → Bool
asks_for_quotes Text = false
asks_for_quotes Quote = true
asks_for_quotes Comma = true
asks_for_quotes CarriageReturn = true
asks_for_quotes LineFeed = true
asks_for_quotes Refused = false

-- rule 6: a value that holds such a byte is enclosed in double quotes
unfoldable pub needs_quotes : List ℕ → Bool
unfolding asks_for_quotes class_of
needs_quotes [] = false
needs_quotes (b ∷ rest) = asks_for_quotes (class_of b) || needs_quotes rest

-- rule 7: a double quote is preceded by another one
unfoldable pub doubled : List ℕ → List ℕ
doubled [] = []
doubled (b ∷ rest) = cond (eqb b quote) (quote ∷ b ∷ []) (b ∷ []) ++ doubled rest

-- field: the value, in quotes only where it needs them
unfoldable pub written : List ℕ → List ℕ
unfolding needs_quotes doubled
written value = cond (needs_quotes value) (quote ∷ doubled value ++ quote ∷ []) value

-- fields with a comma between each two
unfoldable pub joined : List (List ℕ) → List ℕ
joined [] = []
joined (field ∷ []) = field
joined (field ∷ next ∷ fields) = field ++ comma ∷ joined (next ∷ fields)

-- record: the written values with a comma between each two
unfoldable pub written_record : List (List ℕ) → List ℕ
unfolding written joined
written_record values = joined (map written values)

-- a record and the CRLF that ends it
unfoldable pub written_line : List (List ℕ) → List ℕ
unfolding written_record
written_line values = written_record values ++ carriage_return ∷ line_feed ∷ []

-- file: one line for each record
unfoldable pub written_file : List (List (List ℕ)) → List ℕ
unfolding written_line
written_file [] = []
written_file (values ∷ records) = written_line values ++ written_file records

-- bytes that stand somewhere in the grammar
unfoldable pub is_allowed : ByteClass → Bool
is_allowed Text = true
is_allowed Quote = true
is_allowed Comma = true
is_allowed CarriageReturn = true
is_allowed LineFeed = true
is_allowed Refused = false

-- a value that can be written: no byte of it is refused
unfoldable pub writable : List ℕ → Bool
unfolding is_allowed class_of
writable [] = true
writable (b ∷ rest) = is_allowed (class_of b) && writable rest

-- whether a list has an item and every item passes a test
unfoldable pub one_or_more : {A : Type 0} → (A → Bool) → List A → Bool
one_or_more test [] = false
one_or_more test (item ∷ []) = test item
one_or_more test (item ∷ next ∷ items) = test item && one_or_more test (next ∷ items)

-- a record that can be written: one writable value or more
unfoldable pub writable_record : List (List ℕ) → Bool
unfolding writable one_or_more
writable_record values = one_or_more writable values

-- a file that can be written: one such record or more
unfoldable pub writable_file : List (List (List ℕ)) → Bool
unfolding writable_record one_or_more
writable_file records = one_or_more writable_record records

-- how many quotes a value holds
unfoldable pub quote_count : List ℕ → ℕ
quote_count [] = zero
quote_count (b ∷ rest) = cond (eqb b quote) (suc (quote_count rest)) (quote_count rest)
