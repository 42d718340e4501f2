-- The reading of a record's text and of a file: the values where the text is one of RFC 4180's grammar, none where it is
-- not. Assumes nothing.
use Rattle.std.specs.Prelude.{ℕ, Bool, true, false, cond, ◌&&◌, List, [], ◌∷◌, eqb}
use Rattle.std.proofs.Math.Option.{Option, none, some, map}
use Rattle.rfc4180.specs.declared.ByteClass.{ByteClass}
use Rattle.rfc4180.specs.declared.ByteClass.TheVariants.{Text, Quote, Comma, CarriageReturn, LineFeed, Refused}
use Rattle.rfc4180.specs.Bytes.{quote, comma, class_of}
use Rattle.rfc4180.specs.Records.{outside_after, records}

-- a comma outside quotes closes a field before the others; any other byte stands at the front of the first of them
unfoldable pub cut_or : Bool → ℕ → List (List ℕ) → List (List ℕ)
cut_or true b fields = [] ∷ fields
cut_or false b [] = (b ∷ []) ∷ []
cut_or false b (field ∷ fields) = (b ∷ field) ∷ fields

-- the raw fields in the rest of a record where the text so far is, or is not, outside quotes
unfoldable pub raw_fields_from : Bool → List ℕ → List (List ℕ)
unfolding outside_after cut_or
raw_fields_from outside [] = [] ∷ []
raw_fields_from outside (b ∷ rest) = cut_or (outside && eqb b comma) b (raw_fields_from (outside_after outside b) rest)

-- the raw fields of a record's text: it is cut at each comma outside quotes, after an even number of quote bytes
unfoldable pub raw_fields : List ℕ → List (List ℕ)
unfolding raw_fields_from
raw_fields text = raw_fields_from true text

-- the bytes that a non-escaped field may hold
unfoldable pub is_text : ByteClass → Bool
is_text Text = true
is_text Quote = false
is_text Comma = false
is_text CarriageReturn = false
is_text LineFeed = false
is_text Refused = false

-- non-escaped: every byte is TEXTDATA
unfoldable pub all_text : List ℕ → Bool
unfolding is_text class_of
all_text [] = true
all_text (b ∷ rest) = is_text (class_of b) && all_text rest

-- a byte before the closing quote of an escaped field: it stands for itself; a quote counts only as the first of two
unfoldable pub escaped_byte : ByteClass → Bool → Option (List ℕ) → Option (List ℕ) → Option (List ℕ)
escaped_byte Text quote_next itself one_quote = itself
escaped_byte Quote true itself one_quote = one_quote
escaped_byte Quote false itself one_quote = none
escaped_byte Comma quote_next itself one_quote = itself
escaped_byte CarriageReturn quote_next itself one_quote = itself
escaped_byte LineFeed quote_next itself one_quote = itself
escaped_byte Refused quote_next itself one_quote = none

-- the value of an escaped field, from the bytes behind its opening quote: the closing quote is the last byte
unfoldable pub escaped_value : List ℕ → Option (List ℕ)
unfolding escaped_byte class_of
escaped_value [] = none
escaped_value (b ∷ []) = cond (eqb b quote) (some []) none
escaped_value (b ∷ c ∷ rest) =
    let itself = map (λ (value : List ℕ). b ∷ value) (escaped_value (c ∷ rest)) in
    let one_quote = map (λ (value : List ℕ). quote ∷ value) (escaped_value rest) in
    escaped_byte (class_of b) (eqb c quote) itself one_quote

-- the value of a raw field: escaped where it begins with a quote, else non-escaped
unfoldable pub field_value : List ℕ → Option (List ℕ)
unfolding all_text escaped_value
field_value [] = some []
field_value (b ∷ rest) = cond (eqb b quote) (escaped_value rest) (cond (all_text (b ∷ rest)) (some (b ∷ rest)) none)

-- both results as one list, none where one of them is none
unfoldable pub and_then : {B : Type 0} → Option B → Option (List B) → Option (List B)
and_then none others = none
and_then (some value) none = none
and_then (some value) (some values) = some (value ∷ values)

-- the results of all items in order, none where an item has none
unfoldable pub read_all : {A B : Type 0} → (A → Option B) → List A → Option (List B)
unfolding and_then
read_all read [] = some []
read_all read (item ∷ items) = and_then (read item) (read_all read items)

-- the values of a record's text
unfoldable pub field_values : List ℕ → Option (List (List ℕ))
unfolding raw_fields field_value read_all
field_values text = read_all field_value (raw_fields text)

-- the values of a file, record by record
unfoldable pub file_values : List ℕ → Option (List (List (List ℕ)))
unfolding records field_values read_all
file_values bytes = read_all field_values (records bytes)
