-- What the reader finds, byte after byte, each byte decided by its class.
-- Assumes nothing.
use Rattle.std.specs.Prelude.{Bool, true, false, List, [], ◌∷◌, ℕ, ◌+◌, eqb}
use Rattle.rfc4180.specs.declared.ByteClass.{ByteClass}
use Rattle.rfc4180.specs.declared.ByteClass.TheVariants.{Text, Quote, Comma, CarriageReturn, LineFeed, Refused}
use Rattle.rfc4180.specs.Bytes.{quote, line_feed, class_of}
use Rattle.csv_fields.specs.declared.FieldForm.{FieldForm}
use Rattle.csv_fields.specs.declared.FieldForm.TheVariants.{Part, Doubled}
use Rattle.csv_fields.specs.Results.{Reading}
use Rattle.csv_fields.specs.Spans.{before_comma, before_record_end, with_file, broken_field}

-- whether some bytes begin with a byte
unfoldable pub begins_with : (b : ℕ) → List ℕ → Bool
begins_with b [] = false
begins_with b (x ∷ rest) = eqb x b

-- the byte at which a field may end: before a comma and before CR LF it does, and every other byte but text breaks it
unfoldable pub end_by : ByteClass → (line_feed_next : Bool) → (at : ℕ) → (form : FieldForm) → (text : Reading) → Reading
end_by Text line_feed_next at form text = text
end_by Quote line_feed_next at form text = broken_field
end_by Comma line_feed_next at form text = before_comma at form
end_by CarriageReturn true at form text = before_record_end at form
end_by CarriageReturn false at form text = broken_field
end_by LineFeed line_feed_next at form text = broken_field
end_by Refused line_feed_next at form text = broken_field

-- a quoted field, by the bytes behind its closing quote: no text may follow
unfoldable pub end_read : (at : ℕ) → (form : FieldForm) → List ℕ → Reading
unfolding class_of begins_with end_by
end_read at form [] = with_file at form
end_read at form (b ∷ rest) = end_by (class_of b) (begins_with line_feed rest) at form broken_field

-- a field that is not quoted: text goes on
unfoldable pub plain_read : (at : ℕ) → List ℕ → Reading
unfolding class_of begins_with end_by
plain_read at [] = with_file at Part
plain_read at (b ∷ rest) = end_by (class_of b) (begins_with line_feed rest) at Part (plain_read (at + 1) rest)

-- a byte inside quotes: the field goes on, also behind a doubled quote, or is closed
unfoldable pub inside_read : ByteClass → (quote_next : Bool) → (on pair closed : Reading) → Reading
inside_read Text quote_next on pair closed = on
inside_read Quote true on pair closed = pair
inside_read Quote false on pair closed = closed
inside_read Comma quote_next on pair closed = on
inside_read CarriageReturn quote_next on pair closed = on
inside_read LineFeed quote_next on pair closed = on
inside_read Refused quote_next on pair closed = broken_field

-- a quoted field, from the place behind its opening quote on, where a doubled quote has been met or not
unfoldable pub quoted_read : (form : FieldForm) → (at : ℕ) → List ℕ → Reading
unfolding inside_read class_of end_read
quoted_read form at [] = broken_field
quoted_read form at (b ∷ []) = inside_read (class_of b) false broken_field broken_field (end_read (at + 1) form [])
quoted_read form at (b ∷ c ∷ rest) =
    inside_read (class_of b) (eqb c quote) (quoted_read form (at + 1) (c ∷ rest)) (quoted_read Doubled (at + 2) rest) (end_read (at + 1) form (c ∷ rest))
