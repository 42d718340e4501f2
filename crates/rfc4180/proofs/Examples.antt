-- RFC 4180's printed examples, records that break its grammar, and where records end, all evaluated from the definitions.
-- Assumes nothing.
use Rattle.std.specs.Prelude.{◌≡◌, refl, ℕ, List, [], ◌∷◌, map}
use Prim.Native.String.{String}
use Rattle.std.proofs.Math.Option.{Option, none, some}
use Rattle.rfc4180.specs.Records.{records}
use Rattle.rfc4180.specs.Fields.{file_values}
use Rattle.rfc4180.specs.Text.{ascii}
use Rattle.rfc4180.specs.Writer.{written_record}

-- what an example says of a text
pub data Example : Type 0 where
  -- as a file, it reads as these records of these values
  reads : String → List (List String) → Example
  -- as a file, it breaks the grammar
  breaks : String → Example
  -- as a file, of the grammar or not, it has these texts of records
  splits : String → List String → Example
  -- as a record of these values, it is what the writer writes
  writes : List String → String → Example

-- what the definitions give for an example
unfoldable pub evaluated : Example → Option (List (List (List ℕ)))
unfolding ascii file_values records written_record
evaluated (reads file values) = file_values (ascii file)
evaluated (breaks file) = file_values (ascii file)
evaluated (splits file texts) = some (records (ascii file) ∷ [])
evaluated (writes values text) = some ((written_record (map ascii values) ∷ []) ∷ [])

-- what the example states
unfoldable pub stated : Example → Option (List (List (List ℕ)))
unfolding ascii
stated (reads file values) = some (map (map ascii) values)
stated (breaks file) = none
stated (splits file texts) = some (map ascii texts ∷ [])
stated (writes values text) = some ((ascii text ∷ []) ∷ [])

unfoldable pub examples : List Example
examples =
    -- rule 1: each record on a line of its own
    reads "aaa,bbb,ccc\r\nzzz,yyy,xxx\r\n" (("aaa" ∷ "bbb" ∷ "ccc" ∷ []) ∷ ("zzz" ∷ "yyy" ∷ "xxx" ∷ []) ∷ [])
    -- rule 2: the last record may lack the line break
    ∷ reads "aaa,bbb,ccc\r\nzzz,yyy,xxx" (("aaa" ∷ "bbb" ∷ "ccc" ∷ []) ∷ ("zzz" ∷ "yyy" ∷ "xxx" ∷ []) ∷ [])
    -- rule 3: a header line has the format of a record
    ∷ reads "field_name,field_name,field_name\r\naaa,bbb,ccc\r\nzzz,yyy,xxx\r\n"
    (("field_name" ∷ "field_name" ∷ "field_name" ∷ []) ∷ ("aaa" ∷ "bbb" ∷ "ccc" ∷ []) ∷ ("zzz" ∷ "yyy" ∷ "xxx" ∷ []) ∷ [])
    -- rule 4: one or more fields, separated by commas
    ∷ reads "aaa,bbb,ccc" (("aaa" ∷ "bbb" ∷ "ccc" ∷ []) ∷ [])
    -- rule 5: a field may be enclosed in double quotes
    ∷ reads "\"aaa\",\"bbb\",\"ccc\"\r\nzzz,yyy,xxx" (("aaa" ∷ "bbb" ∷ "ccc" ∷ []) ∷ ("zzz" ∷ "yyy" ∷ "xxx" ∷ []) ∷ [])
    -- rule 6: a line break inside double quotes
    ∷ reads "\"aaa\",\"b\r\nbb\",\"ccc\"\r\nzzz,yyy,xxx" (("aaa" ∷ "b\r\nbb" ∷ "ccc" ∷ []) ∷ ("zzz" ∷ "yyy" ∷ "xxx" ∷ []) ∷ [])
    -- rule 7: a double quote inside double quotes
    ∷ reads "\"aaa\",\"b\"\"bb\",\"ccc\"" (("aaa" ∷ "b\"bb" ∷ "ccc" ∷ []) ∷ [])
    -- empty fields, also the last one, and spaces, which are part of a field
    ∷ reads "" (("" ∷ []) ∷ [])
    ∷ reads ",\"\"" (("" ∷ "" ∷ []) ∷ [])
    ∷ reads "a,b," (("a" ∷ "b" ∷ "" ∷ []) ∷ [])
    ∷ reads " a , b " ((" a " ∷ " b " ∷ []) ∷ [])
    -- the first CRLF of two at the end ends the last record but one, which an empty record follows
    ∷ reads "a,b\r\n\r\n" (("a" ∷ "b" ∷ []) ∷ ("" ∷ []) ∷ [])
    ∷ reads "\r\n" (("" ∷ []) ∷ [])
    -- commas, a lone CR, a lone LF and quotes at either end inside quotes
    ∷ reads "\"a,b\",\"\r\",\"\n\",\"\"\"\"" (("a,b" ∷ "\r" ∷ "\n" ∷ "\"" ∷ []) ∷ [])
    -- a quote inside a field that is not enclosed, text or a space on the wrong side of a quote, and quotes not closed
    ∷ breaks "a\"b,c"
    ∷ breaks " \"a\",b"
    ∷ breaks "\"a\" ,b"
    ∷ breaks "\"a\"b,c"
    ∷ breaks "\"a,b\r\n"
    ∷ breaks "\"a\"\""
    -- LF or CR alone outside quotes, and bytes that stand nowhere
    ∷ breaks "a,b\nc,d\r\n"
    ∷ breaks "a,b\rc,d\r\n"
    ∷ breaks "\"\u{80}\""
    ∷ breaks "\"\u{7f}\""
    ∷ breaks "\0"
    ∷ breaks "\t"
    -- a record ends at CR LF outside quotes only, whether or not it keeps the grammar
    ∷ splits "a\nb\r\nc" ("a\nb" ∷ "c" ∷ [])
    ∷ splits "a\r\r\nb" ("a\r" ∷ "b" ∷ [])
    ∷ splits "\"a\r\nb\"\r\nc\r\n" ("\"a\r\nb\"" ∷ "c" ∷ [])
    ∷ splits "a\r\n\"b\r\nc" ("a" ∷ "\"b\r\nc" ∷ [])
    -- quotes are written where rule 6 asks for them, and nowhere else
    ∷ writes ("aaa" ∷ "b b" ∷ "" ∷ []) "aaa,b b,"
    ∷ writes ("b\"bb" ∷ "b,b" ∷ "b\r\nbb" ∷ "\r" ∷ "\n" ∷ []) "\"b\"\"bb\",\"b,b\",\"b\r\nbb\",\"\r\",\"\n\""
    ∷ []

pub examples_hold : map evaluated examples ≡ map stated examples
unfolding evaluated stated examples
examples_hold = refl
