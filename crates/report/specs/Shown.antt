-- Bytes as the test programs show them: in brackets, on one line. Assumes nothing.
use Rattle.std.specs.Prelude.{cond, ◌&&◌, List, [], ◌∷◌, ◌++◌, ℕ, ◌+◌, ◌/◌, ◌%◌, eqb, leb, ltb, Option, Some, None}
use Rattle.rfc4180.specs.Bytes.{carriage_return, line_feed}
use Rattle.rfc4180.specs.Text.{ascii}
use Rattle.lines.specs.Putting.{Text, plain}

abbrev pub backslash : ℕ
backslash = 0x5C

-- a number below 16 as a digit, in lower case
unfoldable pub hex_digit : ℕ → ℕ
hex_digit n = cond (ltb n 10) (0x30 + n) (0x57 + n)

-- a byte by its two hexadecimal digits: \x_hH
unfoldable pub hex_escape : ℕ → List ℕ
unfolding ascii
hex_escape b = backslash ∷ ascii "x" ++ (hex_digit (b / 16) ∷ hex_digit (b % 16) ∷ [])

-- the letter of a byte that has an escape of its own: \r, \n and \\ for CR, LF and the backslash
unfoldable pub own_letter : ℕ → Option ℕ
own_letter b =
    cond (eqb b carriage_return) (Some 0x72) (cond (eqb b line_feed) (Some 0x6E) (cond (eqb b backslash) (Some backslash) None))

-- a byte as it is shown: by its own escape where it has one, itself where it can be printed, and by its digits where not
unfoldable pub escaped_by : Option ℕ → ℕ → List ℕ
escaped_by (Some letter) b = backslash ∷ letter ∷ []
escaped_by None b = cond (leb 0x20 b && leb b 0x7E) (b ∷ []) (hex_escape b)

unfoldable pub escaped : ℕ → List ℕ
escaped b = escaped_by (own_letter b) b

-- a text for each byte, and behind them the bracket that closes
unfoldable pub closed_texts : List ℕ → List Text
unfolding ascii
closed_texts [] = plain (ascii "]") ∷ []
closed_texts (b ∷ bytes) = plain (escaped b) ∷ closed_texts bytes

unfoldable pub shown_texts : List ℕ → List Text
unfolding ascii
shown_texts bytes = plain (ascii "[") ∷ closed_texts bytes
