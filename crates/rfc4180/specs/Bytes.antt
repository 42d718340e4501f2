-- The bytes that RFC 4180's grammar names, and the class of every byte. Assumes nothing.
use Rattle.std.specs.Prelude.{ℕ, Bool, cond, ◌&&◌, ◌||◌, leb, eqb}
use Rattle.rfc4180.specs.declared.ByteClass.{ByteClass}
use Rattle.rfc4180.specs.declared.ByteClass.TheVariants.{Text, Quote, Comma, CarriageReturn, LineFeed, Refused}

-- DQUOTE = %x22
abbrev pub quote : ℕ
quote = 0x22

-- COMMA = %x2_c
abbrev pub comma : ℕ
comma = 0x2C

-- CR = %x0_d
abbrev pub carriage_return : ℕ
carriage_return = 0x0D

-- LF = %x0_a
abbrev pub line_feed : ℕ
line_feed = 0x0A

-- %x_lOW-HIGH
unfoldable pub in_range : ℕ → ℕ → ℕ → Bool
in_range low high b = leb low b && leb b high

-- TEXTDATA = %x20-21 / %x23-2B / %x2D-7E (document 01: "Unquoted text is RFC 4180's TEXTDATA"), the four bytes with a name, and
-- Refused for every other byte
unfoldable pub class_of : ℕ → ByteClass
unfolding in_range
class_of b =
    cond (in_range 0x20 0x21 b || in_range 0x23 0x2B b || in_range 0x2D 0x7E b) Text
    (cond (eqb b quote) Quote
    (cond (eqb b comma) Comma
    (cond (eqb b carriage_return) CarriageReturn
    (cond (eqb b line_feed) LineFeed Refused))))
