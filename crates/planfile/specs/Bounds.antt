-- The bounds of document 01 that only a file has.
-- Assumes nothing.
use Rattle.std.specs.Prelude.{ℕ}

-- "file empty or above 32,768 bytes" is turned down
abbrev pub most_bytes : ℕ
most_bytes = 32_768

-- "A name has 1 to 16 bytes, each hex 20 to 7E"
abbrev pub most_name_bytes : ℕ
most_name_bytes = 16

abbrev pub least_name_byte : ℕ
least_name_byte = 0x20

abbrev pub most_name_byte : ℕ
most_name_byte = 0x7E
