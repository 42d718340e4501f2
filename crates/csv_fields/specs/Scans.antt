-- What a scan of text passes, and where it stops.
-- Assumes nothing.
use Rattle.std.specs.Prelude.{◌≡◌, Bool, true, false, List, ℕ, ◌≤◌, ◌<◌, length, get_or}
use Rattle.rfc4180.specs.declared.ByteClass.{ByteClass}
use Rattle.rfc4180.specs.declared.ByteClass.TheVariants.{Text, Quote, Comma, CarriageReturn, LineFeed, Refused}
use Rattle.rfc4180.specs.Bytes.{class_of}

-- the bytes that a scan passes, by their class: text and, inside quotes, commas
unfoldable pub is_plain : (quoted : Bool) → ByteClass → Bool
is_plain quoted Text = true
is_plain quoted Quote = false
is_plain quoted Comma = quoted
is_plain quoted CarriageReturn = false
is_plain quoted LineFeed = false
is_plain quoted Refused = false

-- between two places all bytes are plain
abbrev pub Passed : (bytes : List ℕ) → (quoted : Bool) → (from to : ℕ) → Type 0
Passed bytes quoted from to = (i : ℕ) → from ≤ i → i < to → (i < length bytes) × (is_plain quoted (class_of (get_or bytes i 0)) ≡ true)

-- the first place from a place on, before an end, whose byte is not plain, or that end
pub record Found (bytes : List ℕ) (quoted : Bool) (from end r : ℕ) : Type 0 where
  pub behind : from ≤ r
  pub passed : Passed bytes quoted from r
  pub stops : r < end → is_plain quoted (class_of (get_or bytes r 0)) ≡ false
