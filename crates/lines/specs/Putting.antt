-- Texts put into an output one behind the other: what the functions that programs print by return and leave.
-- Assumes nothing.
use Rattle.std.specs.Prelude.{◌≡◌, Bool, true, false, cond, List, [], ◌∷◌, ◌++◌, ℕ, ◌+◌, ◌-◌, leb, length, take, drop, Result, Ok, Err, ⊤}
use Rattle.std.proofs.Math.Option.{Option, none, some}
use Rattle.rfc4180.specs.Writer.{written, writable}
use Rattle.planfile.specs.Numerals.{decimal}
use Rattle.lines.specs.declared.output.Output.{Output}
use Rattle.lines.specs.declared.WriteError.{WriteError}
use Rattle.lines.specs.declared.WriteError.TheVariants.{Refused, TooLong}

-- ---- texts

-- a text by its bytes; none where it cannot be written
abbrev pub Text : Type 0
Text = Option (List ℕ)

-- bytes as they are, a value as a field of RFC 4180, a number in base ten
abbrev pub plain : List ℕ → Text
plain bytes = some bytes

unfoldable pub field : (value : List ℕ) → Text
field value = cond (writable value) (some (written value)) none

abbrev pub number : ℕ → Text
number n = some (decimal n)

-- ---- outputs

-- what became of an output: whether every text was put, or why one was left out; the place of the next text; and the bytes that it holds
pub record State : Type 0 where
  pub wrote : Result ⊤ WriteError
  pub at : ℕ
  pub bytes : List ℕ

abbrev pub state : Result ⊤ WriteError → (at : ℕ) → (bytes : List ℕ) → State
state wrote at bytes = record { wrote = wrote; at = at; bytes = bytes }

-- an output that a call was lent, or has left with what it answered
abbrev pub left : Result ⊤ WriteError → Output → State
left wrote out = state wrote out.at out.bytes.now

-- some bytes in the place of those that stood from a place on
unfoldable pub put_at : (at : ℕ) → (bytes lent : List ℕ) → List ℕ
put_at at bytes lent = take at lent ++ (bytes ++ drop (at + length bytes) lent)

-- A text at the next place, where it fits: the place behind it is then the next. Where it cannot be written or does not fit, neither it
-- nor any later text is put.
unfoldable pub put_if : (fits : Bool) → (at : ℕ) → (bytes lent : List ℕ) → State
put_if true at bytes lent = state (Ok tt) (at + length bytes) (put_at at bytes lent)
put_if false at bytes lent = state (Err TooLong) at lent

unfoldable pub put_next : Text → Result ⊤ WriteError → (at : ℕ) → (lent : List ℕ) → State
put_next text (Err error) at lent = state (Err error) at lent
put_next none (Ok _) at lent = state (Err Refused) at lent
put_next (some bytes) (Ok _) at lent = put_if (leb (at + length bytes) (length lent)) at bytes lent

unfoldable pub put : Text → State → State
put text out = put_next text out.wrote out.at out.bytes

-- texts one behind the other
unfoldable pub put_all : List Text → State → State
put_all [] out = out
put_all (text ∷ texts) out = put_all texts (put text out)

-- ---- what the functions promise

-- the bytes from a place up to another
abbrev pub between : (from to : ℕ) → (bytes : List ℕ) → List ℕ
between from to bytes = take (to - from) (drop from bytes)

-- A function puts those texts: that is what it answers, and what the output then holds. It is the same reference still: what it holds is what
-- the bytes that it was made of hold.
pub record Puts (texts : List Text) (before : Output) (result : Result ⊤ WriteError) (after : Output) : Type 0 where
  pub all : left result after ≡ put_all texts (left (Ok tt) before)
  pub same : after.bytes.ghost_name ≡ before.bytes.ghost_name

-- And where they are written, what stands from the place before up to the place behind reads as it is meant.
pub record Writes (texts : List Text) (Reads : List ℕ → Type 0) (before : Output) (result : Result ⊤ WriteError) (after : Output) : Type 0 where
  pub puts : Puts texts before result after
  pub reads : result ≡ Ok tt → Reads (between before.at after.at after.bytes.now)
