-- Bytes that a loop stores in an output one after the other, from a place on. Assumes nothing.
use Rattle.std.specs.Prelude.{◌≡◌, refl, ℕ, ◌+◌, ◌≤◌, ◌<◌, List, ◌∷◌, ◌++◌, length, take, drop, get_or, set}
use Rattle.std.proofs.Common.{◌∙◌, add_assoc, add-one, arith, append_assoc, length-set}
use Rattle.std.proofs.lemmas.List.Edits.{sets, sets-eq}
use Rattle.rfc4180.proofs.Laws.Places.{bytes-from}

-- the bytes that are still to be stored in an output: it is as long as the output lent at first, they fit, and with them it is what
-- storing all the bytes in that makes of it
pub record Ahead (bytes : List ℕ) (to : ℕ) (out lent : List ℕ) (at : ℕ) (all : List ℕ) : Type 0 where
  pub keeps : length out ≡ length lent
  pub fits : to + length bytes ≤ length out
  pub makes : sets out to bytes ≡ sets lent at all

pub all-ahead : (lent : List ℕ) (at : ℕ) (all : List ℕ) → at + length all ≤ length lent → Ahead all at lent lent at all
all-ahead lent at all room = record { keeps = refl; fits = room; makes = refl }

-- there is room for the next of them
pub place : {b : ℕ} {bytes out lent all : List ℕ} {to at : ℕ} → Ahead (b ∷ bytes) to out lent at all → to < length out
place left = omega (arith, left.fits)

pub place-lent : {b : ℕ} {bytes out lent all : List ℕ} {to at : ℕ} → Ahead (b ∷ bytes) to out lent at all → to < length lent
place-lent left = omega (arith, left.fits, left.keeps)

-- the next of them is stored
pub one_stored : {b : ℕ} {bytes out lent all : List ℕ} {to at : ℕ} → Ahead (b ∷ bytes) to out lent at all → Ahead bytes (to + 1) (set out to b) lent at all
one_stored {b} {bytes} {out} {lent} {all} {to} {at} left =
    record {
      keeps = length-set out to b ∙ left.keeps;
      fits = simp length-set (omega (arith, left.fits));
      makes = rw add-one left.makes;
    }

-- a turn of a loop stores the byte at its place
pub one_more : (bytes out lent : List ℕ) (at i : ℕ) → i < length bytes → Ahead (drop i bytes) (at + i) out lent at bytes
    → Ahead (drop (i + 1) bytes) (at + (i + 1)) (set out (at + i) (get_or bytes i 0)) lent at bytes
one_more bytes out lent at i h left = rw (← add_assoc at i 1) (one_stored (rw (bytes-from bytes i h) at left))

-- what storing some bytes makes of an output
pub laid : (bytes lent : List ℕ) (at : ℕ) → at + length bytes ≤ length lent
    → sets lent at bytes ≡ take at lent ++ (bytes ++ drop (at + length bytes) lent)
laid bytes lent at room = sets-eq bytes lent at room ∙ append_assoc (take at lent) bytes (drop (at + length bytes) lent)
