-- Bytes from a place on. Assumes nothing.
use Rattle.std.specs.Prelude.{◌≡◌, ℕ, ◌+◌, ◌<◌, List, ◌∷◌, length, drop, get_or}
use Rattle.std.proofs.Common.{add-one, drop-cons}

-- the bytes from a place on: the byte there, and those behind it
pub bytes-from : (bytes : List ℕ) (at : ℕ) → at < length bytes → drop at bytes ≡ get_or bytes at 0 ∷ drop (at + 1) bytes
bytes-from bytes at h = rw add-one (drop-cons bytes at 0 h)
