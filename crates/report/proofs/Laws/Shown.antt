-- How each byte is shown, and bytes from a place on. Assumes nothing.
use Rattle.std.specs.Prelude.{◌≡◌, ◌⊎◌, Bool, ◌&&◌, List, [], ◌∷◌, ◌++◌, ℕ, ◌+◌, ◌≤◌, ◌<◌, leb, length, drop, get_or, Some, None}
use Rattle.std.proofs.Math.Path.{refl}
use Rattle.std.proofs.Common.{inl, inr, drop_of_length-le}
use Rattle.std.proofs.Math.Bool.{true, false, cond}
use borrow.Author.Tests.{le-leb, lt-leb}
use Rattle.rfc4180.proofs.Laws.Places.{bytes-from}
use Rattle.rfc4180.specs.Text.{ascii}
use Rattle.lines.specs.Putting.{plain}
use Rattle.report.specs.Shown.{backslash, hex_escape, own_letter, escaped_by, escaped, closed_texts}

-- how a byte is shown, by the letter of its own escape
module _ (b : ℕ) where
  pub shown_own : {letter : ℕ} → Some letter ≡ own_letter b → escaped b ≡ backslash ∷ letter ∷ []
  unfolding escaped escaped_by
  shown_own is = rw (← is)

  module _ (is : None ≡ own_letter b) where
    pub shown_hex : (b < 0x20) ⊎ (0x7E < b) → escaped b ≡ hex_escape b
    unfolding escaped escaped_by
    shown_hex (inl low) = rw (← is, lt-leb 0x20 b low)
    shown_hex (inr high) = rw (← is, lt-leb b 0x7E high) (go (leb 0x20 b))
      where
        go : (t : Bool) → cond (t && false) (b ∷ []) (hex_escape b) ≡ hex_escape b
        go true = refl
        go false = refl

    pub shown_itself : 0x20 ≤ b → b ≤ 0x7E → escaped b ≡ b ∷ []
    unfolding escaped escaped_by
    shown_itself above below = rw (← is, le-leb 0x20 b above, le-leb b 0x7E below)

-- the texts of bytes from a place on
module _ (bytes : List ℕ) (i : ℕ) where
  pub texts-from : i < length bytes → closed_texts (drop i bytes) ≡ (plain (escaped (get_or bytes i 0)) ∷ []) ++ closed_texts (drop (i + 1) bytes)
  unfolding closed_texts
  texts-from h = rw (bytes-from bytes i h)

  pub texts-end : length bytes ≤ i → closed_texts (drop i bytes) ≡ plain (ascii "]") ∷ []
  unfolding closed_texts
  texts-end h = rw (drop_of_length-le bytes h)
