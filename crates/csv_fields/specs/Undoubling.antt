-- The bytes inside a field with each doubled quote once.
-- Assumes nothing.
use Rattle.std.specs.Prelude.{cond, List, [], ◌∷◌, ℕ, eqb}
use Rattle.rfc4180.specs.Bytes.{quote}

-- a quote stands for itself with the byte behind it, and every other byte alone
unfoldable pub undoubled : List ℕ → List ℕ
undoubled [] = []
undoubled (b ∷ []) = b ∷ []
undoubled (b ∷ c ∷ rest) = b ∷ cond (eqb b quote) (undoubled rest) (undoubled (c ∷ rest))
