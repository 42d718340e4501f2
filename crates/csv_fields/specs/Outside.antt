-- Where a byte stands outside quotes. Document 01: "Outside quotes means after an even number of quote bytes."
-- Assumes nothing.
use Rattle.std.specs.Prelude.{◌≡◌, Bool, true, cond, ◌&&◌, List, [], ◌∷◌, ℕ, suc, ◌+◌, ◌<◌, eqb, length, drop, get_or}
use Rattle.rfc4180.specs.Records.{outside_after}

-- how many bytes stand before the first b outside quotes, all where there is none
unfoldable pub ahead : (b : ℕ) → (outside : Bool) → List ℕ → ℕ
unfolding outside_after
ahead b outside [] = 0
ahead b outside (x ∷ rest) = cond (outside && eqb x b) 0 (suc (ahead b (outside_after outside x) rest))

-- the first place from a place outside quotes on that holds a byte outside quotes, or the end
pub record FoundOutside (bytes : List ℕ) (from b r : ℕ) : Type 0 where
  pub place : r ≡ from + ahead b true (drop from bytes)
  pub stops : r < length bytes → get_or bytes r 0 ≡ b
