-- Words with numbers among them.
-- Assumes nothing.
use Rattle.std.specs.Prelude.{cond, List, [], ◌∷◌, ℕ, eqb}
use Rattle.lines.specs.Putting.{Text, plain, number}

-- the byte that stands for a number
abbrev pub number_sign : ℕ
number_sign = 0x23

-- words, with the next number in the place of each `#` for as long as there are numbers
unfoldable pub word_texts : (words : List ℕ) → (numbers : List ℕ) → List Text
word_texts [] numbers = []
word_texts (b ∷ words) [] = plain (b ∷ []) ∷ word_texts words []
word_texts (b ∷ words) (n ∷ numbers) =
    cond (eqb b number_sign) (number n ∷ word_texts words numbers) (plain (b ∷ []) ∷ word_texts words (n ∷ numbers))
