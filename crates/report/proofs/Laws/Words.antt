-- Words with numbers among them, byte by byte. Assumes nothing.
use Rattle.std.specs.Prelude.{◌≡◌, ℕ, ◌+◌, ◌≤◌, ◌<◌, drop, get_or}
use mathlib.Core.List.{List, [], ◌∷◌, ◌++◌}
use Rattle.std.proofs.Math.Numerals.{add-one}
use Rattle.std.proofs.Common.{drop_of_length-le, eq-eqb}
use borrow.Author.Tests.{ne_eqb}
use Rattle.std.proofs.Math.ListN.{length}
use Rattle.std.proofs.Math.Seq.{drop-cons}
use Rattle.lines.specs.Putting.{plain, number}
use Rattle.report.specs.Words.{number_sign, word_texts}

-- the words from a place on
module _ (words : List ℕ) (i : ℕ) where
  pub words_end : (numbers : List ℕ) → length words ≤ i → word_texts (drop i words) numbers ≡ []
  unfolding word_texts
  words_end numbers past = rw (drop_of_length-le words {i = i} past)

  module _ (inside : i < length words) where
    -- a number in the place of its sign
    pub word_number : (n : ℕ) (numbers : List ℕ) → get_or words i 0 ≡ number_sign
        → word_texts (drop i words) (n ∷ numbers) ≡ (number n ∷ []) ++ word_texts (drop (i + 1) words) numbers
    unfolding word_texts
    word_number n numbers e = rw (drop-cons words i 0 inside, eq-eqb (get_or words i 0) number_sign e, add-one i)

    -- any other byte, and a sign for which no number is left
    pub word_byte : (numbers : List ℕ) → (get_or words i 0 ≡ number_sign → numbers ≡ [])
        → word_texts (drop i words) numbers ≡ (plain (get_or words i 0 ∷ []) ∷ []) ++ word_texts (drop (i + 1) words) numbers
    unfolding word_texts
    word_byte [] other = rw (drop-cons words i 0 inside, add-one i)
    word_byte (n ∷ numbers) other =
        let not_sign : get_or words i 0 ≡ number_sign → ⊥ = λ e. let none = other e in cc in
        rw (drop-cons words i 0 inside, ne_eqb (get_or words i 0) number_sign not_sign, add-one i)
