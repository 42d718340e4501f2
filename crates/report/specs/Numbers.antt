-- Lists of numbers as the test programs print them, and compared with one number.
-- Assumes nothing.
use Rattle.std.specs.Prelude.{Bool, false, cond, List, [], ◌∷◌, ◌++◌, ℕ, suc, not, ◌==◌, eqb, leb, count_by}
use Rattle.rfc4180.specs.Text.{ascii}
use Rattle.lines.specs.Putting.{Text, plain, number}

-- whether a list begins with a number
unfoldable pub starts_with : (n : ℕ) → (list : List ℕ) → Bool
starts_with n [] = false
starts_with n (m ∷ list) = eqb n m

-- a number that stands some times in a row: behind a space, and with the times where they are more than one
unfoldable pub run_texts : (n times : ℕ) → List Text
unfolding ascii
run_texts n times = plain (ascii " ") ∷ number n ∷ cond (leb times 1) [] (plain (ascii "*") ∷ number times ∷ [])

-- the runs of a list, of which the first began so many places before it
unfoldable pub texts_behind : (passed : ℕ) → (list : List ℕ) → List Text
texts_behind passed [] = []
texts_behind passed (n ∷ list) =
    cond (starts_with n list) (texts_behind (suc passed) list) (run_texts n (suc passed) ++ texts_behind 0 list)

-- the numbers of a list, run by run
unfoldable pub number_texts : (list : List ℕ) → List Text
number_texts list = texts_behind 0 list

-- how many numbers of a list are other than one
abbrev pub other_count : (n : ℕ) → (list : List ℕ) → ℕ
other_count n list = count_by (λ m. not (m == n)) list
