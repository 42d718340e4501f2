-- Lines as the texts that a program puts: each value as a field with its comma behind it, the last one with CR LF.
-- Assumes nothing.
use Rattle.std.specs.Prelude.{List, [], ◌∷◌, ◌++◌, ℕ, Result, ⊤}
use Rattle.rfc4180.specs.Bytes.{comma, carriage_return, line_feed}
use Rattle.lines.specs.declared.output.Output.{Output}
use Rattle.lines.specs.declared.WriteError.{WriteError}
use Rattle.lines.specs.Putting.{Text, plain, field, Puts}

-- what ends a field: a comma, or the end of its line
abbrev pub next_field : Text
next_field = plain (comma ∷ [])

abbrev pub line_end : Text
line_end = plain (carriage_return ∷ line_feed ∷ [])

-- a line by the values of its fields, and lines one behind the other
unfoldable pub line_texts : List (List ℕ) → List Text
line_texts [] = line_end ∷ []
line_texts (value ∷ []) = field value ∷ line_end ∷ []
line_texts (value ∷ next ∷ values) = field value ∷ next_field ∷ line_texts (next ∷ values)

unfoldable pub file_texts : List (List (List ℕ)) → List Text
unfolding line_texts
file_texts [] = []
file_texts (values ∷ records) = line_texts values ++ file_texts records

-- lines put into an output
pub record PutLines (lines : List (List (List ℕ))) (before : Output) (result : Result ⊤ WriteError) (after : Output) : Type 0 where
  pub texts : Puts (file_texts lines) before result after
