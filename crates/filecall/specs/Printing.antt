-- What the functions of the print put into an output: the lines of planfile's Print, by names and pieces.
-- Assumes nothing.
use Rattle.std.specs.Prelude.{List, [], ◌∷◌, ℕ, length}
use Rattle.planning.specs.declared.Answer.{Answer}
use Rattle.planning.specs.declared.Outcome.{Outcome}
use Rattle.planning.specs.declared.Outcome.TheVariants.{Found, None, Stopped}
use Rattle.planning.specs.Tables.{piece_in}
use Rattle.planfile.specs.Print.{Line, piece_lines, answer_line}

-- the lines behind line 1: "Others print one line"
unfoldable pub lines_behind : Outcome → (deliveries engines : List (List ℕ)) → (pieces : List ℕ) → List Line
lines_behind Found deliveries engines pieces = piece_lines deliveries engines (piece_in (length engines) pieces)
lines_behind None deliveries engines pieces = []
lines_behind Stopped deliveries engines pieces = []

-- the lines of a print
unfoldable pub print_lines : Answer → (deliveries engines : List (List ℕ)) → (pieces : List ℕ) → List Line
print_lines answer deliveries engines pieces =
    let lines = lines_behind answer.outcome deliveries engines pieces in
    answer_line answer.outcome answer.minutes answer.tries (length lines) ∷ lines
