-- Modes, answers and refusals as the test programs print them.
-- Assumes nothing.
use Rattle.std.specs.Prelude.{List, [], ◌∷◌, ℕ, Result, Ok, Err, codes}
use Rattle.rfc4180.specs.Text.{ascii}
use Rattle.lines.specs.Putting.{Text}
use Rattle.planning.specs.declared.Answer.{Answer}
use Rattle.planning.specs.declared.Mode.{Mode}
use Rattle.planning.specs.declared.Mode.TheVariants.{Fixed, Shortest}
use Rattle.planning.specs.declared.Outcome.{Outcome}
use Rattle.planning.specs.declared.Outcome.TheVariants.{Found, None, Stopped}
use Rattle.planning.specs.declared.Refusal.{Refusal}
use Rattle.planning.specs.Refusals.{fault_number}
use Rattle.report.specs.Words.{word_texts}

-- a mode as a plan file names it
unfoldable pub mode_name : Mode → List ℕ
unfolding ascii
mode_name Fixed = ascii "fixed"
mode_name Shortest = ascii "shortest"

-- an answer, and a `#` for its minutes and for its tries
unfoldable pub answer_words : Outcome → List ℕ
unfolding ascii
answer_words Found = ascii "found # #"
answer_words None = ascii "none # #"
answer_words Stopped = ascii "stopped # #"

-- an answer with its minutes and its tries, or a refusal by its fault's number and its place
unfoldable pub answer_texts : Result Answer Refusal → List Text
answer_texts (Ok answer) = word_texts (answer_words answer.outcome) (answer.minutes ∷ answer.tries ∷ [])
answer_texts (Err refusal) = word_texts (codes "refused # #") (fault_number refusal.fault ∷ refusal.place ∷ [])
