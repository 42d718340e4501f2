-- What a search, the bisection and a plan's answer are as the code returns them, with the table that each leaves.
-- Assumes nothing.
use Rattle.std.specs.Prelude.{◌≡◌, List, ℕ}
use Rattle.planning.specs.declared.Answer.{Answer}
use Rattle.planning.specs.declared.Outcome.TheVariants.{Found}
use Rattle.planning.specs.Modes.{Planned, answer_of}
use Rattle.planning.specs.Search.{Result, found}
use Rattle.search.specs.declared.Ended.{Ended}
use Rattle.allocation.specs.declared.accepted.Accepted.{Accepted}
use Rattle.search.specs.Promises.{ended_of, written}

-- the plan is the same, and so is the list that is lent for its table
abbrev pub Kept : (before after : Accepted) → Type 0
Kept before after = (after.plan ≡ before.plan) × (after.table.ghost_name ≡ before.table.ghost_name)

-- a search ends in that result; `left` is what the lent table then holds
pub record Ends (result : Result) (lent : List ℕ) (r : Ended) (left : List ℕ) : Type 0 where
  pub ended : r ≡ ended_of result
  pub table : left ≡ written result lent

-- it ends in found, with that table
pub record Finds (came : Result) (r : Ended) (table : List ℕ) : Type 0 where
  pub outcome : r.outcome ≡ Found
  pub result : came ≡ found r.tries table

-- how it ended, with its minutes
abbrev pub answered : Ended → (minutes : ℕ) → Answer
answered e minutes = record { outcome = e.outcome; minutes = minutes; tries = e.tries }

-- that is answered, with the table of the search answered
pub record Answers (a : Planned) (lent : List ℕ) (r : Answer) (left : List ℕ) : Type 0 where
  pub answer : r ≡ answer_of a
  pub table : left ≡ written a.result lent

-- that is answered; only where it is found the table is that of the search answered, whatever was lent
pub record AnswersFound (a : Planned) (r : Answer) (left : List ℕ) : Type 0 where
  pub answer : r ≡ answer_of a
  pub table : r.outcome ≡ Found → (lent : List ℕ) → left ≡ written a.result lent
