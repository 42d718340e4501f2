-- What the exported functions return: an answer or a refusal as a struct of numbers.
-- Assumes nothing.
use Rattle.std.specs.Prelude.{◌≡◌, ℕ, ◌≤◌, ◌<◌, List, Result, Ok, Err, Some, None}
use Rattle.planning.specs.declared.Answer.{Answer}
use Rattle.planning.specs.declared.Outcome.{Outcome}
use Rattle.planning.specs.declared.Outcome.TheVariants as outcome
use Rattle.planning.specs.declared.Refusal.{Refusal}
use Rattle.planning.specs.Refusals.{fault_number}
use Rattle.planning.specs.Numbers.{Call}
use Rattle.planning.specs.Lookup.{Lookup}
use Rattle.planning.specs.Promises.{Promised}
use Rattle.planning.specs.SpareLookup.{LookedUp}
use Rattle.planfile.specs.FileCall.{FileCall}
use Rattle.planfile.specs.Promises.{FilePromised}
use Rattle.export.specs.declared.PlanReply.{PlanReply}
use Rattle.export.specs.declared.LookupReply.{LookupReply}
use Rattle.export.specs.Numbers.{allocation_by, table_by, spare_by}

-- 0 found, 1 none, 2 stopped; 3 is a refusal's
unfoldable pub word_of : Outcome → ℕ
word_of outcome.Found = 0
word_of outcome.None = 1
word_of outcome.Stopped = 2

-- an answer with its minutes, its tries and the length of its print
unfoldable pub answered_by : Answer → (n : ℕ) → PlanReply
answered_by a n = record { word = word_of a.outcome; minutes = a.minutes; tries = a.tries; length = n; number = 0; place = 0 }

-- a refusal with its number and place
unfoldable pub refused_by : Refusal → PlanReply
refused_by refusal =
    record { word = 3; minutes = 0; tries = 0; length = 0; number = fault_number refusal.fault; place = refusal.place }

-- the allocation on numbers prints nothing
unfoldable pub reply_of : Result Answer Refusal → PlanReply
reply_of (Ok a) = answered_by a 0
reply_of (Err refusal) = refused_by refusal

unfoldable pub file_reply_of : Result (Answer × ℕ) Refusal → PlanReply
file_reply_of (Ok printed) = answered_by printed.0 printed.1
file_reply_of (Err refusal) = refused_by refusal

-- an engine counted from 0; 1 for none; 3 for a refusal with its number and place
unfoldable pub lookup_reply_of : Lookup → LookupReply
lookup_reply_of (Ok (Some i)) = record { word = 0; engine = i; number = 0; place = 0 }
lookup_reply_of (Ok None) = record { word = 1; engine = 0; number = 0; place = 0 }
lookup_reply_of (Err refusal) =
    record { word = 3; engine = 0; number = fault_number refusal.fault; place = refusal.place }

-- ---- the contracts

-- The allocation on numbers with the mode as a number: the reply is that of an answer. `table'` and `spare'` are what the lent lists hold on
-- exit.
pub record Replied (mode : ℕ) (call : Call) (r : PlanReply) (table' spare' : List ℕ) : Type 0 where
  pub answer : Result Answer Refusal
  pub reply : r ≡ reply_of answer
  -- what is answered, and what the lent lists hold, are what the definitions say
  pub result : answer ≡ allocation_by mode call
  pub table : table' ≡ table_by mode call
  pub spare : spare' ≡ spare_by mode call
  -- with a mode the answer has all that the allocation on numbers promises (planning, Promises)
  pub promised : mode ≤ 1 → Promised call answer table' spare'
  -- without one the call is turned down, and nothing lent is changed
  pub turned_down : 1 < mode → ((refusal : Refusal) × (answer ≡ Err refusal)) × (table' ≡ call.table) × (spare' ≡ call.spare)

-- The call with a file: the reply is that of an answer with all that the call promises (planfile, Promises).
pub record FileReplied (call : FileCall) (r : PlanReply) (table spare output : List ℕ) : Type 0 where
  pub answer : Result (Answer × ℕ) Refusal
  pub reply : r ≡ file_reply_of answer
  pub promised : FilePromised call answer table spare output

-- The spare lookup: the reply is that of an answer with all that the lookup promises (planning, SpareLookup). The engine is the program's choice.
pub record LookupReplied (spare : List ℕ) (amount : ℕ) (r : LookupReply) : Type 0 where
  pub answer : Lookup
  pub reply : r ≡ lookup_reply_of answer
  pub looked_up : LookedUp spare amount answer
