-- A plan by value answered: planned on the fronts of the tables lent, which are the plan's own lengths, and printed where the print fits into the output.
-- Assumes nothing.
use Rattle.std.specs.Prelude.{◌≡◌, List, ℕ, ◌*◌, leb, length, Result}
use Rattle.planning.specs.declared.Answer.{Answer}
use Rattle.planning.specs.declared.Fault.TheVariants.{Space}
use Rattle.planning.specs.Modes.{planned, answer_of, table_after, spares_after}
use Rattle.planning.specs.Tables.{over_front}
use Rattle.planning.specs.declared.Refusal.{Refusal}
use Rattle.planfile.specs.FileCall.{answer_by, on_exit, printed}
use Rattle.planfile.specs.FilePlan.{FilePlan, unnamed}
use Rattle.planfile.specs.Reading.{Read, accepted, require, ◌>>=◌}
use Rattle.planreader.specs.declared.FilePlan.{FilePlan as ByValue}
use Rattle.planreader.specs.Plans.{plan_by, UsablePlan}

-- the answer to a plan, with what is left in tables of the plan's own lengths, which held something before
pub record Answers (p : ByValue) (answer' : Answer) (own_table own_spare pieces spares : List ℕ) : Type 0 where
  pub usable : UsablePlan p
  pub answer : answer' ≡ answer_of (planned (unnamed (plan_by p)))
  pub cells : length own_table ≡ p.deliveries.count * p.engines.count
  pub table : pieces ≡ table_after (unnamed (plan_by p)) own_table
  pub count : length own_spare ≡ p.engines.count
  pub spare : spares ≡ spares_after (unnamed (plan_by p)) own_spare

-- what a call with a file returns: the answer with the print's length, or a refusal
abbrev pub Returned : Type 0
Returned = Result (Answer × ℕ) Refusal

-- 9 for "output longer than the lent space"
unfoldable pub with_space : FilePlan → (output : List ℕ) → Read FilePlan
with_space f output = do
  _ ← require (leb (length (printed f)) (length output)) Space 0
  accepted f

-- the lists that are lent to a call with a file
pub record Lent : Type 0 where
  pub table : List ℕ
  pub spare : List ℕ
  pub output : List ℕ

abbrev pub lent_lists : (table spare output : List ℕ) → Lent
lent_lists table spare output = record { table = table; spare = spare; output = output }

-- what is returned of a plan, and what the lent lists hold then
pub record HandedOver (f : FilePlan) (r : Returned) (before after : Lent) : Type 0 where
  pub result : r ≡ answer_by (with_space f before.output)
  pub table : after.table ≡ on_exit (with_space f before.output) before.table (λ f. table_after (unnamed f) before.table)
  pub spare : after.spare ≡ on_exit (with_space f before.output) before.spare (λ f. spares_after (unnamed f) before.spare)
  pub output : after.output ≡ on_exit (with_space f before.output) before.output (λ f. over_front (printed f) before.output)
