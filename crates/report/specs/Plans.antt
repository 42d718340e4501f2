-- The lists of a plan as the test programs print them.
-- Assumes nothing.
use Rattle.std.specs.Prelude.{List, ◌∷◌, ◌++◌, ℕ, codes}
use Rattle.lines.specs.Putting.{Text, plain}
use Rattle.planning.specs.declared.PlanLists.{PlanLists}
use Rattle.report.specs.Numbers.{number_texts}

-- a list behind its name
abbrev pub named : (name list : List ℕ) → List Text
named name list = plain name ∷ number_texts list

-- each list behind its name, with a mark between them
unfoldable pub plan_texts : PlanLists → (mark : List ℕ) → List Text
plan_texts plan mark =
    named (codes "watts") plan.watts.now
    ++ ((plain mark ∷ named (codes "fuels") plan.fuels.now)
    ++ ((plain mark ∷ named (codes "energies") plan.energies.now)
    ++ ((plain mark ∷ named (codes "limits") plan.limits.now)
    ++ (plain mark ∷ named (codes "quiet") plan.quiet.now))))
