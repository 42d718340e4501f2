-- What a state of a search keeps has one proof at most, so a view can carry it: a delivery has no second slot.
-- Assumes nothing.
use Rattle.std.specs.Prelude.{◌≡◌, true, List, ℕ, ◌<◌}
use Rattle.std.proofs.Common.{sym, ◌∙◌}
use Rattle.std.proofs.Props.{props}
use mathlib.Core.HLevel.{Σ_prop_path}
use Rattle.planning.specs.Tables.{at}
use Rattle.search.specs.declared.state.State.{State}
use Rattle.search.specs.Laws.Layout.Slots.{holds-used, holds_row}
use Rattle.search.specs.Layout.{holds, Kept}

slot-prop : (served row : List ℕ) (p : ℕ) → ((k l : ℕ) → 0 < at served k → 0 < at served l → at row k ≡ at row l → k ≡ l)
    → IsProp ((k : ℕ) × (holds served row k p ≡ true))
slot-prop served row p alone a b =
    Σ_prop_path (λ k. hlevel props)
    (alone a.0 b.0 (holds-used served row a.0 p a.1) (holds-used served row b.0 p b.1)
    (holds_row served row a.0 p a.1 ∙ sym (holds_row served row b.0 p b.1)))

pub kept-prop : (energy limit : List ℕ) (s : State) → IsProp (Kept energy limit s)
kept-prop energy limit s = hlevel (props, slot-prop s.served s.row)
