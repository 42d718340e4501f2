-- The lookup of a delivery's slot, by a pass over the closed engines: a slot in use is a closed engine's. For any number of slots.
-- Assumes nothing.
use Rattle.std.specs.Prelude.{◌≡◌, ◌⊎◌, true, false, List, ℕ, suc, ◌≤◌, ◌<◌}
use Rattle.std.proofs.Common.{sym, ◌∙◌, inl, inr, true≢false, arith}
use Rattle.std.proofs.lemmas.Bool.{not-false}
use Rattle.planning.proofs.Laws.Finite.Decisions.{le-or-lt, below_next}
use Rattle.planning.specs.Tables.{at}
use Rattle.search.specs.Layout.{holds}
use Rattle.search.specs.Laws.Layout.Slots.{holds-free}
use Rattle.search.specs.Laws.Passes.{Ahead, ahead-all, ahead_none, Next, next-taken}
use Rattle.search.specs.Laws.Sets.{has-below}
use Rattle.search.specs.Members.{IsLeast}
use Rattle.search.specs.Sets.{has, Others}

-- no slot that the pass has behind it holds delivery p, of so many slots
pub record NoneSoFar (width opened : ℕ) (served row : List ℕ) (p set : ℕ) : Type 0 where
  pub closed : ℕ
  pub others : Others width opened closed
  pub front : ℕ
  pub ahead : Ahead closed set front
  pub none : (k : ℕ) → k < front → holds served row k p ≡ false

pub none-start : {width opened closed : ℕ} {served row : List ℕ} {p : ℕ} → Others width opened closed → NoneSoFar width opened served row p closed
none-start {closed = closed} others =
    record { closed = closed; others = others; front = 0; ahead = ahead-all closed; none = λ k l. absurd (omega arith) }

-- where the slots of open engines are free
module _ {width opened : ℕ} {served row : List ℕ} {p set : ℕ} (free : (i : ℕ) → has opened i ≡ true → at served i ≡ 0)
    (sofar : NoneSoFar width opened served row p set) where
  -- the next closed engine
  next-closed : {k rest : ℕ} → IsLeast set k rest → Next sofar.closed set sofar.front k
  next-closed taken = next-taken sofar.ahead taken

  pub inside : {k rest : ℕ} → IsLeast set k rest → k < width
  inside {k} taken = has-below width sofar.closed k sofar.others.below (next-closed taken).member

  -- a slot that is no closed engine's holds no delivery
  passed_over : (k : ℕ) → k < width → has sofar.closed k ≡ false → holds served row k p ≡ false
  passed_over k l h = holds-free served row k p (free k (not-false (has opened k) (sym (sofar.others.is_other k l) ∙ h)))

  behind : (m : ℕ) → m ≤ width → ((k : ℕ) → sofar.front ≤ k → k < m → has sofar.closed k ≡ false) → (k : ℕ) → k < m → holds served row k p ≡ false
  behind m room between k l = go (le-or-lt sofar.front k)
    where
      go : (sofar.front ≤ k) ⊎ (k < sofar.front) → holds served row k p ≡ false
      go (inl s) = passed_over k (omega arith) (between k s l)
      go (inr s) = sofar.none k s

  pub none-next : {k rest : ℕ} → IsLeast set k rest → holds served row k p ≡ false → NoneSoFar width opened served row p rest
  none-next {k} taken here =
      let next = next-closed taken in
      record {
        closed = sofar.closed;
        others = sofar.others;
        front = suc k;
        ahead = rw taken.without next.ahead;
        none = below_next (λ k. holds served row k p ≡ false) k (behind k (omega (arith, inside taken)) next.between) here;
      }

  pub none_end : set ≡ 0 → (k : ℕ) → k < width → holds served row k p ≡ false
  none_end z = behind width (omega arith) (λ k s l. ahead_none sofar.closed sofar.front (rw z at sofar.ahead) k s)

  -- so a slot that holds it is found before
  pub found_before : (k : ℕ) → k < width → holds served row k p ≡ true → set ≡ 0 → ⊥
  found_before k l h z = true≢false (sym h ∙ none_end z k l)
