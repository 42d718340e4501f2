-- Steps D and F side by side, each as document 01 has it and as the code asks for it: the engines that are tried, read off the numbers of a
-- state of the code, the piece, and the state after a try.
-- Assumes nothing.
use Rattle.std.specs.Prelude.{◌≡◌, ◌⊎◌, Bool, true, false, List, ℕ, ◌≤◌, ◌<◌, length}
use Rattle.std.proofs.Math.Path.{sym}
use Rattle.std.proofs.Common.{◌∙◌, inl, inr, arith, le-ltb}
use Rattle.std.proofs.Math.Bool.{false-and, and-false}
use Rattle.std.proofs.lemmas.Bool.{lt-leb}
use Rattle.std.proofs.Math.ListN.{get_or-eq_default}
use Rattle.planning.proofs.Laws.Finite.Decisions.{le-or-lt}
use Rattle.planning.proofs.Laws.Tables.{at_listed, length-listed}
use Rattle.planning.proofs.Laws.Search.Bound.{size-laying, size-cutting}
use Rattle.planning.proofs.Laws.Search.Steps.{lay_can, cut_can}
use Rattle.planning.specs.Search.{State as Document, Step, lays, cuts, can_lay, after_laying, can_cut, after_cutting, size}
use Rattle.planning.specs.Tables.{at}
use Rattle.search.specs.declared.state.Pick.{Pick}
use Rattle.search.specs.declared.state.State.{State}
use Rattle.search.specs.declared.Task.{Task}
use Rattle.search.specs.Laws.Layout.Picked.{rest_range}
use Rattle.search.specs.Laws.Layout.Remaining.{remaining_open, remaining-closed}
use Rattle.search.specs.Layout.{remaining_at, rest_of, state_of, document, Kept, Sized, Picked, Laid, CutOff, Room}
use Rattle.search.specs.Promises.{engines_of, deliveries_of}
use Rattle.search.specs.Sets.{has}

-- D or F
pub data Kind : Type 0 where
  laying : Kind
  cutting : Kind

-- the step, the engines that it tries, the piece on engine i, and the state after that try
abbrev pub step_for : Kind → (p : ℕ) → Step
step_for laying p = lays p
step_for cutting p = cuts p

abbrev pub tries : Kind → Document → (p i : ℕ) → Bool
tries laying s p i = can_lay s p i
tries cutting s p i = can_cut s p i

abbrev pub piece : Kind → Document → (p i : ℕ) → ℕ
piece laying s p i = at s.rest p
piece cutting s p i = at s.remaining i

abbrev pub after : Kind → Document → (p i : ℕ) → Document
after laying s p i = after_laying s p i
after cutting s p i = after_cutting s p i

-- the limit that it applies to; the code's test of an engine's amount, which holds or fails; the piece that the code writes; and what its
-- state after the try is
abbrev pub LimitFor : Kind → (limit : ℕ) → Type 0
LimitFor laying limit = limit ≡ 1
LimitFor cutting limit = 2 ≤ limit

abbrev pub Holds : Kind → (rest amount : ℕ) → Type 0
Holds laying rest amount = rest ≤ amount
Holds cutting rest amount = amount < rest

abbrev pub Fails : Kind → (rest amount : ℕ) → Type 0
Fails laying rest amount = amount < rest
Fails cutting rest amount = rest ≤ amount

abbrev pub writes : Kind → (rest amount : ℕ) → ℕ
writes laying rest amount = rest
writes cutting rest amount = amount

abbrev pub After : Kind → (energy limit : List ℕ) → State → (row i : ℕ) → State → Type 0
After laying energy limit s row i r = Laid energy limit s row i r
After cutting energy limit s row i r = CutOff energy limit s row i r

module _ (energy limit : List ℕ) (s : State) (row i : ℕ) (r : State) where
  pub after_kept : (kind : Kind) → After kind energy limit s row i r → Kept energy limit r
  after_kept laying a = a.kept
  after_kept cutting a = a.kept

  pub after-sized : (kind : Kind) → After kind energy limit s row i r → (engines deliveries : ℕ)
      → Sized engines deliveries s.left s.«open» → Sized engines deliveries r.left r.«open»
  after-sized laying a = a.sized
  after-sized cutting a = a.sized

  pub after-state : (kind : Kind) → After kind energy limit s row i r → (engines deliveries : ℕ)
      → Sized engines deliveries s.left s.«open»
      → state_of engines deliveries energy limit r ≡ after kind (state_of engines deliveries energy limit s) row i
  after-state laying a = a.state
  after-state cutting a = a.state

-- a delivery that is picked in a state of a search, with a table to write
pub record Held (task : Task) (s : State) (pick : Pick) (lent : List ℕ) : Type 0 where
  pub kept : Kept task.energies.now task.limits.now s
  pub sized : Sized (engines_of task) (deliveries_of task) s.left s.«open»
  pub picked : Picked task.energies.now s pick
  pub room : Room task (length lent)

module _ {task : Task} {s : State} {pick : Pick} {lent : List ℕ} (held : Held task s pick lent) where
  abbrev state : Document
  state = document task s

  -- what remains of an open engine is its amount, and of a closed one nothing
  open_amount : (i : ℕ) → has s.«open» i ≡ true → at state.remaining i ≡ at s.amount i
  unfolding state_of
  open_amount i h =
      at_listed (engines_of task) (λ k. remaining_at s.«open» s.amount k) i (held.sized.engine_set i h)
      ∙ remaining_open s.«open» s.amount i h

  closed-amount : (i : ℕ) → has s.«open» i ≡ false → at state.remaining i ≡ 0
  unfolding state_of
  closed-amount i h = go (le-or-lt (engines_of task) i)
    where
      go : (engines_of task ≤ i) ⊎ (i < engines_of task) → at state.remaining i ≡ 0
      go (inl l) = get_or-eq_default state.remaining 0 (rw (length-listed (engines_of task) (λ k. remaining_at s.«open» s.amount k)) l)
      go (inr l) =
          at_listed (engines_of task) (λ k. remaining_at s.«open» s.amount k) i l ∙ remaining-closed s.«open» s.amount i h

  picked-rest : at state.rest pick.row ≡ pick.rest
  unfolding state_of
  picked-rest =
      at_listed (deliveries_of task) (λ p. rest_of task.energies.now s p) pick.row (held.sized.delivery_set pick.row held.picked.is_left)
      ∙ sym held.picked.is_rest

  -- the step tries an engine exactly where it is open and the code's test holds
  pub tried : (kind : Kind) (i : ℕ) → has s.«open» i ≡ true → Holds kind pick.rest (at s.amount i) → tries kind state pick.row i ≡ true
  tried laying i h l = lay_can state pick.row i (omega (arith, open_amount i h, picked-rest, (held.kept.engines.remains i h).least))
  tried cutting i h l = cut_can state pick.row i (omega (arith, open_amount i h, picked-rest, (held.kept.engines.remains i h).least))

  pub not-tried : (kind : Kind) (i : ℕ) → has s.«open» i ≡ true → Fails kind pick.rest (at s.amount i) → tries kind state pick.row i ≡ false
  unfolding can_lay can_cut
  not-tried laying i h l =
      rw (lt-leb (at state.rest pick.row) (at state.remaining i) (omega (arith, open_amount i h, picked-rest)), and-false)
  not-tried cutting i h l =
      rw (le-ltb (at state.remaining i) (at state.rest pick.row) (omega (arith, open_amount i h, picked-rest)), and-false)

  pub closed : (kind : Kind) (i : ℕ) → has s.«open» i ≡ false → tries kind state pick.row i ≡ false
  unfolding can_lay can_cut
  closed laying i h = rw (le-ltb 0 (at state.remaining i) (omega (arith, closed-amount i h)), false-and)
  closed cutting i h = rw (le-ltb 0 (at state.remaining i) (omega (arith, closed-amount i h)), false-and)

  -- the piece is the one that the code writes
  pub written-piece : (kind : Kind) (i : ℕ) → has s.«open» i ≡ true → piece kind state pick.row i ≡ writes kind pick.rest (at s.amount i)
  written-piece laying i h = picked-rest
  written-piece cutting i h = open_amount i h

  -- a try lowers the size
  pub smaller : (kind : Kind) (i : ℕ) → tries kind state pick.row i ≡ true → size (after kind state pick.row i) < size state
  smaller laying i e =
      size-laying state pick.row i
      (omega (arith, picked-rest, (rest_range held.kept held.picked).least)) e
  smaller cutting i e = size-cutting state pick.row i e
