-- A turn opens the next engine, or leaves it closed; past the capacities there is neither a member nor a capacity.
use Rattle.std.proofs.Common.{◌≡◌, List, ℕ, ◌+◌, ◌^◌, ◌≤◌, ◌<◌, ltb, length, sym, ◌∙◌, ⊎_elim, below_more, pow-suc, add-one, lt-ltb, le-ltb, arith}
use Rattle.std.proofs.Math.ListN.{get_or-eq_default}
use Rattle.planning.proofs.Laws.Finite.Decisions.{le-or-lt}
use Rattle.planning.specs.Tables.{at}
use Rattle.search.specs.Laws.FirstSet.{beyond}
use Rattle.search.specs.Laws.Sets.{shifted, has_with_same, has_with_other}
use Rattle.search.specs.Sets.{has, engine_bits}
use Rattle.search.proofs.start.open_engines.Goals as goal
use Rattle.search.proofs.start.open_engines.Goals.{then-capacity-ne0, else-capacity-ne0}

-- a set of engines below i has as members those with a capacity
abbrev Members : List ℕ → (set i : ℕ) → Type 0
Members capacities set i = (k : ℕ) → k < i → has set k ≡ ltb 0 (at capacities k)

-- a turn that opens engine i, and one that does not
opened : (capacities : List ℕ) (i before after : ℕ) → before < 2 ^ i → Members capacities before i
    → 0 < at capacities i → after ≡ before + 2 ^ i
    → (after < 2 ^ (i + 1)) × Members capacities after (i + 1)
opened capacities i before after l members some e =
    let free = beyond i before i l (omega arith) in
    rw e (
      rw (add-one i) (omega (arith, pow-suc 2 i)),
      below_more _ i (λ k s. has_with_other before i k free (λ q. omega arith) ∙ members k s)
          (has_with_same before i free ∙ sym (lt-ltb 0 (at capacities i) some)),
    )

passed : (capacities : List ℕ) (i before after : ℕ) → before < 2 ^ i → Members capacities before i
    → at capacities i ≡ 0 → after ≡ before
    → (after < 2 ^ (i + 1)) × Members capacities after (i + 1)
passed capacities i before after l members closed e =
    rw e (
      rw (add-one i) (omega (arith, pow-suc 2 i)),
      below_more _ i members (beyond i before i l (omega arith) ∙ sym (le-ltb 0 (at capacities i) (omega arith))),
    )

-- after the last turn: past the capacities there is neither a member nor a capacity
members_of : (capacities : List ℕ) (set : ℕ) → set < 2 ^ length capacities → Members capacities set (length capacities)
    → (i : ℕ) → has set i ≡ ltb 0 (at capacities i)
members_of capacities set l members i =
    ⊎_elim
    (λ (h : length capacities ≤ i).
    let none : at capacities i ≡ 0 = get_or-eq_default capacities 0 h in
    beyond (length capacities) set i l h ∙ sym (le-ltb 0 (at capacities i) (omega arith)))
    (λ (h : i < length capacities). members i h)
    (le-or-lt (length capacities) i)

pub loop-i-preserved : goal.loop-i-preserved
loop-i-preserved c =
    let shift = shifted engine_bits c.loop-i.i (omega arith) in
    let turn : (c.if-capacity-ne0.«open» < 2 ^ (c.loop-i.i + 1)) × Members c.args.capacities.now c.if-capacity-ne0.«open» (c.loop-i.i + 1) =
    elim c.if-capacity-ne0.branch [
      | then-capacity-ne0 w ↦
          opened c.args.capacities.now c.loop-i.i c.loop-i.«open» c.if-capacity-ne0.«open» c.loop-i.invariant.0 c.loop-i.invariant.1
          (omega (arith, w.if-capacity-ne0.true)) (w.open-is ∙ rw shift)
      | else-capacity-ne0 w ↦
          passed c.args.capacities.now c.loop-i.i c.loop-i.«open» c.if-capacity-ne0.«open» c.loop-i.invariant.0 c.loop-i.invariant.1
          w.if-capacity-ne0.false w.open-is
    ] in
    turn

pub returns : goal.returns
returns c = λ i.
    let all : c.loop-i.i ≡ length c.args.capacities.now = omega arith in
    members_of c.args.capacities.now c.loop-i.«open» (rw all at c.loop-i.invariant.0) (rw all at c.loop-i.invariant.1) i
