-- The closed engines are of the arrays' own, so their slots can be looked at; a slot in use is a closed engine's, and a delivery that is
-- begun has one, so the search for it does not end without it.
use Rattle.std.proofs.Common.{rules, ◌≡◌, true, false, Bool, List, [], ◌∷◌, ℕ, ◌<◌, sym, ◌∙◌, subst, arith, Option, Some, None}
use Rattle.std.specs.List.{FoldsTo}
use Rattle.std.specs.Fn.{CalledAt}
use Rattle.std.specs.Iterator.{Yields, FindsItem}
use denote.Param.Members.{Mut}
use denote.Bor.{Bor}
use Rattle.planning.specs.Bounds.{most_engines}
use Rattle.planning.specs.Tables.{at}
use Rattle.search.specs.declared.members.Members.{Members}
use Rattle.search.specs.Laws.Layout.Deliveries.{left-inside}
use Rattle.search.specs.Laws.Layout.Lookup.{NoneSoFar, none-start, none-next, found_before}
use Rattle.search.specs.Laws.Layout.Serving.{open_below}
use Rattle.search.specs.Laws.Layout.Slots.{holds-inside}
use Rattle.search.specs.Laws.Passes.{Ahead, ahead-all, ahead_after, next-taken}
use Rattle.search.specs.Laws.Sets.{has-below}
use Rattle.search.specs.Layout.{holds, SlotOf}
use Rattle.search.specs.Members.{TakesLeast}
use Rattle.search.specs.Sets.{has}
use Rattle.search.proofs.view.View.slot_of.Goals as goal

-- the first slot of a pass that holds the delivery, where a call tells whether one does
module _ {F : Type 0} (g : Mut F (Bor ℕ × Unit {0}) Bool) (f : F) {width opened : ℕ} {served row : List ℕ} {p : ℕ}
    (free : (i : ℕ) → has opened i ≡ true → at served i ≡ 0)
    (reads : (k : ℕ) (b : Bool) (h : F) → CalledAt g f k b h → (h ≡ f) × (b ≡ holds served row k p)) where
  goes : (xs : List ℕ) (s t : Members) (h : F) → NoneSoFar width opened served row p s.0 → Yields TakesLeast s xs t
      → FoldsTo (λ e x q. CalledAt g e x false q) f xs h → (h ≡ f) × NoneSoFar width opened served row p t.0
  goes [] s t h sofar e d = (sym d, rw (← e) sofar)
  goes (x ∷ xs) s t h sofar (u, taken, rest) (q, called, later) =
      let read = reads x false q called in
      goes xs u t h (none-next free sofar taken (sym read.1)) rest (subst (λ (e : F). FoldsTo (λ e x q. CalledAt g e x false q) e xs h) read.0 later)

  module _ (untouched : ℕ) (begun : has untouched p ≡ false) (slot : ℕ) (room : slot < width) (own : holds served row slot p ≡ true) where
    finds : (s u : Members) (r : Option ℕ) → NoneSoFar width opened served row p s.0 → FindsItem TakesLeast g s f r u
        → SlotOf untouched served row p r
    finds s u None sofar (xs, h, (t, yields, none), folds, found) =
        absurd (found_before free (goes xs s t h sofar yields folds).1 slot room own none)
    finds s u (Some k) sofar (xs, h, (t, yields, taken), folds, (q, called)) =
        let same = (goes xs s t h sofar yields folds).0 in
        let read = reads k true q (subst (λ (e : F). CalledAt g e k true q) same called) in
        record { fresh = λ e. cc; begun = λ j e. let is : k ≡ j = cc e in (begun, rw (← is) (sym read.1)) }

pub has-requires : goal.has-requires
has-requires c =
    let kept = c.args.self.now.kept in omega (arith, left-inside kept.deliveries c.args.p c.requires, kept.lengths.energies)

pub returns-then-has : goal.returns-then-has
returns-then-has c = record { fresh = λ e. sym c.has.ensures ∙ c.if-has.true; begun = λ k e. cc }

pub closed-requires : goal.closed-requires
closed-requires c =
    let kept = c.args.self.now.kept in open_below kept.engines most_engines (omega (arith, kept.lengths.amounts))

pub find-requires-clause-callable : goal.find-requires-clause-callable
find-requires-clause-callable c =
    record {
      at = λ xs t q k u before folds taken.
          let start : Ahead c.closed.result c.from.result 0 = rw c.from.ensures (ahead-all _) in
          let member = (next-taken (ahead_after {n = 0} xs _ t start before).1 taken).member in
          let inside : k < most_engines = has-below most_engines c.closed.result k c.closed.ensures.below member in
          λ y e. search (rules, inside);
    }

pub returns : goal.returns
returns c =
    let kept = c.args.self.now.kept in
    let begun = sym c.has.ensures ∙ c.if-has.false in
    let own = kept.deliveries.slotted c.args.p c.requires begun in
    let room : own.0 < most_engines = omega (arith, holds-inside _ _ own.0 c.args.p own.1, kept.deliveries.serveds, kept.lengths.amounts) in
    finds _ _ kept.engines.free (λ k b h called. search rules) _ begun own.0 room own.1 _ _ c.find.result
    (rw c.from.ensures (none-start c.closed.ensures)) c.find.ensures.ran
