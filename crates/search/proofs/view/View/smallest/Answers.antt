-- A pass over the open engines, each of which is one of the arrays' own and has something remaining: the least of their amounts is the
-- smallest remaining, and where there are none it is 0.
use Rattle.std.proofs.Common.{rules, ◌≡◌, refl, true, List, ℕ, [], ◌∷◌, ◌≤◌, ◌<◌, min, sym, ◌∙◌, arith}
use Rattle.std.proofs.Common.{inl, Option, Some, None, unwrap_or, Ordering, Less, Equal, Greater}
use Rattle.std.specs.List.{FoldsTo}
use denote.Param.Members.{Mut}
use Rattle.std.specs.Fn.{Called}
use Rattle.std.specs.Iterator.Adapters.{map_steps, map_source, map_callee}
use Rattle.std.specs.declared.iter.Map.{Map}
use Rattle.std.specs.Iterator.{Yields, PicksByCmp}
use Rattle.std.specs.Ordering.{nat_cmp, min_by_ordering, MatchOrdering}
use Rattle.std.specs.Cmp.{ranks}
use Rattle.planning.specs.Bounds.{most_engines}
use Rattle.planning.specs.Tables.{at}
use Rattle.search.specs.declared.members.Members.{Members}
use Rattle.search.specs.Laws.Layout.Picked.{engine-below}
use Rattle.search.specs.Laws.Passes.{Ahead, ahead-all, ahead_after, LeastSoFar, next-taken, smaller-taken, smaller-min, least_start, least-next, least-end}
use Rattle.search.specs.Members.{TakesLeast}
use Rattle.search.specs.Sets.{has}
use Rattle.search.proofs.view.View.smallest.Goals as goal

pub min-requires-clause-can : goal.min-requires-clause-can
min-requires-clause-can c = (
  tt,
  record {
    at = λ xs t q x u before folds taken.
        let start : Ahead c.args.self.now.state.now.«open» c.map.result.iter.0 0 = rw (c.map.ensures.source, c.from.ensures) (ahead-all _) in
        let inside : x < most_engines = engine-below c.args.self.now.kept x (next-taken (ahead_after {n = 0} xs _ t start before).1 taken).member in
        search (rules, inside);
  },
)

-- the lesser of two numbers, as `min` picks it
lesser : (m c : ℕ) → min_by_ordering (nat_cmp m c) m c ≡ min m c
lesser m c = go (nat_cmp m c) (ranks m c)
  where
    go : (o : Ordering) → MatchOrdering o (m < c) (m ≡ c) (c < m) → min_by_ordering o m c ≡ min m c
    go Less l = omega arith
    go Equal e = omega arith
    go Greater l = omega arith

-- the least amount of a pass over the open engines, each of which a call takes to its amount
module _ {F : Type 0} (g : Mut F (ℕ × Unit {0}) ℕ) (f : F) (opened : ℕ) (amount : List ℕ)
    (above : (i : ℕ) → has opened i ≡ true → 1 ≤ at amount i)
    (reads : (i x : ℕ) (h : F) → Called g f (i, tt) x h → (h ≡ f) × (x ≡ at amount i)) where
  goes : (xs : List ℕ) (best y : ℕ) (s t : Map Members F) → map_callee s ≡ f → LeastSoFar opened amount (map_source s).0 best → 1 ≤ best
      → Yields (map_steps TakesLeast g) s xs t → FoldsTo (λ b x n. n ≡ min_by_ordering (nat_cmp b x) b x) best xs y
      → LeastSoFar opened amount (map_source t).0 y
  goes [] best y s t is sofar l e h = rw (← e, ← h) sofar
  goes (x ∷ xs) best y s t is sofar l (u, (i, taken, called), rest) (next, picked, later) =
      let read = reads i x (map_callee u) (rw is at called) in
      let positive = above i (next-taken sofar.ahead taken).member in
      let less : next ≡ min best x = picked ∙ lesser best x in
      goes xs next y u t read.0 (least-next sofar taken (omega (arith, less, read.1, smaller-min best (at amount i) l positive)))
      (omega (arith, less, read.1, positive)) rest later

  least_of_pass : (s : Map Members F) → map_callee s ≡ f → (map_source s).0 ≡ opened → (r : Option ℕ)
      → PicksByCmp (map_steps TakesLeast g) min_by_ordering nat_cmp s r
      → (set : ℕ) × (set ≡ 0) × LeastSoFar opened amount set (unwrap_or r 0)
  least_of_pass s is e None (u, (t, same, none)) = ((map_source t).0, none.0, rw (← same, e) (least_start opened amount))
  least_of_pass s is e (Some y) (x, xs, (v, (t, (u, (i, taken, called), rest), none)), folds) =
      let read = reads i x (map_callee u) (rw is at called) in
      let start : LeastSoFar opened amount (map_source s).0 0 = rw e (least_start opened amount) in
      let positive = above i (next-taken start.ahead taken).member in
      let first : LeastSoFar opened amount (map_source u).0 x = least-next start taken (read.1 ∙ sym (smaller-taken 0 (at amount i) positive (inl refl))) in
      ((map_source t).0, none.0, goes xs x y u t read.0 first (omega (arith, read.1, positive)) rest folds)

pub returns : goal.returns
returns c =
    let opened = c.args.self.now.state.now.«open» in
    let from : c.map.result.iter.0 ≡ opened = rw (c.map.ensures.source, c.from.ensures) refl in
    let (set, none, least) =
    least_of_pass _ _ opened c.args.self.now.state.now.amount (λ i m. (c.args.self.now.kept.engines.remains i m).least)
    (λ i x h called. search rules) c.map.result c.map.ensures.closure from _ c.min.ensures.ran in λ engines inside.
    c.unwrap_or.ensures ∙ least-end _ _ set _ none least engines inside
