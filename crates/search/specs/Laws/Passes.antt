-- A pass over a set in file order, from least member to least member, and the smallest remaining of the open engines by such a pass.
-- Assumes nothing.
use Rattle.std.specs.Prelude.{◌≡◌, refl, ◌≢◌, ◌⊎◌, true, false, List, [], ◌∷◌, ℕ, zero, suc, min, ◌-◌, ◌^◌, ◌≤◌, ◌<◌}
use Rattle.std.proofs.Common.{sym, ap, ◌∙◌, inl, inr, true≢false, arith}
use Rattle.std.specs.Int.Count.{count_trailing_zeros}
use Rattle.std.specs.Iterator.{Yields}
use Rattle.planning.proofs.Laws.Finite.Decisions.{le-or-lt, at-or_else}
use Rattle.planning.proofs.Laws.Tables.{at_listed}
use Rattle.planning.specs.Tables.{listed, at}
use Rattle.planning.specs.Search.{smaller, smallest_of}
use Rattle.search.specs.Laws.Sets.{has-zero, has-without-same, has-without-other, least-member}
use Rattle.search.specs.Layout.{remaining_at}
use Rattle.search.specs.declared.members.Members.{Members}
use Rattle.search.specs.Members.{IsLeast, TakesLeast}
use Rattle.search.specs.Sets.{has}

-- ---- the set that is still to be passed

-- `set` has the members of `all` from n on
pub record Ahead (all set n : ℕ) : Type 0 where
  pub most : set ≤ all
  pub from : (q : ℕ) → has set q ≡ true → n ≤ q
  pub same : (q : ℕ) → n ≤ q → has set q ≡ has all q

pub ahead-all : (all : ℕ) → Ahead all all 0
ahead-all all = record { most = omega arith; from = λ q h. omega arith; same = λ q l. refl }

-- the next member of the whole set, with none of it between n and there
pub record Next (all set n t : ℕ) : Type 0 where
  pub member : has all t ≡ true
  pub later : n ≤ t
  pub between : (q : ℕ) → n ≤ q → q < t → has all q ≡ false
  pub ahead : Ahead all (set - 2 ^ t) (suc t)

-- the least member, as a pass takes it
pub next-taken : {all set n t others : ℕ} → Ahead all set n → IsLeast set t others → Next all set n t
next-taken {all} {set} {n} {t} a taken =
    let h = taken.member in
    let l = a.from t h in
    record {
      member = sym (a.same t l) ∙ h;
      later = l;
      between = λ q m b. sym (a.same q m) ∙ taken.first q b;
      ahead =
          record {
            most = omega (arith, a.most);
            from = λ q g. past q g (le-or-lt (suc t) q);
            same = λ q m. has-without-other set t q h (omega arith) ∙ a.same q (omega arith);
          };
    }
  where
    past : (q : ℕ) → has (set - 2 ^ t) q ≡ true → (suc t ≤ q) ⊎ (q < suc t) → suc t ≤ q
    past q g (inl l) = l
    past q g (inr l) =
        absurd
        (at-or_else
        (λ r. r < suc t → has (set - 2 ^ t) r ≡ true → ⊥)
        t
        (λ m f. true≢false (sym f ∙ has-without-same set t taken.member))
        (λ r d m f. true≢false (sym f ∙ has-without-other set t r taken.member d ∙ taken.first r (omega arith)))
        q
        l
        g)

-- of a set of k digits it is the one that the lowest bit says
pub least-of : (k set : ℕ) → set ≢ 0 → set < 2 ^ k → IsLeast set (count_trailing_zeros k set) (set - 2 ^ count_trailing_zeros k set)
least-of k set s l =
    let least = least-member k set (omega arith) l in record { member = least.1; first = least.2; without = refl }

-- what is left once a pass took so many
pub ahead_after : {all n : ℕ} (xs : List ℕ) (s t : Members) → Ahead all s.0 n → Yields TakesLeast s xs t → (m : ℕ) × Ahead all t.0 m
ahead_after {n = n} [] s t a e = rw (← e) (n, a)
ahead_after {all} (i ∷ xs) s t a (j, taken, rest) =
    let more : Ahead all j.0 (suc i) = rw taken.without (next-taken a taken).ahead in ahead_after {n = suc i} xs j t more rest

-- nothing is ahead
pub ahead_none : (all n : ℕ) → Ahead all 0 n → (q : ℕ) → n ≤ q → has all q ≡ false
ahead_none all n a q l = sym (a.same q l) ∙ has-zero q

-- a value that no step from n to m changes
pub steady : {A : Type 0} (f : ℕ → A) (n m : ℕ) → n ≤ m → ((q : ℕ) → n ≤ q → q < m → f (suc q) ≡ f q) → f m ≡ f n
steady f n zero l h = ap f (omega arith)
steady f n (suc m) l h = go (le-or-lt n m) (λ (k : n ≤ m). steady f n m k (λ q s t. h q s (omega arith)))
  where
    go : (n ≤ m) ⊎ (m < n) → (n ≤ m → f m ≡ f n) → f (suc m) ≡ f n
    go (inl k) r = h m k (omega arith) ∙ r k
    go (inr k) r = ap f (omega arith)

-- ---- the smallest remaining

smaller-first : (c : ℕ) → smaller 0 c ≡ c
unfolding smaller
smaller-first zero = refl
smaller-first (suc c) = refl

pub smaller-min : (m c : ℕ) → 0 < m → 0 < c → smaller m c ≡ min m c
unfolding smaller
smaller-min m zero p q = absurd (omega arith)
smaller-min zero (suc c) p q = absurd (omega arith)
smaller-min (suc m) (suc c) p q = refl

-- how one engine that is open changes the smallest remaining of those before it
pub smaller-taken : (m c : ℕ) → 0 < c → (m ≡ 0) ⊎ (c < m) → smaller m c ≡ c
smaller-taken m c p (inl e) = ap (λ (x : ℕ). smaller x c) e ∙ smaller-first c
smaller-taken m c p (inr l) = omega (arith, smaller-min m c (omega arith) p)

-- what remains of the engines of a plan
abbrev pub remainings : (engines opened : ℕ) → (amount : List ℕ) → List ℕ
remainings engines opened amount = listed engines (λ i. remaining_at opened amount i)

-- `least` is the smallest remaining of the open engines that the pass has behind it
pub record LeastSoFar (opened : ℕ) (amount : List ℕ) (set least : ℕ) : Type 0 where
  pub front : ℕ
  pub ahead : Ahead opened set front
  pub is_least : (engines : ℕ) → ((i : ℕ) → has opened i ≡ true → i < engines)
      → (front ≤ engines) × (least ≡ smallest_of (remainings engines opened amount) front)

closed-remaining : (engines opened : ℕ) (amount : List ℕ) (q : ℕ) → q < engines → has opened q ≡ false
    → at (remainings engines opened amount) q ≡ 0
unfolding remaining_at
closed-remaining engines opened amount q l h = at_listed engines (λ i. remaining_at opened amount i) q l ∙ rw h

-- closed engines do not change the smallest remaining
smallest-past : (engines opened : ℕ) (amount : List ℕ) (n m : ℕ) → n ≤ m → m ≤ engines → ((q : ℕ) → n ≤ q → q < m → has opened q ≡ false)
    → smallest_of (remainings engines opened amount) m ≡ smallest_of (remainings engines opened amount) n
unfolding smallest_of smaller
smallest-past engines opened amount n m l s h =
    steady (smallest_of (remainings engines opened amount)) n m l
    (λ q k t. rw (closed-remaining engines opened amount q (omega arith) (h q k t)))

open_remaining : (engines opened : ℕ) (amount : List ℕ) (q : ℕ) → q < engines → has opened q ≡ true
    → at (remainings engines opened amount) q ≡ at amount q
unfolding remaining_at
open_remaining engines opened amount q l h = at_listed engines (λ i. remaining_at opened amount i) q l ∙ rw h

pub least_start : (opened : ℕ) (amount : List ℕ) → LeastSoFar opened amount opened 0
unfolding smallest_of
least_start opened amount = record { front = 0; ahead = ahead-all opened; is_least = λ engines inside. (omega arith, refl) }

pub least-next : {opened : ℕ} {amount : List ℕ} {set least i others after : ℕ} → LeastSoFar opened amount set least
    → IsLeast set i others → after ≡ smaller least (at amount i) → LeastSoFar opened amount others after
unfolding smallest_of
least-next {opened} {amount} {i = i} before taken e =
    let next = next-taken before.ahead taken in
    record {
      front = suc i;
      ahead = rw taken.without next.ahead;
      is_least = λ engines inside.
          let l = inside i next.member in
          let sofar = before.is_least engines inside in
          let passed = smallest-past engines opened amount before.front i next.later (omega arith) next.between in
          (l, rw (open_remaining engines opened amount i l next.member, passed, ← sofar.1) e);
    }

pub least-end : (opened : ℕ) (amount : List ℕ) (set least : ℕ) → set ≡ 0 → LeastSoFar opened amount set least → (engines : ℕ)
    → ((i : ℕ) → has opened i ≡ true → i < engines) → least ≡ smallest_of (remainings engines opened amount) engines
least-end opened amount set least z before engines inside =
    let sofar = before.is_least engines inside in
    let none = ahead_none opened before.front (rw z at before.ahead) in
    sofar.1 ∙ sym (smallest-past engines opened amount before.front engines sofar.0 (omega arith) (λ q m b. none q m))
