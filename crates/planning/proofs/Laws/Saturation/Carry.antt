-- Chains of engines, and how a unit of a delivery is carried along a chain without a new piece of any other delivery.
-- Assumes nothing.
use Rattle.std.specs.Prelude.{◌≡◌, refl, ◌≢◌, ◌⊎◌, ℕ, zero, suc, ◌+◌, ◌≤◌, ◌<◌}
use Rattle.std.proofs.Common.{ap, ◌∙◌, inl, inr, arith}
use Rattle.planning.proofs.Laws.Finite.Decisions.{equal_or_not, le-or-lt, at-or_else}
use Rattle.planning.proofs.Laws.Finite.Update.{only_same, only-other}
use Rattle.planning.proofs.Laws.Saturation.Moves.{Moved, moved_else, moved-zero, moved_trans, moved_none, Traded, trade, traded_kept, Kept, kept-none}
use Rattle.planning.proofs.Laws.Saturation.Moves.{kept_trans}

-- A delivery other than j has a piece on engine v and one on an engine of higher rank.
pub record Link (engines deliveries : ℕ) (x : ℕ → ℕ → ℕ) (j : ℕ) (rank : ℕ → ℕ) (v : ℕ) : Type 0 where
  pub next : ℕ
  pub next-below : next < engines
  pub higher : rank v < rank next
  pub via : ℕ
  pub via-below : via < deliveries
  pub via-other : j ≢ via
  pub on_here : 0 < x via v
  pub on_next : 0 < x via next

-- The engines of rank above 0 are linked, from rank to rank, up to engine e, and delivery j is on e and on no other of them.
pub record Chain (engines deliveries : ℕ) (x : ℕ → ℕ → ℕ) (j : ℕ) (rank : ℕ → ℕ) (e : ℕ) : Type 0 where
  pub end_below : e < engines
  pub end_ranked : 0 < rank e
  pub end_highest : (v : ℕ) → v < engines → rank v ≤ rank e
  pub piece : 0 < x j e
  pub absent : (v : ℕ) → v < engines → 0 < rank v → v ≢ e → x j v ≡ 0
  pub link : (v : ℕ) → v < engines → 0 < rank v → v ≢ e → Link engines deliveries x j rank v

-- Another engine that delivery j is on has rank 0.
pub chain-unranked : {engines deliveries : ℕ} {x : ℕ → ℕ → ℕ} {j : ℕ} {rank : ℕ → ℕ} {e : ℕ} → Chain engines deliveries x j rank e
    → (v : ℕ) → v < engines → e ≢ v → 0 < x j v → rank v ≡ 0
chain-unranked {rank = rank} chain v l n k = go (le-or-lt (rank v) 0)
  where
    go : (rank v ≤ 0) ⊎ (0 < rank v) → rank v ≡ 0
    go (inl h) = omega arith
    go (inr h) = absurd (omega (arith, chain.absent v l h (omega arith)))

-- On the engines of rank above 0 every delivery but j is still where it was.
abbrev pub Stays : (engines deliveries j : ℕ) (rank : ℕ → ℕ) (x y : ℕ → ℕ → ℕ) → Type 0
Stays engines deliveries j rank x y = (p : ℕ) → p < deliveries → p ≢ j → (i : ℕ) → i < engines → 0 < rank i → 0 < x p i → 0 < y p i

-- Then the links between them are there still, also under other ranks that agree with these where these are above 0.
pub link_stays : {engines deliveries : ℕ} {x y : ℕ → ℕ → ℕ} {j : ℕ} {rank rank' : ℕ → ℕ} → Stays engines deliveries j rank x y
    → ((i : ℕ) → 0 < rank i → rank' i ≡ rank i)
    → (v : ℕ) → v < engines → 0 < rank v → Link engines deliveries x j rank v → Link engines deliveries y j rank' v
link_stays {rank = rank} stays agrees v v_below r l =
    record {
      next = l.next;
      next-below = l.next-below;
      higher = omega (arith, agrees v r, agrees l.next next_ranked, l.higher);
      via = l.via;
      via-below = l.via-below;
      via-other = l.via-other;
      on_here = stays l.via l.via-below (λ s. l.via-other (cc)) v v_below r l.on_here;
      on_next = stays l.via l.via-below (λ s. l.via-other (cc)) l.next l.next-below next_ranked l.on_next;
    }
  where
    next_ranked : 0 < rank l.next
    next_ranked = omega (arith, l.higher)

-- y is x with a unit of delivery j carried from engine e to engine v: amounts and loads are kept, no other delivery gets a piece
-- where it had none, and the other deliveries' pieces on engines of lower rank than v are untouched.
pub record Carried (engines deliveries : ℕ) (x y : ℕ → ℕ → ℕ) (j : ℕ) (rank : ℕ → ℕ) (e v : ℕ) : Type 0 where
  pub own : Moved (x j) (y j) e v 1
  pub kept : Kept engines deliveries x y
  pub no_new : (p : ℕ) → p ≢ j → (i : ℕ) → x p i ≡ 0 → y p i ≡ 0
  pub lower : (p : ℕ) → p ≢ j → (i : ℕ) → rank i < rank v → y p i ≡ x p i

-- some such y
abbrev pub Carry : (engines deliveries : ℕ) (x : ℕ → ℕ → ℕ) (j : ℕ) (rank : ℕ → ℕ) (e v : ℕ) → Type 0
Carry engines deliveries x j rank e v = (y : ℕ → ℕ → ℕ) × Carried engines deliveries x y j rank e v

module _ {engines deliveries : ℕ} {x : ℕ → ℕ → ℕ} {j : ℕ} {rank : ℕ → ℕ} {e : ℕ} (j-below : j < deliveries)
    (chain : Chain engines deliveries x j rank e) where
  carry-none : Carry engines deliveries x j rank e e
  carry-none =
      (x, record { own = moved_none (x j) e 1; kept = kept-none engines deliveries x; no_new = λ p n i z. z; lower = λ p n i low. refl })

  -- one link further: the unit is at the next engine, and is traded there for a unit of the linking delivery
  module _ {y : ℕ → ℕ → ℕ} {v : ℕ} (v_below : v < engines) (l : Link engines deliveries x j rank v)
      (c : Carried engines deliveries x y j rank e l.next) where
    unit_there : 0 < y j l.next
    unit_there = at_next l.next refl
      where
        at_next : (i : ℕ) → i ≡ l.next → 0 < y j i
        at_next =
            at-or_else (λ i. i ≡ l.next → 0 < y j i) e
            (λ s. omega (arith, c.own.balance e, chain.piece, only_same e 1 {i = e} refl, only_same l.next 1 s))
            (λ i n s. omega (arith, c.own.balance i, only-other e 1 n, only_same l.next 1 s))

    unit_here : 0 < y l.via v
    unit_here = omega (arith, c.lower l.via (λ s. l.via-other (cc)) v l.higher, l.on_here)

    carried_on : {y' : ℕ → ℕ → ℕ} → Traded y y' j l.via l.next v 1 → Carried engines deliveries x y' j rank e v
    carried_on {y'} t =
        record {
          own = moved_trans c.own t.there;
          kept = kept_trans c.kept (traded_kept j-below l.via-below l.via-other l.next-below v_below t);
          no_new = no_new;
          lower = lower;
        }
      where
        no_new : (p : ℕ) → p ≢ j → (i : ℕ) → x p i ≡ 0 → y' p i ≡ 0
        no_new =
            at-or_else (λ p. p ≢ j → (i : ℕ) → x p i ≡ 0 → y' p i ≡ 0) l.via
            (λ n i z. moved-zero t.back i (λ s. omega (arith, ap (x l.via) s, l.on_next)) (c.no_new l.via n i z))
            (λ p o n i z. t.others p n o i ∙ c.no_new p n i z)

        lower : (p : ℕ) → p ≢ j → (i : ℕ) → rank i < rank v → y' p i ≡ x p i
        lower p n i low = untouched p n ∙ c.lower p n i (omega (arith, l.higher))
          where
            via-untouched : y' l.via i ≡ y l.via i
            via-untouched = moved_else t.back i (λ s. omega (arith, ap rank s)) (λ s. omega (arith, ap rank s))

            untouched : (p : ℕ) → p ≢ j → y' p i ≡ y p i
            untouched = at-or_else (λ p. p ≢ j → y' p i ≡ y p i) l.via (λ n. via-untouched) (λ p o n. t.others p n o i)

    pub carry_on : Carry engines deliveries x j rank e v
    carry_on = go (trade y j l.via l.next v 1 l.via-other unit_there unit_here)
      where
        go : (y' : ℕ → ℕ → ℕ) × Traded y y' j l.via l.next v 1 → Carry engines deliveries x j rank e v
        go t = (t.0, carried_on t.1)

  -- from v: nothing to do at e, else along the link of v
  carry-from : (v : ℕ) → v < engines → 0 < rank v
      → ((l : Link engines deliveries x j rank v) → Carry engines deliveries x j rank e l.next)
      → Carry engines deliveries x j rank e v
  carry-from v v_below r rest = go (equal_or_not v e)
    where
      linked : Link engines deliveries x j rank v → Carry engines deliveries x j rank e v
      linked l = carry_on v_below l (rest l).1

      go : (v ≡ e) ⊎ (v ≢ e) → Carry engines deliveries x j rank e v
      go (inl s) = rw s carry-none
      go (inr n) = linked (chain.link v v_below r n)

  -- by induction on a number n that bounds how far the rank of v is below that of e
  carry-within : (n v : ℕ) → rank e ≤ rank v + n → v < engines → 0 < rank v → Carry engines deliveries x j rank e v
  carry-within zero v h v_below r =
      carry-from v v_below r (λ l. absurd (omega (arith, l.higher, chain.end_highest l.next l.next-below)))
  carry-within (suc n) v h v_below r =
      carry-from v v_below r (λ l. carry-within n l.next (omega (arith, l.higher)) l.next-below (omega (arith, l.higher)))

  pub carry : (v : ℕ) → v < engines → 0 < rank v → Carry engines deliveries x j rank e v
  carry v = carry-within (rank e) v (omega arith)
