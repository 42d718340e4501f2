-- Positions of the walk towards a table that fills an engine, what falls from position to position, and the steps that move load of
-- delivery j off the end of the chain.
-- Assumes nothing.
use Rattle.std.specs.Prelude.{◌≡◌, refl, ◌≢◌, ◌⊎◌, ℕ, ◌-◌, ◌≤◌, ◌<◌}
use Rattle.std.proofs.Common.{inl, inr, ⊎_elim, arith}
use Rattle.planning.specs.Sum.{sum, positives}
use Rattle.planning.specs.Cutting.{Fits}
use Rattle.planning.proofs.Laws.Finite.Decisions.{le-or-lt, at-or_else}
use Rattle.planning.proofs.Laws.Finite.Update.{only, only_same, only-other}
use Rattle.planning.proofs.Laws.Finite.Sums.{sum_mono, sum_lt, positives_mono, positives-lt}
use Rattle.planning.proofs.Laws.Saturation.Moves.{Moved, moved-from, moved_no_new}
use Rattle.planning.proofs.Laws.Saturation.Carry.{Chain, Stays, link_stays}
use Rattle.planning.proofs.Laws.Finite.Descent.{Falls, by_first, by-third}
use Rattle.planning.proofs.Laws.Saturation.Statement.{MustCut, Saturated}
use Rattle.planning.proofs.Laws.Saturation.TakeOver.{take-over}

-- how many pieces a table has
pub pieces : ℕ → ℕ → (ℕ → ℕ → ℕ) → ℕ
pieces engines deliveries x = sum deliveries (λ p. positives engines (x p))

pub pieces_mono : (engines deliveries : ℕ) (x y : ℕ → ℕ → ℕ)
    → ((p : ℕ) → p < deliveries → positives engines (y p) ≤ positives engines (x p))
    → pieces engines deliveries y ≤ pieces engines deliveries x
unfolding pieces
pieces_mono engines deliveries x y = sum_mono deliveries (λ p. positives engines (y p)) (λ p. positives engines (x p))

-- A table without new pieces has fewer pieces, or the same.
pub fewer-or-same : (engines deliveries : ℕ) (x y : ℕ → ℕ → ℕ) → ((p : ℕ) → p < deliveries → (i : ℕ) → i < engines → x p i ≡ 0 → y p i ≡ 0)
    → (pieces engines deliveries y < pieces engines deliveries x)
    ⊎ ((p : ℕ) → p < deliveries → (i : ℕ) → i < engines → 0 < x p i → 0 < y p i)
unfolding pieces
fewer-or-same engines deliveries x y h = go (le-or-lt (pieces engines deliveries x) (pieces engines deliveries y))
  where
    fewer : (p : ℕ) → p < deliveries → (i : ℕ) → i < engines → 0 < x p i → y p i ≡ 0
        → pieces engines deliveries y < pieces engines deliveries x
    fewer p l i s k z =
        sum_lt deliveries (λ q. positives engines (y q)) (λ q. positives engines (x q)) p
        (λ q t. positives_mono engines (x q) (y q) (h q t)) l (positives-lt engines (x p) (y p) i (h p l) s k z)

    same : pieces engines deliveries x ≤ pieces engines deliveries y
        → (p : ℕ) → p < deliveries → (i : ℕ) → i < engines → 0 < x p i → 0 < y p i
    same m p l i s k =
        ⊎_elim (λ (z : y p i ≤ 0). absurd (omega (arith, fewer p l i s k (omega arith)))) (λ t. t) (le-or-lt (y p i) 0)

    go : (pieces engines deliveries x ≤ pieces engines deliveries y) ⊎ (pieces engines deliveries y < pieces engines deliveries x)
        → (pieces engines deliveries y < pieces engines deliveries x)
        ⊎ ((p : ℕ) → p < deliveries → (i : ℕ) → i < engines → 0 < x p i → 0 < y p i)
    go (inl m) = inr (same m)
    go (inr m) = inl m

-- A table that fits, and a chain in it.
pub record Position (engines deliveries : ℕ) (capacity amount limit : ℕ → ℕ) (j : ℕ) : Type 0 where
  pub table : ℕ → ℕ → ℕ
  pub fits : Fits engines deliveries capacity amount limit table
  pub rank : ℕ → ℕ
  pub end : ℕ
  pub chain : Chain engines deliveries table j rank end

-- Saturation holds at every position below the one of table x with a chain of ranks rank and end e: one with fewer pieces, or else
-- with fewer engines off the chain, or else with a smaller piece of delivery j at the end of the chain.
abbrev pub SettledBelow : (engines deliveries : ℕ) (capacity amount limit : ℕ → ℕ) (j : ℕ) (x : ℕ → ℕ → ℕ) (rank : ℕ → ℕ) (e : ℕ) → Type 0
SettledBelow engines deliveries capacity amount limit j x rank e =
    (t : Position engines deliveries capacity amount limit j)
    → Falls (pieces engines deliveries t.table) (engines - positives engines t.rank) (t.table j t.end)
    (pieces engines deliveries x) (engines - positives engines rank) (x j e)
    → Saturated engines deliveries capacity amount limit j

-- the chain of one engine
pub chain-one : {engines deliveries : ℕ} {x : ℕ → ℕ → ℕ} {j e : ℕ} → e < engines → 0 < x j e → Chain engines deliveries x j (only e 1) e
chain-one {engines} {deliveries} {x} {j} {e} l k =
    record {
      end_below = l;
      end_ranked = omega (arith, here);
      end_highest = at-or_else (λ v. v < engines → only e 1 v ≤ only e 1 e) e (λ s. omega arith) (λ v n s. omega (arith, only-other e 1 n));
      piece = k;
      absent = λ v s r n. absurd (omega (arith, only-other e 1 n));
      link = λ v s r n. absurd (omega (arith, only-other e 1 n));
    }
  where
    here : only e 1 e ≡ 1
    here = only_same e 1 refl

-- y is x with d of delivery j moved from the end e of the chain to another engine b that j is on.
module _ {engines deliveries : ℕ} {capacity amount limit : ℕ → ℕ} {j z : ℕ} (must : MustCut engines deliveries capacity amount limit j z)
    {x : ℕ → ℕ → ℕ} {rank : ℕ → ℕ} {e : ℕ}
    (fits : Fits engines deliveries capacity amount limit x) (chain : Chain engines deliveries x j rank e)
    {y : ℕ → ℕ → ℕ} {b d : ℕ} (j-on-b : 0 < x j b) (own : Moved (x j) (y j) e b d)
    (fits-y : Fits engines deliveries capacity amount limit y) where
  -- It was all of the piece: j has a piece to spare.
  pub left_end : y j e ≡ 0 → Saturated engines deliveries capacity amount limit j
  left_end h = take-over must fits-y (omega (arith, fewer, fits.few j must.delivery))
    where
      fewer : positives engines (y j) < positives engines (x j)
      fewer = positives-lt engines (x j) (y j) e (λ i l. moved_no_new own j-on-b i) chain.end_below chain.piece h

  same-chain : Stays engines deliveries j rank x y → 0 < y j e → Chain engines deliveries y j rank e
  same-chain stays h =
      record {
        end_below = chain.end_below;
        end_ranked = chain.end_ranked;
        end_highest = chain.end_highest;
        piece = h;
        absent = λ v l r n. moved_no_new own j-on-b v (chain.absent v l r n);
        link = λ v l r n. link_stays stays (λ i s. refl) v l r (chain.link v l r n);
      }

  -- No delivery has more pieces: the table has fewer pieces, or the chain is there still and its end has less of j.
  pub advance : SettledBelow engines deliveries capacity amount limit j x rank e → e ≢ b → 0 < d
      → ((p : ℕ) → p < deliveries → positives engines (y p) ≤ positives engines (x p))
      → (pieces engines deliveries y < pieces engines deliveries x) ⊎ Stays engines deliveries j rank x y
      → Saturated engines deliveries capacity amount limit j
  advance settled e≢b k few kind =
      ⊎_elim (λ (h : y j e ≤ 0). left_end (omega arith)) (λ h. ⊎_elim (fewer h) (same h) kind) (le-or-lt (y j e) 0)
    where
      fewer : 0 < y j e → pieces engines deliveries y < pieces engines deliveries x → Saturated engines deliveries capacity amount limit j
      fewer h less =
          settled (record { table = y; fits = fits-y; rank = only e 1; end = e; chain = chain-one chain.end_below h }) (by_first less)

      same : 0 < y j e → Stays engines deliveries j rank x y → Saturated engines deliveries capacity amount limit j
      same h stays =
          settled (record { table = y; fits = fits-y; rank = rank; end = e; chain = same-chain stays h })
          (by-third (pieces_mono engines deliveries x y few) (omega arith) (omega (arith, moved-from own e≢b)))
