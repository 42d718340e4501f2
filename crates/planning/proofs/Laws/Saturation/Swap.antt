-- The step of the walk that makes the chain longer: delivery j leaves the end e of the chain for engine b, and q, which was on b, takes
-- its place on e; then q leaves an engine w for b, and j takes its place on w. From e the chain goes on, by q, to b.
-- Assumes nothing.
use Rattle.std.specs.Prelude.{◌≡◌, refl, ◌≢◌, ℕ, suc, ◌+◌, ◌≤◌, ◌<◌}
use Rattle.std.proofs.Common.{ap, ◌∙◌, ⊎_elim, arith}
use Rattle.planning.specs.Sum.{sgn, positives}
use Rattle.planning.specs.Cutting.{Fits}
use Rattle.planning.proofs.Laws.Finite.Decisions.{le-or-lt, at-or_else, at_two_or_else}
use Rattle.planning.proofs.Laws.Finite.Update.{update, update_same, update_other}
use Rattle.planning.proofs.Laws.Finite.Sums.{sgn-zero, sgn-pos, sgn-le-one, positives-le-bound, positives_mono, positives-one}
use Rattle.planning.proofs.Laws.Saturation.Moves.{moved_else, moved-from, moved_to, moved-positives, Traded, trade, traded_kept, Kept, kept_trans}
use Rattle.planning.proofs.Laws.Saturation.Carry.{Link, Chain, chain-unranked, Stays, link_stays}
use Rattle.planning.proofs.Laws.Finite.Descent.{by-second}
use Rattle.planning.proofs.Laws.Saturation.Statement.{MustCut, Saturated, kept-fits}
use Rattle.planning.proofs.Laws.Saturation.TakeOver.{take-over}
use Rattle.planning.proofs.Laws.Saturation.WalkState.{SettledBelow, pieces_mono}

-- the ranks of the chain that goes on from e to b
abbrev onward : (ℕ → ℕ) → ℕ → ℕ → ℕ → ℕ
onward rank e b = update rank b (suc (rank e))

-- Delivery j is on e, the end of the chain, and on b; delivery q is on b, with a larger piece than j has on e, on w, and on no engine
-- of the chain.
module _ {engines deliveries : ℕ} {capacity amount limit : ℕ → ℕ} {j z : ℕ} (must : MustCut engines deliveries capacity amount limit j z)
    {x : ℕ → ℕ → ℕ} {rank : ℕ → ℕ} {e b q w : ℕ}
    (fits : Fits engines deliveries capacity amount limit x) (chain : Chain engines deliveries x j rank e)
    (b-below : b < engines) (e≢b : e ≢ b) (j-on-b : 0 < x j b)
    (q-below : q < deliveries) (j≢q : j ≢ q) (larger : x j e < x q b)
    (off-chain : (i : ℕ) → i < engines → 0 < rank i → x q i ≡ 0)
    (w-below : w < engines) (w≢b : w ≢ b) (q-on-w : 0 < x q w) where
  q≢j : q ≢ j
  q≢j = omega (arith, j≢q)

  b≢e : b ≢ e
  b≢e = omega (arith, e≢b)

  w≢e : w ≢ e
  w≢e s = omega (arith, ap (x q) s, off-chain e chain.end_below chain.end_ranked)

  unranked : rank b ≡ 0
  unranked = chain-unranked chain b b-below e≢b j-on-b

  onward-end : onward rank e b b ≡ suc (rank e)
  onward-end = update_same rank b (suc (rank e)) refl

  onward-other : {v : ℕ} → v ≢ b → onward rank e b v ≡ rank v
  onward-other n = update_other rank b (suc (rank e)) n

  onward_ranked : (v : ℕ) → 0 < rank v → onward rank e b v ≡ rank v
  onward_ranked v r = onward-other (λ s. omega (arith, ap rank s, unranked))

  onward-count : positives engines (onward rank e b) ≡ positives engines rank + 1
  onward-count =
      omega (
        arith,
        positives-one engines (onward rank e b) rank b b-below (λ i l n. onward-other n),
        sgn-zero (rank b) unranked,
        sgn-pos (onward rank e b b) (omega (arith, onward-end)),
      )

  module _ {y y' : ℕ → ℕ → ℕ} (first : Traded x y j q e b (x j e)) (second : Traded y y' q j w b (x q w)) where
    kept : Kept engines deliveries x y'
    kept =
        kept_trans (traded_kept must.delivery q-below j≢q chain.end_below b-below first)
        (traded_kept q-below must.delivery q≢j w-below b-below second)

    unchanged : (p : ℕ) → p ≢ j → p ≢ q → (i : ℕ) → y' p i ≡ x p i
    unchanged p c d i = second.others p d c i ∙ first.others p c d i

    q_on_w_between : y q w ≡ x q w
    q_on_w_between = moved_else first.back w w≢b w≢e

    -- no more pieces of q: it leaves w and joins e
    few-q : positives engines (y' q) ≤ positives engines (x q)
    few-q =
        omega (
          arith,
          moved-positives first.back engines b-below chain.end_below b≢e,
          sgn-pos (x q b) (omega arith),
          sgn-pos (y q b) (omega (arith, moved-from first.back b≢e)),
          sgn-le-one (y q e),
          moved-positives second.there engines w-below b-below w≢b,
          sgn-pos (y q w) (omega (arith, q_on_w_between)),
          sgn-zero (y' q w) (omega (arith, q_on_w_between, moved-from second.there w≢b)),
          sgn-le-one (y' q b),
        )

    -- no more pieces of j: it leaves e and joins w; one less if it leaves b too
    few_j : positives engines (y' j) + 1 ≤ positives engines (x j) + sgn (y' j b)
    few_j =
        omega (
          arith,
          moved-positives first.there engines chain.end_below b-below e≢b,
          sgn-pos (x j e) chain.piece,
          sgn-pos (x j b) j-on-b,
          sgn-zero (y j e) (omega (arith, moved-from first.there e≢b)),
          sgn-pos (y j b) (omega (arith, moved_to first.there e≢b)),
          moved-positives second.back engines b-below w-below (omega arith),
          sgn-le-one (y' j w),
        )

    few : (p : ℕ) → p < deliveries → positives engines (y' p) ≤ positives engines (x p)
    few p l =
        at_two_or_else (λ p. positives engines (y' p) ≤ positives engines (x p)) j q (omega (arith, few_j, sgn-le-one (y' j b))) few-q
        (λ p c d. positives_mono engines (x p) (y' p) (λ i s h. unchanged p c d i ∙ h))
        p

    fits-swapped : Fits engines deliveries capacity amount limit y'
    fits-swapped = kept-fits fits kept (λ p l. omega (arith, few p l, fits.few p l))

    stays : Stays engines deliveries j rank x y'
    stays p l n i k r h = omega (arith, unchanged p n (λ s. omega (arith, ap (λ (p : ℕ). x p i) s, off-chain i k r)) i)

    -- q links e to b
    link-end : Link engines deliveries y' j (onward rank e b) e
    link-end =
        record {
          next = b;
          next-below = b-below;
          higher = omega (arith, onward-other e≢b, onward-end);
          via = q;
          via-below = q-below;
          via-other = j≢q;
          on_here = omega (arith, moved_to first.back b≢e, moved_else second.there e (omega (arith, w≢e)) e≢b, chain.piece);
          on_next = omega (arith, moved_to second.there w≢b);
        }

    link : (v : ℕ) → v < engines → 0 < rank v → Link engines deliveries y' j (onward rank e b) v
    link =
        at-or_else (λ v. v < engines → 0 < rank v → Link engines deliveries y' j (onward rank e b) v) e (λ l r. link-end)
        (λ v n l r. link_stays stays onward_ranked v l r (chain.link v l r n))

    absent : (v : ℕ) → v < engines → 0 < rank v → v ≢ b → y' j v ≡ 0
    absent v l r n = moved_else second.back v n v≢w ∙ before v l r n
      where
        v≢w : v ≢ w
        v≢w s = omega (arith, ap (x q) s, off-chain v l r)

        before : (v : ℕ) → v < engines → 0 < rank v → v ≢ b → y j v ≡ 0
        before =
            at-or_else (λ v. v < engines → 0 < rank v → v ≢ b → y j v ≡ 0) e (λ l r n. omega (arith, moved-from first.there e≢b))
            (λ v c l r n. moved_else first.there v c n ∙ chain.absent v l r c)

    longer-chain : 0 < y' j b → Chain engines deliveries y' j (onward rank e b) b
    longer-chain h =
        record {
          end_below = b-below;
          end_ranked = omega (arith, onward-end);
          end_highest =
              at-or_else (λ v. v < engines → onward rank e b v ≤ onward rank e b b) b (λ l. omega arith)
              (λ v n l. omega (arith, onward-other n, onward-end, chain.end_highest v l));
          piece = h;
          absent = λ v l r n. absent v l (omega (arith, onward-other n)) n;
          link = λ v l r n. link v l (omega (arith, onward-other n));
        }

    -- Either j has a piece to spare, or the chain is longer.
    swapped : SettledBelow engines deliveries capacity amount limit j x rank e → Saturated engines deliveries capacity amount limit j
    swapped settled = ⊎_elim spare longer (le-or-lt (y' j b) 0)
      where
        spare : y' j b ≤ 0 → Saturated engines deliveries capacity amount limit j
        spare h = take-over must fits-swapped (omega (arith, few_j, sgn-zero (y' j b) (omega arith), fits.few j must.delivery))

        longer : 0 < y' j b → Saturated engines deliveries capacity amount limit j
        longer h =
            settled (record { table = y'; fits = fits-swapped; rank = onward rank e b; end = b; chain = longer-chain h })
            (by-second (pieces_mono engines deliveries x y' few)
            (omega (arith, onward-count, positives-le-bound engines (onward rank e b))))

  pub swap : x q w ≤ x j e + x j b → SettledBelow engines deliveries capacity amount limit j x rank e
      → Saturated engines deliveries capacity amount limit j
  swap bound settled = go (trade x j q e b (x j e) j≢q (omega arith) (omega arith)).1
    where
      go : {y : ℕ → ℕ → ℕ} → Traded x y j q e b (x j e) → Saturated engines deliveries capacity amount limit j
      go {y} first = swapped first (trade y q j w b (x q w) q≢j there back).1 settled
        where
          there : x q w ≤ y q w
          there = omega (arith, moved_else first.back w w≢b w≢e)

          back : x q w ≤ y j b
          back = omega (arith, moved_to first.there e≢b)
