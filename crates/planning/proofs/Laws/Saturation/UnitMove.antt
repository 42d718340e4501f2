-- The steps of the walk that move one unit of delivery j from the end e of the chain to another engine b that j is on, while no
-- delivery gets a piece where it had none.
-- Assumes nothing.
use Rattle.std.specs.Prelude.{◌≡◌, refl, ◌≢◌, ℕ, ◌+◌, ◌≤◌, ◌<◌}
use Rattle.std.proofs.Common.{◌∙◌, inl, inr, ⊎_elim, arith}
use Rattle.planning.specs.Sum.{sum, positives}
use Rattle.planning.specs.Cutting.{Fits}
use Rattle.planning.proofs.Laws.Finite.Decisions.{at-or_else}
use Rattle.planning.proofs.Laws.Finite.Update.{update, update_same, update_other, only, only_same, only-other}
use Rattle.planning.proofs.Laws.Finite.Sums.{sum_ext, sum_one, positives_mono}
use Rattle.planning.proofs.Laws.Saturation.Moves.{Moved, move, moved, moved_sum, moved_no_new}
use Rattle.planning.proofs.Laws.Saturation.Carry.{Link, Chain, chain-unranked, Carried, carry, carry_on}
use Rattle.planning.proofs.Laws.Saturation.Statement.{MustCut, Saturated, kept-fits}
use Rattle.planning.proofs.Laws.Saturation.WalkState.{SettledBelow, fewer-or-same, advance}

module _ {engines deliveries : ℕ} {capacity amount limit : ℕ → ℕ} {j z : ℕ} (must : MustCut engines deliveries capacity amount limit j z)
    {x : ℕ → ℕ → ℕ} {rank : ℕ → ℕ} {e b : ℕ}
    (fits : Fits engines deliveries capacity amount limit x) (chain : Chain engines deliveries x j rank e)
    (b-below : b < engines) (e≢b : e ≢ b) (j-on-b : 0 < x j b)
    (settled : SettledBelow engines deliveries capacity amount limit j x rank e) where
  module _ {y : ℕ → ℕ → ℕ} (own : Moved (x j) (y j) e b 1) (no_new : (p : ℕ) → p ≢ j → (i : ℕ) → x p i ≡ 0 → y p i ≡ 0) where
    no_new-piece : (p : ℕ) (i : ℕ) → x p i ≡ 0 → y p i ≡ 0
    no_new-piece = at-or_else (λ p. (i : ℕ) → x p i ≡ 0 → y p i ≡ 0) j (moved_no_new own j-on-b) no_new

    no_more-pieces : (p : ℕ) → positives engines (y p) ≤ positives engines (x p)
    no_more-pieces p = positives_mono engines (x p) (y p) (λ i l. no_new-piece p i)

    few-enough : (p : ℕ) → p < deliveries → positives engines (y p) ≤ limit p
    few-enough p l = omega (arith, no_more-pieces p, fits.few p l)

    unit_moved : Fits engines deliveries capacity amount limit y → Saturated engines deliveries capacity amount limit j
    unit_moved fits-y =
        advance must fits chain j-on-b own fits-y settled e≢b (omega arith) (λ p l. no_more-pieces p)
        (⊎_elim inl (λ h. inr (λ p l n i k r. h p l i k)) (fewer-or-same engines deliveries x y (λ p l i k. no_new-piece p i)))

  -- There is room on b.
  pub room : sum deliveries (λ p. x p b) < capacity b → Saturated engines deliveries capacity amount limit j
  room free = unit_moved own no_new (record { whole = whole; within = within; few = few-enough own no_new })
    where
      row : ℕ → ℕ
      row = move e b 1 (x j)

      y : ℕ → ℕ → ℕ
      y = update x j row

      own : Moved (x j) (y j) e b 1
      own = rw (update_same x j row refl) (moved (x j) e b 1 chain.piece)

      others : (p : ℕ) → p ≢ j → (i : ℕ) → y p i ≡ x p i
      others p n i = rw (update_other x j row n)

      no_new : (p : ℕ) → p ≢ j → (i : ℕ) → x p i ≡ 0 → y p i ≡ 0
      no_new p n i h = others p n i ∙ h

      whole : (p : ℕ) → p < deliveries → sum engines (y p) ≡ amount p
      whole =
          at-or_else (λ p. p < deliveries → sum engines (y p) ≡ amount p) j
          (λ l. moved_sum own engines chain.end_below b-below ∙ fits.whole j l)
          (λ p n l. sum_ext engines (y p) (x p) (λ i k. others p n i) ∙ fits.whole p l)

      load : (i : ℕ) → sum deliveries (λ p. y p i) ≤ sum deliveries (λ p. x p i) + only b 1 i
      load i = omega (arith, sum_one deliveries (λ p. y p i) (λ p. x p i) j must.delivery (λ p l n. others p n i), own.balance i)

      within : (i : ℕ) → i < engines → sum deliveries (λ p. y p i) ≤ capacity i
      within =
          at-or_else (λ i. i < engines → sum deliveries (λ p. y p i) ≤ capacity i) b
          (λ l. omega (arith, load b, only_same b 1 {i = b} refl))
          (λ i n l. omega (arith, load i, only-other b 1 n, fits.within i l))

  -- Another delivery q is on b and on an engine w of the chain: the unit is carried to w and traded there for one of q.
  pub rotate : {q w : ℕ} → q < deliveries → j ≢ q → 0 < x q b → w < engines → 0 < rank w → 0 < x q w
      → Saturated engines deliveries capacity amount limit j
  rotate {q} {w} q-below j≢q q_on_b w-below r q-on-w =
      go (carry_on must.delivery chain b-below link (carry must.delivery chain w w-below r).1).1
    where
      link : Link engines deliveries x j rank b
      link =
          record {
            next = w;
            next-below = w-below;
            higher = omega (arith, chain-unranked chain b b-below e≢b j-on-b);
            via = q;
            via-below = q-below;
            via-other = j≢q;
            on_here = q_on_b;
            on_next = q-on-w;
          }

      go : {y : ℕ → ℕ → ℕ} → Carried engines deliveries x y j rank e b → Saturated engines deliveries capacity amount limit j
      go c = unit_moved c.own c.no_new (kept-fits fits c.kept (few-enough c.own c.no_new))
