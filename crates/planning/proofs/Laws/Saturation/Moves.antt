-- Moves of load between engines, as relations between what was and what is: a delivery moves a part of one piece to another
-- engine, and two deliveries trade equal parts between two engines.
-- Assumes nothing.
use Rattle.std.specs.Prelude.{◌≡◌, refl, ◌≢◌, ℕ, ◌+◌, ◌-◌, ◌≤◌, ◌<◌}
use Rattle.std.proofs.Common.{ap, ◌∙◌, arith}
use Rattle.planning.specs.Sum.{sum, sgn, positives}
use Rattle.planning.proofs.Laws.Finite.Decisions.{at-or_else, at_two_or_else}
use Rattle.planning.proofs.Laws.Finite.Sums.{sum_ext, sum-add, sum-only, sum_two, positives_two}
use Rattle.planning.proofs.Laws.Finite.Update.{update, update_same, update_other, only, only_same, only-other}

-- g is f with d moved from a to b
pub record Moved (f g : ℕ → ℕ) (a b d : ℕ) : Type 0 where
  pub balance : (i : ℕ) → g i + only a d i ≡ f i + only b d i

pub move : ℕ → ℕ → ℕ → (ℕ → ℕ) → ℕ → ℕ
move a b d f i = f i + only b d i - only a d i

pub moved : (f : ℕ → ℕ) (a b d : ℕ) → d ≤ f a → Moved f (move a b d f) a b d
unfolding move
moved f a b d h = record { balance = λ i. omega (arith, enough i) }
  where
    enough : (i : ℕ) → only a d i ≤ f i
    enough =
        at-or_else (λ i. only a d i ≤ f i) a (omega (arith, only_same a d {i = a} refl))
        (λ i n. omega (arith, only-other a d {i = i} n))

pub moved_none : (f : ℕ → ℕ) (a d : ℕ) → Moved f f a a d
moved_none f a d = record { balance = λ i. refl }

pub moved_trans : {f g h : ℕ → ℕ} {a b c d : ℕ} → Moved f g a b d → Moved g h b c d → Moved f h a c d
moved_trans s t = record { balance = λ i. omega (arith, s.balance i, t.balance i) }

module _ {f g : ℕ → ℕ} {a b d : ℕ} (t : Moved f g a b d) where
  pub moved-from : a ≢ b → g a + d ≡ f a
  moved-from n = omega (arith, t.balance a, only_same a d {i = a} refl, only-other b d {i = a} n)

  pub moved_to : a ≢ b → g b ≡ f b + d
  moved_to n = omega (arith, t.balance b, only-other a d {i = b} (omega arith), only_same b d {i = b} refl)

  pub moved_else : (i : ℕ) → i ≢ a → i ≢ b → g i ≡ f i
  moved_else i m n = omega (arith, t.balance i, only-other a d {i = i} m, only-other b d {i = i} n)

  -- no entry appears but, perhaps, at b
  pub moved-zero : (i : ℕ) → i ≢ b → f i ≡ 0 → g i ≡ 0
  moved-zero i n z = omega (arith, t.balance i, only-other b d {i = i} n)

  -- nor there, if there was one
  pub moved_no_new : 0 < f b → (i : ℕ) → f i ≡ 0 → g i ≡ 0
  moved_no_new k i z = moved-zero i (λ e. omega (arith, ap f e)) z

  pub moved_sum : (m : ℕ) → a < m → b < m → sum m g ≡ sum m f
  moved_sum m k l =
      omega (arith, balances, sum-add m g (only a d), sum-add m f (only b d), sum-only m a d k, sum-only m b d l)
    where
      balances : sum m (λ i. g i + only a d i) ≡ sum m (λ i. f i + only b d i)
      balances = sum_ext m (λ i. g i + only a d i) (λ i. f i + only b d i) (λ i s. t.balance i)

  pub moved-positives : (m : ℕ) → a < m → b < m → a ≢ b
      → positives m g + (sgn (f a) + sgn (f b)) ≡ positives m f + (sgn (g a) + sgn (g b))
  moved-positives m k l n = positives_two m g f a b k l n (λ i s c e. moved_else i c e)

-- y is x with d of delivery p moved from engine a to b, and d of delivery q from b to a
pub record Traded (x y : ℕ → ℕ → ℕ) (p q a b d : ℕ) : Type 0 where
  pub there : Moved (x p) (y p) a b d
  pub back : Moved (x q) (y q) b a d
  pub others : (r : ℕ) → r ≢ p → r ≢ q → (i : ℕ) → y r i ≡ x r i

pub trade : (x : ℕ → ℕ → ℕ) (p q a b d : ℕ) → p ≢ q → d ≤ x p a → d ≤ x q b → (y : ℕ → ℕ → ℕ) × Traded x y p q a b d
trade x p q a b d n h k = (update first q back, record { there = there-moved; back = back-moved; others = others })
  where
    there : ℕ → ℕ
    there = move a b d (x p)

    back : ℕ → ℕ
    back = move b a d (x q)

    first : ℕ → ℕ → ℕ
    first = update x p there

    there-moved : Moved (x p) (update first q back p) a b d
    there-moved = rw (update_other first q back n, update_same x p there refl) (moved (x p) a b d h)

    back-moved : Moved (x q) (update first q back q) b a d
    back-moved = rw (update_same first q back refl) (moved (x q) b a d k)

    others : (r : ℕ) → r ≢ p → r ≢ q → (i : ℕ) → update first q back r i ≡ x r i
    others r c e i = rw (update_other first q back e, update_other x p there c)

-- y has the amounts and the loads of x
pub record Kept (engines deliveries : ℕ) (x y : ℕ → ℕ → ℕ) : Type 0 where
  pub rows : (p : ℕ) → p < deliveries → sum engines (y p) ≡ sum engines (x p)
  pub loads : (i : ℕ) → i < engines → sum deliveries (λ p. y p i) ≡ sum deliveries (λ p. x p i)

pub kept-none : (engines deliveries : ℕ) (x : ℕ → ℕ → ℕ) → Kept engines deliveries x x
kept-none engines deliveries x = record { rows = λ p l. refl; loads = λ i l. refl }

pub kept_trans : {engines deliveries : ℕ} {x y z : ℕ → ℕ → ℕ} → Kept engines deliveries x y → Kept engines deliveries y z
    → Kept engines deliveries x z
kept_trans s t = record { rows = λ p l. t.rows p l ∙ s.rows p l; loads = λ i l. t.loads i l ∙ s.loads i l }

pub traded_kept : {engines deliveries : ℕ} {x y : ℕ → ℕ → ℕ} {p q a b d : ℕ} → p < deliveries → q < deliveries → p ≢ q
    → a < engines → b < engines → Traded x y p q a b d → Kept engines deliveries x y
traded_kept {engines} {deliveries} {x} {y} {p} {q} p-below q-below n a-below b-below t = record { rows = rows; loads = loads }
  where
    unmoved : (r : ℕ) → r ≢ p → r ≢ q → sum engines (y r) ≡ sum engines (x r)
    unmoved r c e = sum_ext engines (y r) (x r) (λ i l. t.others r c e i)

    rows : (r : ℕ) → r < deliveries → sum engines (y r) ≡ sum engines (x r)
    rows r l =
        at_two_or_else (λ r. sum engines (y r) ≡ sum engines (x r)) p q (moved_sum t.there engines a-below b-below)
        (moved_sum t.back engines b-below a-below) unmoved r

    loads : (i : ℕ) → i < engines → sum deliveries (λ r. y r i) ≡ sum deliveries (λ r. x r i)
    loads i l =
        omega (
          arith,
          sum_two deliveries (λ r. y r i) (λ r. x r i) p q p-below q-below n (λ r s c e. t.others r c e i),
          t.there.balance i,
          t.back.balance i,
        )
