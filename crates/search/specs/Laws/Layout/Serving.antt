-- The engines that serve a delivery are closed, and each has a slot of its own.
-- Assumes nothing.
use Rattle.std.specs.Prelude.{◌≡◌, refl, Bool, true, false, List, ℕ, ◌^◌, ◌≤◌, ◌<◌, length}
use Rattle.std.proofs.Common.{arith}
use Rattle.planning.proofs.Laws.Finite.Lists.{inside_of}
use Rattle.planning.specs.Tables.{at}
use Rattle.search.specs.Layout.{Engines}
use Rattle.search.specs.Sets.{has}
use Rattle.search.specs.Laws.Sets.{clash, below_of_members}

module _ {opened : ℕ} {amount served : List ℕ} (engines : Engines opened amount served) where
  -- an open engine has its place
  pub open_inside : (i : ℕ) → has opened i ≡ true → i < length amount
  open_inside i h = inside_of amount i (engines.remains i h).least

  pub open_serves-none : (k i : ℕ) → has opened i ≡ true → has (at served k) i ≡ false
  open_serves-none k i h = go (has (at served k) i) refl
    where
      go : (b : Bool) → has (at served k) i ≡ b → has (at served k) i ≡ false
      go true e = absurd (clash (has opened i) h (engines.closed k i e).1)
      go false e = e

  -- a set of them fits as many bits as there are slots
  pub serving-below : (bits k : ℕ) → length served ≤ bits → at served k < 2 ^ bits
  serving-below bits k room = below_of_members bits (at served k) (λ i h. omega (arith, (engines.closed k i h).0))

  pub open_below : (bits : ℕ) → length amount ≤ bits → opened < 2 ^ bits
  open_below bits room = below_of_members bits opened (λ i h. omega (arith, open_inside i h))
