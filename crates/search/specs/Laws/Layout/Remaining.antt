-- What remains of an open engine, and of a closed one.
-- Assumes nothing.
use Rattle.std.specs.Prelude.{◌≡◌, true, false, List, ℕ}
use Rattle.planning.specs.Tables.{at}
use Rattle.search.specs.Layout.{remaining_at}
use Rattle.search.specs.Sets.{has}

pub remaining_open : (opened : ℕ) (amount : List ℕ) (i : ℕ) → has opened i ≡ true → remaining_at opened amount i ≡ at amount i
unfolding remaining_at
remaining_open opened amount i h = rw h

pub remaining-closed : (opened : ℕ) (amount : List ℕ) (i : ℕ) → has opened i ≡ false → remaining_at opened amount i ≡ 0
unfolding remaining_at
remaining-closed opened amount i h = rw h
