-- A pass over a set takes its least member: it has none left, or that one is taken out of it.
-- Assumes nothing.
use Rattle.std.specs.Prelude.{◌≡◌, true, false, ℕ, ◌-◌, ◌^◌, ◌<◌, Option, Some, None}
use Rattle.search.specs.declared.members.Members.{Members}
use Rattle.search.specs.Sets.{has}

-- it is taken from `set`, and `others` are left
pub record IsLeast (set i others : ℕ) : Type 0 where
  pub member : has set i ≡ true
  pub first : (q : ℕ) → q < i → has set q ≡ false
  pub without : others ≡ set - 2 ^ i

abbrev pub TakesLeast : Members → Option ℕ → Members → Type 0
TakesLeast s None t = s.0 ≡ 0
TakesLeast s (Some i) t = IsLeast s.0 i t.0
