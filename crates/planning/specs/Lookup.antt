-- What the spare lookup returns (document 01, "Capacity and tries", its last paragraph): an engine, counted from 0; that none has the amount; or
-- a refusal.
use Rattle.std.specs.Prelude.{Option, Result, ℕ}
use Rattle.planning.specs.declared.Refusal.{Refusal}

abbrev pub Lookup : Type 0
Lookup = Result (Option ℕ) Refusal
