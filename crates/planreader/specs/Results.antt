-- What the functions return that may find nothing or refuse. Assumes nothing.
use Rattle.std.specs.Prelude.{Option, Result, ℕ}
use Rattle.planning.specs.declared.Fault.{Fault}
use Rattle.planreader.specs.declared.entry.Entry.{Entry}

-- a number within its range, or none
abbrev pub Ranged : Type 0
Ranged = Option ℕ

-- a record of four fields and where the next one begins, or why there is none
abbrev pub Cutting : Type 0
Cutting = Result (Entry × ℕ) Fault
