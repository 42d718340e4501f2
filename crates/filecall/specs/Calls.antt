-- The call with a file by what it is given and lent.
-- Assumes nothing.
use Rattle.std.specs.Prelude.{List, ℕ}
use Rattle.planfile.specs.FileCall.{FileCall}

abbrev pub call_with : (file table spare output : List ℕ) → FileCall
call_with file table spare output = record { file = file; table = table; spare = spare; output = output }
