-- What the functions return that may find no field. Assumes nothing.
use Rattle.std.specs.Prelude.{Option, Result, ℕ}
use Rattle.csv_fields.specs.declared.FieldForm.{FieldForm}
use Rattle.csv_fields.specs.declared.FieldRead.{FieldRead}
use Rattle.csv_fields.specs.declared.UndoError.{UndoError}

-- a field of the grammar that was read, or none
abbrev pub Reading : Type 0
Reading = Option FieldRead

-- the form of a field of the grammar, or none
abbrev pub Form : Type 0
Form = Option FieldForm

-- the length of a value that was undone, or why it was not
abbrev pub Undone : Type 0
Undone = Result ℕ UndoError
