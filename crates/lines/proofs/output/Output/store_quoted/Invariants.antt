-- Pushing the bytes left, doubled, and the closing quote makes the output that is to be made.
use Rattle.std.proofs.Common.{◌≡◌, List, ℕ, ◌+◌, length, drop, [], ◌∷◌, ◌++◌}
use Rattle.rfc4180.specs.Bytes.{quote}
use Rattle.rfc4180.specs.Writer.{doubled}
use Rattle.rfc4180.proofs.Laws.Stores.{Ahead}
use Rattle.lines.specs.declared.output.Output.{Output}
use Rattle.lines.proofs.output.Output.store_quoted.Given as goal

-- the bytes that are still to be pushed, of a value in quotes that is put into an output
pub record Left (value : List ℕ) (first : Output) (bytes : List ℕ) (out : Output) : Type 0 where
  pub ahead : Ahead bytes out.at out.bytes.now first.bytes.now first.at (quote ∷ (doubled value ++ quote ∷ []))
  pub ends : out.at + length bytes ≡ first.at + length (quote ∷ (doubled value ++ quote ∷ []))
  pub same : out.bytes.ghost_name ≡ first.bytes.ghost_name

abbrev pub invariant-loop-b : goal.invariant-loop-b
invariant-loop-b l = Left l.value l.fn.self (doubled (drop l.b-index l.value) ++ quote ∷ []) l.self
