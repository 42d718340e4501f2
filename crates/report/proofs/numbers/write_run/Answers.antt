-- A space, the number, and the times behind it where they are more than one.
use Rattle.std.proofs.Common.{◌<◌, ◌∷◌, [], ℕ, Result, Ok, Err, IsErrAnd, ◌≡◌}
use Rattle.std.proofs.lemmas.Bool.{lt-leb}
use Rattle.rfc4180.specs.Text.{ascii}
use Rattle.std.specs.Prelude.{⊤}
use Rattle.lines.specs.declared.output.Output.{Output}
use Rattle.lines.specs.declared.WriteError.{WriteError}
use Rattle.lines.specs.Putting.{plain, number, Puts}
use Rattle.lines.specs.Laws.Putting.{then, then-error}
use Rattle.report.specs.Numbers.{run_texts}
use Rattle.report.proofs.Laws.Numbers.{run_once, run_more}
use Rattle.report.proofs.numbers.write_run.Goals as goal

module _ (n times : ℕ) {before after : Output} {error : WriteError} {given result : Result ⊤ WriteError} (is : given ≡ Err error)
    (h : IsErrAnd result (λ passed. passed ≡ error)) where
  no_space : Puts (plain (ascii " ") ∷ []) before given after → Puts (run_texts n times) before result after
  unfolding run_texts
  no_space p = then-error _ is p h

  no_times : {between : Output} {first : Result ⊤ WriteError} → 1 < times → first ≡ Ok tt → Puts (plain (ascii " ") ∷ []) before first between
      → Puts (number n ∷ plain (ascii "*") ∷ []) between given after → Puts (run_texts n times) before result after
  unfolding run_texts
  no_times l e p q = rw (lt-leb times 1 l) (then e p (then-error (number times ∷ []) is q h))

pub returns-in_err-write_bytes : goal.returns-in_err-write_bytes
unfolding ascii
returns-in_err-write_bytes c = no_space _ _ c.in_err-write_bytes.was c.from_residual.ensures.1 c.write_bytes.ensures.puts

pub returns-then-times-le1 : goal.returns-then-times-le1
unfolding ascii
returns-then-times-le1 c = run_once _ _ c.if-times-le1.true c.in_ok-write_bytes.was c.write_bytes.ensures.puts c.write_number.ensures.puts

pub returns-in_err-write_number : goal.returns-in_err-write_number
unfolding ascii
returns-in_err-write_number c =
    no_times _ _ c.in_err-write_number.was c.from_residual-in_err-write_number.ensures.1 c.if-times-le1.false c.in_ok-write_bytes.was c.write_bytes.ensures.puts
    c.write_number-else-times-le1.ensures.puts

pub returns-in_ok-write_number : goal.returns-in_ok-write_number
unfolding ascii
returns-in_ok-write_number c =
    run_more _ _ c.if-times-le1.false c.in_ok-write_bytes.was c.write_bytes.ensures.puts c.in_ok-write_number.was c.write_number-else-times-le1.ensures.puts
    c.write_number-else-times-le1-2.ensures.puts
