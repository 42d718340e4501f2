-- Behind the value read so far the digits from the present one on make the number.
use Rattle.std.proofs.Common.{◌≡◌, ◌≤◌, min, drop}
use Rattle.planfile.specs.Numerals.{value_behind}
use Rattle.report.specs.Input.{first_number}
use Rattle.report.proofs.scanner.Scanner.number.Given as goal

abbrev pub invariant-loop-b : goal.invariant-loop-b
invariant-loop-b l =
    (l.value ≤ l.most) × (min (value_behind l.value (drop l.b-index l.b-items)) l.most ≡ first_number l.fn.self.rest.now l.most)
