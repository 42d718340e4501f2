-- Assumes nothing.
use Rattle.std.proofs.Common.{◌≡◌, ◌<◌, ◌∙◌, ℕ, List, length, drop, get_or, Option, Some, None, is_some, IfSome, nat_lt, ◌==◌, arith}
use Rattle.std.proofs.lemmas.List.{get_or_default}
use denote.Ref.{Bor}
use Rattle.std.specs.Option.{option_eq}
use Rattle.csv_fields.specs.Reader.{begins_with}
use Rattle.csv_fields.specs.Laws.ReaderSteps.{begins-here, begins-not}
use Rattle.csv_fields.proofs.scans.holds.Goals as goal

got : (bytes : List ℕ) (at : ℕ) (b : Bor ℕ) (r : Option (Bor ℕ)) → is_some r ≡ nat_lt at (length bytes) → IfSome r (λ x. x.now ≡ get_or bytes at x.now)
    → option_eq (λ x y. x.now == y.now) r (Some b) ≡ begins_with b.now (drop at bytes)
got bytes at b None inside item = begins-not bytes at b.now (grind arith)
got bytes at b (Some x) inside item =
    let h : at < length bytes = grind arith in
    rw (item ∙ get_or_default bytes at x.now 0 h) (begins-here bytes at b.now h)

pub returns : goal.returns
returns c = c.eq.ensures ∙ got _ _ _ c.get.result c.get.ensures.lookup.0 c.get.ensures.lookup.1
