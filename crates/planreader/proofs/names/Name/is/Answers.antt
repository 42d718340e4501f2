-- `is` meets its contract: texts of one length are the same where they are so from the back.
use Rattle.std.proofs.Common.{◌≡◌, ◌∙◌, ℕ, List, Bool, nat_eq, length, sym, ap, rules, tests}
use Rattle.std.specs.Bool.{Decides}
use Rattle.std.specs.Cmp.Lexicographic.{pointwise}
use Rattle.std.proofs.lemmas.Iterator.{YieldsList-from_zip, same_from_all}
use Rattle.std.proofs.lemmas.Iterator.Adapters.{YieldsList-from_rev_slice}
use Rattle.std.proofs.lemmas.List.{length-reverse, reverse-reverse}
use Rattle.std.proofs.lemmas.Slice.Eq.{bytes_eq-Decides}
use mathlib.Core.List.{reverse}
use Rattle.planreader.proofs.names.Name.is.Goals as goal

from-back : (text other : List ℕ) (r : Bool) → Decides r (reverse text ≡ reverse other) → r ≡ pointwise nat_eq text other
from-back text other r back =
    let front : Decides r (text ≡ other) = (
      λ e. sym (reverse-reverse text) ∙ ap (λ (back : List ℕ). reverse back) (back.0 e) ∙ reverse-reverse other,
      λ e. back.1 (ap (λ (front : List ℕ). reverse front) e),
    ) in
    search (rules, bytes_eq-Decides)

pub returns-then-text-bytes : goal.returns-then-text-bytes
returns-then-text-bytes c =
    let size : length c.args.text.now ≡ length c.args.self.now = cc in
    from-back c.args.text.now c.args.self.now c.all.result
    (same_from_all c.all.new.self _ _ (reverse c.args.text.now) (reverse c.args.self.now) c.all.ensures.ran
    (YieldsList-from_zip (YieldsList-from_rev_slice c.args.text.now cc) (YieldsList-from_rev_slice c.args.self.now cc))
    (length-reverse c.args.text.now ∙ size ∙ sym (length-reverse c.args.self.now))
    (λ x q k. search (rules, tests))
    (λ x q k. search (rules, tests)))
