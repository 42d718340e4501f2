-- The pattern is that of `inside_of`. Assumes nothing.
use Rattle.std.proofs.Common.{◌≡◌, sym, ap, ◌∙◌, ℕ, ◌-◌, length, take, drop, get_or, arith, le-leb, eq-eqb, ne_eqb}
use Rattle.std.proofs.lemmas.Bool.{lt-leb}
use Rattle.rfc4180.specs.Bytes.{quote}
use Rattle.csv_fields.specs.Spans.{inside_of}
use Rattle.csv_fields.specs.Laws.Promises.{hands_part}
use Rattle.csv_fields.proofs.fields.part_of.Goals as goal

pub returns-in-34 : goal.returns-in-34
unfolding inside_of
returns-in-34 c =
    let raw = c.args.raw.now in
    let first : get_or raw 0 0 ≡ quote = omega arith in
    let inside : inside_of raw ≡ take (length raw - 2) (drop 1 raw) =
    rw (le-leb 2 (length raw) c.in-34.len_at_least, eq-eqb (get_or raw 0 0) quote first) in
    let n : length raw - 1 - 1 ≡ length raw - 2 = omega arith in
    hands_part raw (ap (λ (k : ℕ). take k (drop 1 raw)) n ∙ sym inside)

pub returns-in_default : goal.returns-in_default
unfolding inside_of
returns-in_default c = hands_part _ (rw (lt-leb 2 _ c.in_default.len_below))

pub returns-in_default-2 : goal.returns-in_default-2
unfolding inside_of
returns-in_default-2 c =
    let raw = c.args.raw.now in
    let other : get_or raw 0 0 ≡ quote → ⊥ = λ e. omega arith in
    hands_part _ (rw (le-leb 2 _ c.in_default.len_at_least, ne_eqb _ _ other))
