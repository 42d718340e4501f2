-- Its tests are the decision by class. Assumes nothing.
use Rattle.std.proofs.Common.{◌≡◌, ◌∙◌, refl, sym, ℕ, ◌≤◌, ◌<◌, Bool, leb, eqb, arith, le-leb, leb-true, eq-eqb, ne_eqb}
use Rattle.std.proofs.Math.Bool.{true, false, not, ◌&&◌, ◌||◌}
use Rattle.std.proofs.lemmas.Bool.{lt-leb}
use Rattle.rfc4180.specs.Bytes.{quote, comma, in_range, class_of}
use Rattle.csv_fields.specs.Scans.{is_plain}
use Rattle.csv_fields.specs.Laws.Scans.{plain_compared}
use Rattle.csv_fields.proofs.scans.is_plain.Goals as goal
use Rattle.csv_fields.proofs.scans.is_plain.Goals.{then-x-ge32, else-x-ge32, then-x-le126, else-x-le126}

module _ (quoted : Bool) (x : ℕ) where
  -- from 20 to 7E a comma alone asks whether the field is quoted
  within : 0x20 ≤ x → x ≤ 0x7E → (x ≡ quote → ⊥) → (quoted || not (eqb x comma)) ≡ is_plain quoted (class_of x)
  unfolding in_range
  within low high other = rw (le-leb 0x20 x low, le-leb x 0x7E high, ne_eqb x quote other) at (plain_compared quoted x)

  -- a quote and what is out of that range is not plain
  beyond : (0x20 ≤ x → x ≤ 0x7E → x ≡ quote) → false ≡ is_plain quoted (class_of x)
  unfolding in_range
  beyond never = sym (go (leb 0x20 x) (leb x 0x7E) refl refl) ∙ plain_compared quoted x
    where
      go : (s t : Bool) → leb 0x20 x ≡ s → leb x 0x7E ≡ t → ((s && t) && not (eqb x quote) && (quoted || not (eqb x comma))) ≡ false
      go false t p q = refl
      go true false p q = refl
      go true true p q = rw (eq-eqb x quote (never (leb-true 0x20 x p) (leb-true x 0x7E q)))

inside : (quoted : Bool) (x : ℕ) → quoted ≡ true → 0x20 ≤ x → x ≤ 0x7E → (x ≡ quote → ⊥) → quoted ≡ is_plain quoted (class_of x)
inside quoted x e low high other = rw e (within true x low high other)

outside : (quoted : Bool) (x : ℕ) → quoted ≡ false → 0x20 ≤ x → x ≤ 0x7E → (x ≡ quote → ⊥) → not (eqb x comma) ≡ is_plain quoted (class_of x)
outside quoted x e low high other = rw e (within false x low high other)

pub returns-then-this-ne0 : goal.returns-then-this-ne0
returns-then-this-ne0 g c =
    let (low, high, other) = c.if-x-ne34.true in
    inside _ c.args.x (rw (ne_eqb g.row.QUOTED 0 c.if-this-ne0.true)) low high other

pub returns-else-this-ne0 : goal.returns-else-this-ne0
returns-else-this-ne0 g c =
    let (low, high, other) = c.if-x-ne34.true in
    outside _ c.args.x (rw c.if-this-ne0.false) low high other

pub returns-else-x-ne34 : goal.returns-else-x-ne34
returns-else-x-ne34 g c =
    let never : 0x20 ≤ c.args.x → c.args.x ≤ 0x7E → c.args.x ≡ quote = λ low high. grind arith in
    elim c.if-x-ge32.branch [
      | then-x-ge32 w ↦ elim c.if-x-le126.branch [
        | then-x-le126 v ↦ (let e : c.args.x ≡ quote = omega arith in v.t-3-is ∙ rw (eq-eqb c.args.x quote e) (beyond _ _ never))
        | else-x-le126 v ↦ (let high : 0x7E < c.args.x = omega arith in v.t-3-is ∙ w.t-4-is ∙ rw (lt-leb c.args.x 0x7E high) (beyond _ _ never))
      ]
      | else-x-ge32 w ↦ elim c.if-x-le126.branch [
        | then-x-le126 v ↦ absurd (omega arith)
        | else-x-le126 v ↦ v.t-3-is ∙ w.t-4-is ∙ rw (lt-leb 0x20 c.args.x w.if-x-ge32.false) (beyond _ _ never)
      ]
    ]
