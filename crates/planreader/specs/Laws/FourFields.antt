-- What a record's text that was cut into its fields is read as: a fault, or four fields by their values. Assumes nothing.
use Rattle.std.specs.Prelude.{◌≡◌, ℕ, suc, length, get_or}
use Rattle.std.proofs.Math.Path.{refl, ap}
use Rattle.std.proofs.Common.{◌∙◌, arith}
use mathlib.Core.List.{List, [], ◌∷◌}
use Rattle.std.proofs.Math.Option.{Option, none, some}
use Rattle.rfc4180.specs.Fields.{raw_fields, field_value, read_all, field_values}
use Rattle.rfc4180.proofs.Laws.Records.{and-then}
use Rattle.planning.specs.declared.Fault.TheVariants.{Grammar}
use Rattle.planning.specs.declared.Fault.TheVariants as what
use Rattle.planfile.proofs.Laws.Records.{field_list, fields-iff}
use Rattle.planfile.specs.Reading.{fault, FourFields, four_of, unless_broken, fields_of}
use Rattle.planreader.specs.declared.entry.FieldPlace.{FieldPlace}
use Rattle.planreader.specs.Fields.{IsCut}
use Rattle.planreader.specs.Parts.{Valued}

-- raw fields that all have a value have as many values
values_length : (raws values : List (List ℕ)) → read_all field_value raws ≡ some values → length values ≡ length raws
unfolding read_all
values_length [] values e = let z : [] ≡ values = cc in rw (← z)
values_length (raw ∷ raws) values e =
    and-then (λ all. length all ≡ suc (length raws)) (field_value raw) (read_all field_value raws)
    (λ value others p q. ap suc (values_length raws others q)) values e

-- their values, one after the other
Values : (raws values : List (List ℕ)) → Type 0
Values raws values =
    (x : FourFields) × (values ≡ field_list x)
    × ((field_value (get_or raws 0 []) ≡ some x.first) × ((field_value (get_or raws 1 []) ≡ some x.second)
    × ((field_value (get_or raws 2 []) ≡ some x.third) × (field_value (get_or raws 3 []) ≡ some x.fourth))))

four_values : (raws values : List (List ℕ)) → length raws ≡ 4 → read_all field_value raws ≡ some values → Values raws values
unfolding read_all Values
four_values [] values l e = absurd (omega arith)
four_values (a ∷ []) values l e = absurd (omega arith)
four_values (a ∷ b ∷ []) values l e = absurd (omega arith)
four_values (a ∷ b ∷ c ∷ []) values l e = absurd (omega arith)
four_values (a ∷ b ∷ c ∷ d ∷ more ∷ others) values l e = absurd (omega arith)
four_values (a ∷ b ∷ c ∷ d ∷ []) values l e =
    and-then (Values (a ∷ b ∷ c ∷ d ∷ [])) (field_value a) (read_all field_value (b ∷ c ∷ d ∷ []))
    (λ va vs p ps.
    and-then (λ vs. Values (a ∷ b ∷ c ∷ d ∷ []) (va ∷ vs)) (field_value b) (read_all field_value (c ∷ d ∷ []))
    (λ vb vs q qs.
    and-then (λ vs. Values (a ∷ b ∷ c ∷ d ∷ []) (va ∷ vb ∷ vs)) (field_value c) (read_all field_value (d ∷ []))
    (λ vc vs r rs.
    and-then (λ vs. Values (a ∷ b ∷ c ∷ d ∷ []) (va ∷ vb ∷ vc ∷ vs)) (field_value d) (some [])
    (λ vd vs s ss.
    let over : [] ≡ vs = cc in (
      record { first = va; second = vb; third = vc; fourth = vd },
      rw (← over),
      (p, (q, (r, s))),
    )) vs rs) vs qs) vs ps) values e

-- 2
pub text-broken : (text : List ℕ) → field_values text ≡ none → (r : ℕ) → fields_of r text ≡ fault Grammar r
unfolding fields_of unless_broken
text-broken text e r = rw e

module _ (text : List ℕ) (sound : field_values text ≡ none → ⊥) where
  -- its values
  read_values : (values : List (List ℕ)) × (field_values text ≡ some values)
  read_values = go (field_values text) refl
    where
      go : (o : Option (List (List ℕ))) → field_values text ≡ o → (values : List (List ℕ)) × (field_values text ≡ some values)
      go none e = absurd (sound e)
      go (some values) e = (values, e)

  -- 3
  pub cut-other : (length (raw_fields text) ≡ 4 → ⊥) → (r : ℕ) → fields_of r text ≡ fault what.Fields r
  unfolding fields_of unless_broken field_values
  cut-other other r =
      let (values, valued) = read_values in
      ap (unless_broken r) valued
      ∙ go values (λ four. other (omega (arith, values_length (raw_fields text) values valued)))
    where
      go : (values : List (List ℕ)) → (length values ≡ 4 → ⊥) → four_of r values ≡ fault what.Fields r
      go [] n = unfold four_of in refl
      go (a ∷ []) n = unfold four_of in refl
      go (a ∷ b ∷ []) n = unfold four_of in refl
      go (a ∷ b ∷ c ∷ []) n = unfold four_of in refl
      go (a ∷ b ∷ c ∷ d ∷ []) n = absurd (n refl)
      go (a ∷ b ∷ c ∷ d ∷ more ∷ others) n = unfold four_of in refl

-- the four fields
pub cut_four : {text : List ℕ} {places : List FieldPlace} → IsCut text places → (x : FourFields) × Valued text x
unfolding field_values Values
cut_four {text} c =
    let (values, valued) = read_values text c.sound in
    let (x, list, (p, (q, (s, t)))) = four_values (raw_fields text) values c.counted valued in
    (x, record { read = λ r. (fields-iff r text x).1 (valued ∙ ap some list); first = p; second = q; third = s; fourth = t })
