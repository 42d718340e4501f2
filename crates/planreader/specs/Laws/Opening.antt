-- Record 1, one check after the other, by what stands inside its fields. Assumes nothing.
use Rattle.std.specs.Prelude.{◌≡◌, refl, Bool, true, false, Option, None, Some, List, [], ℕ, get_or}
use Rattle.std.proofs.Common.{sym, ◌∙◌}
use Rattle.rfc4180.specs.Fields.{raw_fields}
use Rattle.rfc4180.specs.Text.{ascii}
use Rattle.csv_fields.specs.Spans.{inside_of, holds_quote}
use Rattle.planning.specs.declared.Fault.{Fault}
use Rattle.planning.specs.declared.Fault.TheVariants.{Kind, Value}
use Rattle.planning.specs.declared.Mode.{Mode}
use Rattle.planning.specs.Bounds.{most_minutes, most_tries}
use Rattle.planfile.specs.FilePlan.{FilePlan, begun}
use Rattle.planfile.specs.Reading.{Read, accepted, ◌>>=◌, fault, require, same, FourFields, fields_of, mode_by, read_mode, read_number, read_plan}
use Rattle.planreader.specs.Laws.FieldNumbers.{number-inside}
use Rattle.planreader.specs.Laws.Names.{pointwise-same}
use Rattle.planreader.specs.Laws.Parts.{by_ranged, read-by-ranged}
use Rattle.planreader.specs.Laws.Words.{word_same}
use Rattle.planreader.specs.Opening.{mode_by as named_by, mode_named, mode_read, read_opening}
use Rattle.planreader.specs.Parts.{ranged_of, Valued}
use Rattle.planreader.specs.Results.{Ranged}

-- a text that is no record of four fields
pub opening_faulty : (text : List ℕ) (what : Fault) → fields_of 1 text ≡ fault what 1 → read_opening text ≡ fault what 1
unfolding read_opening ◌>>=◌ fault
opening_faulty text what e = rw e

-- the mode by its word
mode-read : (text : List ℕ) → mode_read (mode_named text) ≡ read_mode 1 text
unfolding mode_named read_mode
mode-read text =
    rw (pointwise-same text (ascii "fixed"), pointwise-same text (ascii "shortest")) (chosen (same text (ascii "fixed")) (same text (ascii "shortest")))
  where
    chosen : (fixed shortest : Bool) → mode_read (named_by fixed shortest) ≡ mode_by fixed shortest 1
    chosen true shortest = unfold mode_read named_by mode_by in refl
    chosen false true = unfold mode_read named_by mode_by in refl
    chosen false false = unfold mode_read named_by mode_by in refl

-- what stands inside four fields
abbrev pub insides : (text : List ℕ) → FourFields
insides text =
    record {
      first = inside_of (get_or (raw_fields text) 0 []);
      second = inside_of (get_or (raw_fields text) 1 []);
      third = inside_of (get_or (raw_fields text) 2 []);
      fourth = inside_of (get_or (raw_fields text) 3 []);
    }

-- record 1 is read by that as by the fields' values: words and numbers hold no quote
pub opening_insides : {text : List ℕ} {x : FourFields} → Valued text x → read_opening text ≡ read_plan (insides text)
unfolding read_opening ◌>>=◌ read_plan read_mode read_number ascii holds_quote
opening_insides {text} {x} v =
    rw (
      v.read 1,
      word_same _ x.first (ascii "plan") v.first refl,
      word_same _ x.second (ascii "fixed") v.second refl,
      word_same _ x.second (ascii "shortest") v.second refl,
      number-inside _ x.third v.third,
      number-inside _ x.fourth v.fourth,
    )

-- the checks, one after the other
unfoldable pub checked_by : (plan : Bool) → Option Mode → (minutes allowance : Ranged) → Read FilePlan
checked_by false mode minutes allowance = fault Kind 1
checked_by true None minutes allowance = fault Value 1
checked_by true (Some mode) None allowance = fault Value 1
checked_by true (Some mode) (Some minutes) None = fault Value 1
checked_by true (Some mode) (Some minutes) (Some allowance) = accepted (begun mode minutes allowance)

plan-checked : (x : FourFields) → read_plan x
    ≡ checked_by (same x.first (ascii "plan")) (mode_named x.second) (ranged_of 1 most_minutes x.third) (ranged_of 0 most_tries x.fourth)
unfolding read_plan
plan-checked x =
    rw (← mode-read x.second, read-by-ranged 1 most_minutes 1 x.third, read-by-ranged 0 most_tries 1 x.fourth)
    (go (same x.first (ascii "plan")) (mode_named x.second) (ranged_of 1 most_minutes x.third) (ranged_of 0 most_tries x.fourth))
  where
    go : (plan : Bool) (mode : Option Mode) (minutes allowance : Ranged)
        → ◌>>=◌ (require plan Kind 1)
        (λ u. ◌>>=◌ (mode_read mode) (λ m. ◌>>=◌ (by_ranged 1 minutes) (λ n. ◌>>=◌ (by_ranged 1 allowance) (λ a. accepted (begun m n a)))))
        ≡ checked_by plan mode minutes allowance
    go false mode minutes allowance = unfold ◌>>=◌ require fault checked_by in refl
    go true None minutes allowance = unfold ◌>>=◌ require fault mode_read checked_by in refl
    go true (Some mode) None allowance = unfold ◌>>=◌ require fault mode_read by_ranged checked_by in refl
    go true (Some mode) (Some minutes) None = unfold ◌>>=◌ require fault mode_read by_ranged checked_by in refl
    go true (Some mode) (Some minutes) (Some allowance) = unfold ◌>>=◌ require fault mode_read by_ranged checked_by in refl

-- record 1 by what its checks find inside its fields
pub opening-checked : {text : List ℕ} {x : FourFields} → Valued text x → {plan : Bool} {mode : Option Mode} {minutes allowance : Ranged}
    → plan ≡ same (insides text).first (ascii "plan") → mode ≡ mode_named (insides text).second
    → minutes ≡ ranged_of 1 most_minutes (insides text).third → allowance ≡ ranged_of 0 most_tries (insides text).fourth
    → checked_by plan mode minutes allowance ≡ read_opening text
opening-checked {text} v kind mode minutes allowance = rw (kind, mode, minutes, allowance) (sym (opening_insides v ∙ plan-checked (insides text)))
