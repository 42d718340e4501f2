-- A whole file: its size, record 1, then the others. Assumes nothing.
use Rattle.std.specs.Prelude.{◌≡◌, Result, Ok, Err, true, false, ◌&&◌, List, ℕ, ◌≤◌, leb, length, drop}
use Rattle.std.proofs.Math.Path.{refl}
use Rattle.std.proofs.Common.{ap, ◌∙◌, arith}
use Rattle.rfc4180.specs.Records.{first_record, further, further_records, records}
use Rattle.csv_fields.specs.Laws.RecordSpans.{Stands, record_stands}
use Rattle.csv_fields.specs.Spans.{record_span}
use Rattle.planning.specs.declared.Fault.{Fault}
use Rattle.planning.specs.declared.Fault.TheVariants.{Size}
use Rattle.planning.specs.declared.Refusal.{Refusal}
use Rattle.planning.proofs.Laws.Numbers.{within-iff}
use Rattle.planning.specs.Numbers.{within}
use Rattle.planfile.specs.Bounds.{most_bytes}
use Rattle.planfile.specs.FilePlan.{FilePlan}
use Rattle.planfile.specs.Reading.{Read, refused, accepted, ◌>>=◌, fault, require, FourFields, fields_of, read_plan, read_records, read_texts, read_file}
use Rattle.planreader.specs.declared.opening.Opening.{Opening}
use Rattle.planreader.specs.Laws.Exits.{at_place}
use Rattle.planreader.specs.Opening.{opened, read_opening, FirstRead, BeginsBy}
use Rattle.planreader.specs.Records.{require_engine, read_behind}

-- 1
pub file-size : (file : List ℕ) → (leb 1 (length file) && leb (length file) most_bytes) ≡ false → read_file file ≡ fault Size 0
unfolding read_file ◌>>=◌ require fault within
file-size file e = rw e

module _ (file : List ℕ) (fits : (leb 1 (length file) && leb (length file) most_bytes) ≡ true) where
  file-most : length file ≤ most_bytes
  unfolding within
  file-most = ((within-iff 1 most_bytes (length file)).0 fits).most

  -- record 1 stands at the front of the file
  first-stands : Stands file 0 (first_record file).text (further (first_record file)) (record_span file 0)
  first-stands = record_stands file 0 (omega arith)

  -- record 1, then the others
  by-fields : (texts : List (List ℕ)) (m : Read FourFields) → ◌>>=◌ m (λ x. ◌>>=◌ (read_plan x) (λ f. read_records f 2 texts))
      ≡ ◌>>=◌ (◌>>=◌ m read_plan) (λ f. read_records f 2 texts)
  unfolding ◌>>=◌
  by-fields texts (refused refusal) = refl
  by-fields texts (accepted x) = refl

  file-read : read_file file
      ≡ require_engine
      (◌>>=◌ (read_opening (first_record file).text) (λ f. read_records f 2 (further_records (length file) (drop (record_span file 0).next file))))
  unfolding read_file read_texts records read_opening require_engine require within
  file-read =
      unfold ◌>>=◌ in
      rw (fits, first-stands.next)
      (ap require_engine (by-fields (further_records (length file) (further (first_record file))) (fields_of 1 (first_record file).text)))

  -- record 1 has a fault
  pub opening_faulty : (what : Fault) → read_opening (first_record file).text ≡ fault what 1 → read_file file ≡ fault what 1
  unfolding require_engine ◌>>=◌ fault
  opening_faulty what e = file-read ∙ rw e

  -- or begins the plan
  pub opening_begins : (f : FilePlan) (next : ℕ) → next ≡ (record_span file 0).next → read_opening (first_record file).text ≡ accepted f
      → read_file file ≡ read_behind file next f
  unfolding ◌>>=◌ read_behind
  opening_begins f next behind e = file-read ∙ rw (e, behind)

-- the beginning by record 1, of whose fault a refusal is made
pub file-begins : (file : List ℕ) → (leb 1 (length file) && leb (length file) most_bytes) ≡ true → (first : Result (Opening × ℕ) Fault)
    → FirstRead file first → {begin : Result (Opening × ℕ) Refusal} → begin ≡ at_place 1 first → BeginsBy file begin
unfolding FirstRead BeginsBy at_place fault
file-begins file fits (Err what) read is = rw is (opening_faulty file fits what read)
file-begins file fits (Ok (o, next)) read is = rw is (file-most file fits, opening_begins file fits (opened o) next read.1 read.0)
