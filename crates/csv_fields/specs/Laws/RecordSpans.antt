-- The records of a file one after the other, by the places at which they begin and end. Assumes nothing.
use Rattle.std.specs.Prelude.{◌≡◌, refl, List, [], ◌∷◌, ◌++◌, ℕ, zero, suc, ◌+◌, ◌-◌, ◌<◌, ◌≤◌, length, take, drop}
use Rattle.std.proofs.Common.{ap, arith, length-append, length-drop, drop_of_length-le, take_at, drop-drop}
use Rattle.std.proofs.Math.Option.{Option, none, some}
use Rattle.std.proofs.Math.Seq.{drop-append-add}
use Rattle.csv_fields.specs.declared.RecordSpan.{RecordSpan}
use Rattle.rfc4180.specs.Bytes.{carriage_return, line_feed}
use Rattle.rfc4180.specs.Records.{first_record, further, further_records}
use Rattle.rfc4180.proofs.Laws.Files.{ending, first_record_bytes}
use Rattle.csv_fields.specs.Spans.{span_from, record_span}

-- where the record that begins at a place of a file stands, and the next one
pub record Stands (file : List ℕ) (from : ℕ) (here behind : List ℕ) (span : RecordSpan) : Type 0 where
  pub starts : from ≤ span.end
  pub stops : span.end ≤ length file
  pub follows : span.end ≤ span.next
  pub inside : span.next ≤ length file
  pub onward : from < length file → from < span.next
  pub text : take (span.end - from) (drop from file) ≡ here
  pub next : drop span.next file ≡ behind

stands_by : (file : List ℕ) (from : ℕ) (text : List ℕ) (behind : Option (List ℕ)) → from ≤ length file → drop from file ≡ text ++ ending behind
    → Stands file from text (further (record { text = text; behind = behind })) (span_from from (length text) behind)
unfolding span_from further
stands_by file from text none l e =
    let whole : length text ≡ length file - from = omega (arith, ap length e, length-append text [], length-drop from file) in
    let n : from + length text - from ≡ length text = omega arith in
    record {
      starts = omega arith;
      stops = omega arith;
      follows = omega arith;
      inside = omega arith;
      onward = λ m. omega arith;
      text = rw (n, e) (take_at text [] (length text) refl);
      next = drop_of_length-le file {i = from + length text} (omega arith);
    }
stands_by file from text (some rest) l e =
    let whole : length text + suc (suc (length rest)) ≡ length file - from =
    omega (arith, ap length e, length-append text (carriage_return ∷ line_feed ∷ rest), length-drop from file) in
    let n : from + length text - from ≡ length text = omega arith in
    let m : from + length text + 2 ≡ from + (length text + 2) = omega arith in
    record {
      starts = omega arith;
      stops = omega arith;
      follows = omega arith;
      inside = omega arith;
      onward = λ m. omega arith;
      text = rw (n, e) (take_at text (carriage_return ∷ line_feed ∷ rest) (length text) refl);
      next = rw (m, ← drop-drop (length text + 2) from file, e) (drop-append-add text (carriage_return ∷ line_feed ∷ rest) 2);
    }

-- the span of a record stands around the text of the first record from its place on, and the next record begins at what stands behind that
pub record_stands : (file : List ℕ) (from : ℕ) → from ≤ length file
    → Stands file from (first_record (drop from file)).text (further (first_record (drop from file))) (record_span file from)
unfolding record_span first_record
record_stands file from l =
    stands_by file from (first_record (drop from file)).text (first_record (drop from file)).behind l (first_record_bytes (drop from file))

-- the further records from a place on, at most n, where there is a byte: the one there and those behind it
pub records-from : (file : List ℕ) (from n : ℕ) → from < length file → length (drop from file) ≤ n
    → (m : ℕ) × (length (drop (record_span file from).next file) ≤ m)
    × (further_records n (drop from file)
    ≡ (first_record (drop from file)).text ∷ further_records m (drop (record_span file from).next file))
records-from file from n l h = go n (drop from file) refl h
  where
    stands : Stands file from (first_record (drop from file)).text (further (first_record (drop from file))) (record_span file from)
    stands = record_stands file from (omega arith)

    go : (n : ℕ) (bytes : List ℕ) → drop from file ≡ bytes → length bytes ≤ n
        → (m : ℕ) × (length (drop (record_span file from).next file) ≤ m)
        × (further_records n bytes ≡ (first_record (drop from file)).text ∷ further_records m (drop (record_span file from).next file))
    go zero bytes e k = absurd (omega (arith, ap length e, length-drop from file))
    go (suc n) [] e k = absurd (omega (arith, ap length e, length-drop from file))
    go (suc n) (b ∷ rest) e k = (
      n,
      omega (arith, ap length e, length-drop from file, length-drop (record_span file from).next file, stands.onward l),
      unfold further_records in rw (stands.next, e),
    )
