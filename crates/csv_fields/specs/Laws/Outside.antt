-- The first byte outside quotes from a place on, found byte after byte, and what it says of the spans of records and fields.
-- Assumes nothing.
use Rattle.std.specs.Prelude.{◌≡◌, refl, Bool, true, false, cond, ◌&&◌, List, [], ◌∷◌, ℕ, suc, ◌+◌, ◌≤◌, ◌<◌, eqb, ltb, length, drop, get_or}
use Rattle.std.proofs.Common.{sym, ap, ◌∙◌, arith, drop_of_length-le, length-drop, drop-drop, lt-ltb, le-ltb, ltb-true, ltb-false, eq-eqb}
use Rattle.std.proofs.lemmas.Bool.{false≢true}
use Rattle.rfc4180.specs.Bytes.{comma, carriage_return}
use Rattle.rfc4180.specs.Records.{outside_after, first_from}
use Rattle.rfc4180.specs.Fields.{raw_fields_from, raw_fields}
use Rattle.csv_fields.specs.Outside.{ahead, FoundOutside}
use Rattle.csv_fields.specs.Spans.{field_from, field_span}
use Rattle.rfc4180.proofs.Laws.Places.{bytes-from}
use Rattle.csv_fields.specs.Laws.Spans.{span_of, no_end, record_passed, field-passed, field-ended}

-- the place of the first b outside quotes, from a place on
abbrev pub place_of : (b : ℕ) → (outside : Bool) → (bytes : List ℕ) → (at : ℕ) → ℕ
place_of b outside bytes at = at + ahead b outside (drop at bytes)

-- a byte that is not it
pub place-passed : (b : ℕ) (outside : Bool) (bytes : List ℕ) (at : ℕ) → at < length bytes → (outside && eqb (get_or bytes at 0) b) ≡ false
    → place_of b outside bytes at ≡ place_of b (outside_after outside (get_or bytes at 0)) bytes (at + 1)
unfolding ahead
place-passed b outside bytes at h e = rw (bytes-from bytes at h, e) (omega arith)

-- it is here
pub place_here : (b : ℕ) (bytes : List ℕ) (at : ℕ) → at < length bytes → get_or bytes at 0 ≡ b → place_of b true bytes at ≡ at
unfolding ahead
place_here b bytes at h e = rw (bytes-from bytes at h, eq-eqb (get_or bytes at 0) b e) (omega arith)

-- the bytes end here
pub place_end : (b : ℕ) (outside : Bool) (bytes : List ℕ) (at : ℕ) → length bytes ≤ at → place_of b outside bytes at ≡ at
unfolding ahead
place_end b outside bytes at h = rw (drop_of_length-le bytes {i = at} h) (omega arith)

-- ---- the record

module _ (b : ℕ) (rest : List ℕ) (at : ℕ) where
  record_byte : (outside : Bool) → let n = ahead carriage_return (outside_after outside b) rest in
      span_of (at + 1) (first_from (outside_after outside b) rest) ≡ span_of (at + 1 + n) (first_from true (drop n rest))
      → (t : Bool) → (outside && eqb b carriage_return) ≡ t
      → span_of at (first_from outside (b ∷ rest)) ≡ span_of (at + cond t 0 (suc n)) (first_from true (drop (cond t 0 (suc n)) (b ∷ rest)))
  record_byte true further true e = let z : at ≡ at + 0 = omega arith in ap (λ (k : ℕ). span_of k (first_from true (b ∷ rest))) z
  record_byte false further true e = absurd (false≢true e)
  record_byte outside further false e =
      let n = ahead carriage_return (outside_after outside b) rest in
      let z : at + 1 + n ≡ at + suc n = omega arith in
      record_passed outside b rest at (no_end outside b rest e) ∙ further ∙ ap (λ (k : ℕ). span_of k (first_from true (drop n rest))) z

record_ahead : (outside : Bool) (left : List ℕ) (at : ℕ) → let n = ahead carriage_return outside left in
    span_of at (first_from outside left) ≡ span_of (at + n) (first_from true (drop n left))
unfolding ahead first_from
record_ahead outside [] at = let z : at ≡ at + 0 = omega arith in rw (← z)
record_ahead outside (b ∷ rest) at =
    record_byte b rest at outside (record_ahead (outside_after outside b) rest (at + 1)) (outside && eqb b carriage_return) refl

-- a record goes on up to the first CR outside quotes
pub record_found : (file : List ℕ) (at r : ℕ) → FoundOutside file at carriage_return r
    → span_of at (first_from true (drop at file)) ≡ span_of r (first_from true (drop r file))
record_found file at r found =
    record_ahead true (drop at file) at
    ∙ rw (drop-drop (ahead carriage_return true (drop at file)) at file, ← found.place)

-- ---- the field

-- two tests of one fact
same_test : (a b c d : ℕ) → (a < b → c < d) → (c < d → a < b) → ltb a b ≡ ltb c d
same_test a b c d there back = go (ltb c d) refl
  where
    go : (t : Bool) → ltb c d ≡ t → ltb a b ≡ t
    go true e = lt-ltb a b (back (ltb-true c d e))
    go false e = le-ltb a b (not-less (ltb-false c d e))
      where
        not-less : d ≤ c → b ≤ a
        not-less h = by (ltb a b) refl
          where
            by : (t : Bool) → ltb a b ≡ t → b ≤ a
            by true p = let less = there (ltb-true a b p) in absurd (omega arith)
            by false p = ltb-false a b p

module _ (b : ℕ) (rest : List ℕ) (at : ℕ) where
  field_byte : (outside : Bool) → let n = ahead comma (outside_after outside b) rest in
      field_from (at + 1) (raw_fields_from (outside_after outside b) rest) ≡ record { end = at + 1 + n; more = ltb n (length rest) }
      → (t : Bool) → (outside && eqb b comma) ≡ t
      → field_from at (raw_fields_from outside (b ∷ rest)) ≡ record { end = at + cond t 0 (suc n); more = ltb (cond t 0 (suc n)) (suc (length rest)) }
  field_byte outside further true e = let z : at + 0 ≡ at = omega arith in rw (z, lt-ltb 0 (suc (length rest)) (omega arith)) (field-ended outside b rest at e)
  field_byte outside further false e =
      let n = ahead comma (outside_after outside b) rest in
      let z : at + suc n ≡ at + 1 + n = omega arith in
      field-passed outside b rest at e ∙ further ∙ rw (z, same_test (suc n) (suc (length rest)) n (length rest) (λ h. omega arith) (λ h. omega arith))

field-ahead : (outside : Bool) (left : List ℕ) (at : ℕ) → let n = ahead comma outside left in
    field_from at (raw_fields_from outside left) ≡ record { end = at + n; more = ltb n (length left) }
unfolding ahead raw_fields_from field_from
field-ahead outside [] at = refl
field-ahead outside (b ∷ rest) at =
    field_byte b rest at outside (field-ahead (outside_after outside b) rest (at + 1)) (outside && eqb b comma) refl

-- a field goes up to the first comma outside quotes
pub field_found : (text : List ℕ) (from r : ℕ) → FoundOutside text from comma r → record { end = r; more = ltb r (length text) } ≡ field_span text from
unfolding field_span raw_fields
field_found text from r found =
    let n = ahead comma true (drop from text) in
    let left = length-drop from text in
    let e : r ≡ from + n = found.place in
    sym
    (field-ahead true (drop from text) from
    ∙ rw (← e, same_test r (length text) n (length (drop from text)) (λ h. omega arith) (λ h. omega arith)))
