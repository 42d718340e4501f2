-- Where the records of a file end. Document 01: "A record ends at the first CR LF outside quotes. Outside quotes means after an even
-- number of quote bytes. An unclosed quote is 2."
-- Assumes nothing.
use Rattle.std.specs.Prelude.{ℕ, zero, suc, Bool, true, cond, not, ◌&&◌, List, [], ◌∷◌, length, eqb}
use Rattle.std.proofs.Math.Option.{Option, none, some, get_or}
use Rattle.rfc4180.specs.Bytes.{quote, carriage_return, line_feed}

-- the first record of some bytes: its text, and what stands behind the CR LF that ends it, none where no CR LF ends it
pub record FirstRecord : Type 0 where
  pub text : List ℕ
  pub behind : Option (List ℕ)

-- whether an even number of quotes has been met, behind one more byte
unfoldable pub outside_after : Bool → ℕ → Bool
outside_after outside b = cond (eqb b quote) (not outside) outside

-- what stands behind the record end at the front of some bytes, none where they do not begin with one
unfoldable pub behind_end : Bool → List ℕ → Option (List ℕ)
behind_end outside [] = none
behind_end outside (b ∷ []) = none
behind_end outside (b ∷ c ∷ rest) = cond (outside && eqb b carriage_return && eqb c line_feed) (some rest) none

-- a record that ends here, or else one more byte of its text
unfoldable pub ended_or : Option (List ℕ) → ℕ → FirstRecord → FirstRecord
ended_or (some rest) b front = record { text = []; behind = some rest }
ended_or none b front = record { text = b ∷ front.text; behind = front.behind }

-- what is left of the first record where its text so far is, or is not, outside quotes
unfoldable pub first_from : Bool → List ℕ → FirstRecord
unfolding outside_after behind_end ended_or
first_from outside [] = record { text = []; behind = none }
first_from outside (b ∷ rest) =
    let front = first_from (outside_after outside b) rest in
    ended_or (behind_end outside (b ∷ rest)) b front

-- the first record of a file or of the rest of a file
unfoldable pub first_record : List ℕ → FirstRecord
unfolding first_from
first_record bytes = first_from true bytes

-- the bytes of the records after the first one: empty where there is no further record
unfoldable pub further : FirstRecord → List ℕ
further front = get_or front.behind []

-- the texts of the records, at most n, that follow a record: none where no byte follows
unfoldable pub further_records : ℕ → List ℕ → List (List ℕ)
unfolding first_record further
further_records zero bytes = []
further_records (suc n) [] = []
further_records (suc n) (b ∷ rest) =
    let front = first_record (b ∷ rest) in
    front.text ∷ further_records n (further front)

-- the texts of all records of a file, from the front; a file has one record or more
unfoldable pub records : List ℕ → List (List ℕ)
unfolding further_records
records bytes =
    let front = first_record bytes in
    front.text ∷ further_records (length bytes) (further front)
