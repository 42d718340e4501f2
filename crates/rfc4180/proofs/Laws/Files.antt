-- The records of a file, one after the other: `file_values` reads the files of the grammar and no others, and a file can be
-- walked along the first record that `first_record` finds. Assumes nothing.
use Rattle.std.specs.Prelude.{◌≡◌, refl, ℕ, zero, suc, ◌+◌, ◌-◌, ◌≤◌, Bool, true, false, cond, ◌&&◌, length, eqb}
use Rattle.std.proofs.Common.{sym, ap, ◌∙◌, subst, arith, length-append, eqb-true}
use Rattle.std.proofs.Math.Bool.{and-eq-true_iff}
use Rattle.std.proofs.Math.Option.{Option, none, some, none-ne-some, some_inj, get_or}
use mathlib.Core.List.{List, [], ◌∷◌, ◌++◌, append-nil, cons-ne-nil}
use Rattle.rfc4180.specs.Bytes.{carriage_return, line_feed}
use Rattle.rfc4180.specs.Grammar.{Record, File, file-last, file-ended, file-more}
use Rattle.rfc4180.specs.Records.{FirstRecord, outside_after, behind_end, ended_or, first_from, first_record, further, further_records, records}
use Rattle.rfc4180.specs.Fields.{and_then, read_all, field_values, file_values}
use Rattle.rfc4180.proofs.Laws.Records.{first_record_ended, first_record_last, record_complete, record_sound, and-then}

-- ---- the first record and what stands behind it are the bytes

-- a record end and what stands behind it
abbrev pub ending : Option (List ℕ) → List ℕ
ending none = []
ending (some rest) = carriage_return ∷ line_feed ∷ rest

behind-end : (outside : Bool) (b c : ℕ) (rest back : List ℕ) (t : Bool) → (outside && eqb b carriage_return && eqb c line_feed) ≡ t
    → cond t (some rest) none ≡ some back → b ∷ c ∷ rest ≡ carriage_return ∷ line_feed ∷ back
behind-end outside b c rest back true e p =
    let both = (and-eq-true_iff (outside && eqb b carriage_return) (eqb c line_feed)).0 e in
    let first : b ≡ carriage_return = eqb-true b carriage_return ((and-eq-true_iff outside (eqb b carriage_return)).0 both.0).1 in
    let second : c ≡ line_feed = eqb-true c line_feed both.1 in
    rw (first, second, some_inj.0 p)
behind-end outside b c rest back false e p = absurd (none-ne-some _ p)

end-bytes : (outside : Bool) (bytes back : List ℕ) → behind_end outside bytes ≡ some back → bytes ≡ carriage_return ∷ line_feed ∷ back
unfolding behind_end
end-bytes outside [] back e = absurd (none-ne-some _ e)
end-bytes outside (b ∷ []) back e = absurd (none-ne-some _ e)
end-bytes outside (b ∷ c ∷ rest) back e = behind-end outside b c rest back (outside && eqb b carriage_return && eqb c line_feed) refl e

ended-bytes : (o : Option (List ℕ)) (b : ℕ) (found : FirstRecord) (rest : List ℕ)
    → ((back : List ℕ) → o ≡ some back → b ∷ rest ≡ carriage_return ∷ line_feed ∷ back)
    → rest ≡ found.text ++ ending found.behind → b ∷ rest ≡ (ended_or o b found).text ++ ending (ended_or o b found).behind
unfolding ended_or
ended-bytes none b found rest ends whole = ap (λ (l : List ℕ). b ∷ l) whole
ended-bytes (some back) b found rest ends whole = ends back refl

first-bytes : (outside : Bool) (bytes : List ℕ) → bytes ≡ (first_from outside bytes).text ++ ending (first_from outside bytes).behind
unfolding first_from
first-bytes outside [] = refl
first-bytes outside (b ∷ rest) =
    ended-bytes (behind_end outside (b ∷ rest)) b (first_from (outside_after outside b) rest) rest
    (end-bytes outside (b ∷ rest)) (first-bytes (outside_after outside b) rest)

-- the bytes are the text of the first record, and the record end and what stands behind it, where there is one
pub first_record_bytes : (bytes : List ℕ) → bytes ≡ (first_record bytes).text ++ ending (first_record bytes).behind
unfolding first_record
first_record_bytes bytes = first-bytes true bytes

-- ---- `records`, record by record

behind-shorter : (bytes text : List ℕ) (o : Option (List ℕ)) → bytes ≡ text ++ ending o → length (get_or o []) ≤ length bytes - 1
behind-shorter bytes text none e = omega arith
behind-shorter bytes text (some back) e =
    let total : length bytes ≡ length text + length (ending (some back)) = ap length e ∙ length-append text (ending (some back)) in
    omega arith

further-shorter : (bytes : List ℕ) → length (further (first_record bytes)) ≤ length bytes - 1
unfolding further
further-shorter bytes = behind-shorter bytes (first_record bytes).text (first_record bytes).behind (first_record_bytes bytes)

-- any bound that is large enough gives the same
same-records : (n m : ℕ) (bytes : List ℕ) → length bytes ≤ n → length bytes ≤ m → further_records n bytes ≡ further_records m bytes
unfolding further_records
same-records zero zero bytes p q = refl
same-records zero (suc m) [] p q = refl
same-records zero (suc m) (b ∷ rest) p q = absurd (omega arith)
same-records (suc n) zero [] p q = refl
same-records (suc n) zero (b ∷ rest) p q = absurd (omega arith)
same-records (suc n) (suc m) [] p q = refl
same-records (suc n) (suc m) (b ∷ rest) p q =
    let shorter : length (further (first_record (b ∷ rest))) ≤ suc (length rest) - 1 = further-shorter (b ∷ rest) in
    ap (λ (l : List (List ℕ)). (first_record (b ∷ rest)).text ∷ l) (same-records n m (further (first_record (b ∷ rest))) (omega arith) (omega arith))

no_further : (n : ℕ) → further_records n [] ≡ []
unfolding further_records
no_further zero = refl
no_further (suc n) = refl

-- a file without further bytes has one record
pub records-last : (bytes : List ℕ) → further (first_record bytes) ≡ [] → records bytes ≡ (first_record bytes).text ∷ []
unfolding records
records-last bytes e =
    ap (λ (l : List ℕ). (first_record bytes).text ∷ further_records (length bytes) l) e
    ∙ ap (λ (l : List (List ℕ)). (first_record bytes).text ∷ l) (no_further (length bytes))

-- any other has its first record and then the records of the further bytes
pub records-more : (bytes : List ℕ) (b : ℕ) (rest : List ℕ) → further (first_record bytes) ≡ b ∷ rest
    → records bytes ≡ (first_record bytes).text ∷ records (b ∷ rest)
unfolding records
records-more bytes b rest e =
    let shorter : length (b ∷ rest) ≤ length bytes - 1 = rw e at (further-shorter bytes) in
    ap (λ (l : List ℕ). (first_record bytes).text ∷ further_records (length bytes) l) e
    ∙ ap (λ (l : List (List ℕ)). (first_record bytes).text ∷ l)
    (same-records (length bytes) (suc (suc (length rest))) (b ∷ rest) (omega arith) (omega arith))

-- ---- a file, record by record

-- a file as its first record and what follows: nothing, or a file of at least one byte
pub data Walked (bytes : List ℕ) : List (List (List ℕ)) → Type 0 where
  walked_last : {values : List (List ℕ)}
      → further (first_record bytes) ≡ [] → Record (first_record bytes).text values → Walked bytes (values ∷ [])
  walked_more : {values : List (List ℕ)} {b : ℕ} {rest : List ℕ} {others : List (List (List ℕ))} → further (first_record bytes) ≡ b ∷ rest
      → Record (first_record bytes).text values → File (b ∷ rest) others → Walked bytes (values ∷ others)

found_record : (bytes text : List ℕ) (o : Option (List ℕ)) (values : List (List ℕ)) → first_record bytes ≡ record { text = text; behind = o }
    → Record text values → Record (first_record bytes).text values
found_record bytes text o values e r = subst (λ (found : FirstRecord). Record found.text values) (sym e) r

last-file : (bytes text : List ℕ) (values : List (List ℕ)) (o : Option (List ℕ)) → bytes ≡ text ++ ending o → get_or o [] ≡ []
    → Record text values → File bytes (values ∷ [])
last-file bytes text values none whole e r = rw (whole, append-nil) (file-last r)
last-file bytes text values (some rest) whole e r = rw (whole, e) (file-ended r)

more-file : (bytes text : List ℕ) (values : List (List ℕ)) (b : ℕ) (rest : List ℕ) (others : List (List (List ℕ))) (o : Option (List ℕ))
    → bytes ≡ text ++ ending o → get_or o [] ≡ b ∷ rest → Record text values → File (b ∷ rest) others → File bytes (values ∷ others)
more-file bytes text values b rest others none whole e r f = absurd (cons-ne-nil _ _ (sym e))
more-file bytes text values b rest others (some back) whole e r f = rw (whole, e) (file-more r f)

-- a first record of the grammar, with a file of the grammar behind it or nothing, is a file of the grammar
pub walked_file : {bytes : List ℕ} {all : List (List (List ℕ))} → Walked bytes all → File bytes all
unfolding further
walked_file {bytes} (walked_last {values = values} e r) =
    last-file bytes (first_record bytes).text values (first_record bytes).behind (first_record_bytes bytes) e r
walked_file {bytes} (walked_more {values = values} {b = b} {rest = rest} {others = others} e r f) =
    more-file bytes (first_record bytes).text values b rest others (first_record bytes).behind (first_record_bytes bytes) e r f

-- ---- the values of a file

-- a file without further bytes reads as its one record
pub file-values-last : (bytes : List ℕ) → further (first_record bytes) ≡ []
    → file_values bytes ≡ and_then (field_values (first_record bytes).text) (some [])
unfolding file_values
file-values-last bytes e = ap (read_all field_values) (records-last bytes e)

-- any other reads as its first record and then as the file of the further bytes
pub file-values-more : (bytes : List ℕ) (b : ℕ) (rest : List ℕ) → further (first_record bytes) ≡ b ∷ rest
    → file_values bytes ≡ and_then (field_values (first_record bytes).text) (file_values (b ∷ rest))
unfolding file_values
file-values-more bytes b rest e = ap (read_all field_values) (records-more bytes b rest e)

last_complete : (bytes : List ℕ) (values : List (List ℕ)) → further (first_record bytes) ≡ [] → Record (first_record bytes).text values
    → file_values bytes ≡ some (values ∷ [])
unfolding and_then
last_complete bytes values e r = file-values-last bytes e ∙ rw (record_complete r)

more_complete : (bytes : List ℕ) (values : List (List ℕ)) (b : ℕ) (rest : List ℕ) (others : List (List (List ℕ)))
    → further (first_record bytes) ≡ b ∷ rest → Record (first_record bytes).text values → file_values (b ∷ rest) ≡ some others
    → file_values bytes ≡ some (values ∷ others)
unfolding and_then
more_complete bytes values b rest others e r p = file-values-more bytes b rest e ∙ rw (record_complete r, p)

-- every file of the grammar is read as its values
pub file_complete : {bytes : List ℕ} {all : List (List (List ℕ))} → File bytes all → file_values bytes ≡ some all
unfolding further
file_complete (file-last r) = let e = first_record_last r in last_complete _ _ (ap further e) (found_record _ _ _ _ e r)
file_complete (file-ended r) = let e = first_record_ended r [] in last_complete _ _ (ap further e) (found_record _ _ _ _ e r)
file_complete (file-more {b = b} {rest = rest} r f) =
    let e = first_record_ended r (b ∷ rest) in
    more_complete _ _ b rest _ (ap further e) (found_record _ _ _ _ e r) (file_complete f)

-- one record of a file, where the reading of shorter files is known to be sound
module _ (bytes : List ℕ)
    (again : (b : ℕ) (rest : List ℕ) → length (b ∷ rest) ≤ length bytes - 1
    → (all : List (List (List ℕ))) → file_values (b ∷ rest) ≡ some all → File (b ∷ rest) all) where
  walked_by : (back : List ℕ) → further (first_record bytes) ≡ back → (all : List (List (List ℕ))) → file_values bytes ≡ some all → Walked bytes all
  walked_by [] e all p =
      and-then (Walked bytes) (field_values (first_record bytes).text) (some [])
      (λ values others q s. rw (← some_inj.0 s) (walked_last e (record_sound _ values q))) all (sym (file-values-last bytes e) ∙ p)
  walked_by (b ∷ rest) e all p =
      and-then (Walked bytes) (field_values (first_record bytes).text) (file_values (b ∷ rest))
      (λ values others q s. walked_more e (record_sound _ values q) (again b rest (rw e at (further-shorter bytes)) others s))
      all (sym (file-values-more bytes b rest e) ∙ p)

sound-within : (n : ℕ) (bytes : List ℕ) → length bytes ≤ n → (all : List (List (List ℕ))) → file_values bytes ≡ some all → File bytes all
sound-within zero bytes fits all p = walked_file (walked_by bytes (λ b rest shorter. absurd (omega arith)) (further (first_record bytes)) refl all p)
sound-within (suc n) bytes fits all p =
    walked_file (walked_by bytes (λ b rest shorter. sound-within n (b ∷ rest) (omega arith)) (further (first_record bytes)) refl all p)

-- all values that are read are the values of a file of the grammar
pub file-sound : (bytes : List ℕ) (all : List (List (List ℕ))) → file_values bytes ≡ some all → File bytes all
file-sound bytes all e = sound-within (length bytes) bytes (omega arith) all e

-- a file has one list of records
pub file_unique : {bytes : List ℕ} {vss wss : List (List (List ℕ))} → File bytes vss → File bytes wss → vss ≡ wss
file_unique f g = some_inj.0 (sym (file_complete f) ∙ file_complete g)

-- ---- how many records there are

further-count : (n : ℕ) (bytes : List ℕ) → length (further_records n bytes) ≤ n
unfolding further_records
further-count zero bytes = omega arith
further-count (suc n) [] = omega arith
further-count (suc n) (b ∷ rest) = omega (arith, further-count n (further (first_record (b ∷ rest))))

-- a file has at most one record more than it has bytes
pub records-count : (bytes : List ℕ) → length (records bytes) ≤ length bytes + 1
unfolding records
records-count bytes = omega (arith, further-count (length bytes) (further (first_record bytes)))
