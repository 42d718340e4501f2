-- A record of a file cut into its fields, one field after the other: what is known when some of them are passed. Assumes nothing.
use Rattle.std.specs.Prelude.{◌≡◌, refl, ◌⊎◌, ℕ, ◌+◌, ◌-◌, ◌≤◌, ◌<◌, Bool, None, Some, Err}
use Rattle.std.specs.Prelude.{List, [], ◌∷◌, ◌++◌, length, take, drop, get_or, set}
use Rattle.std.proofs.Common.{sym, ap, ◌∙◌, subst, inl, inr, arith, append_assoc, length-append, length-set, get_or-set_same, get_or-set_other}
use Rattle.std.proofs.Common.{take_at, drop_at}
use Rattle.std.proofs.Math.Option.{Option, none, some, none-ne-some, some_inj}
use Rattle.std.proofs.Math.ListN.{get_or-append}
use Rattle.std.proofs.Math.Seq.{append_snoc}
use Rattle.std.proofs.lemmas.List.{get_or_at, set_past}
use Rattle.csv_fields.specs.declared.FieldEnd.TheVariants.{Comma, RecordEnd, FileEnd}
use Rattle.csv_fields.specs.declared.FieldRead.{FieldRead}
use Rattle.rfc4180.specs.Bytes.{comma}
use Rattle.rfc4180.specs.Fields.{raw_fields, field_value, and_then, read_all, field_values}
use Rattle.rfc4180.specs.Records.{first_record}
use Rattle.csv_fields.specs.Promises.{ReadsField}
use Rattle.csv_fields.specs.Results.{Reading}
use Rattle.csv_fields.specs.declared.FieldForm.{FieldForm}
use Rattle.csv_fields.specs.Spans.{record_span, value_form}
use Rattle.csv_fields.specs.Laws.RecordSpans.{record_stands}
use Rattle.csv_fields.specs.Laws.FieldReads.{ReadAt, broken_record, field_told, is_over}
use Rattle.planning.proofs.Laws.Finite.Decisions.{le-or-lt}
use Rattle.planning.specs.declared.Fault.TheVariants.{Grammar, Fields}
use Rattle.planreader.specs.declared.entry.FieldPlace.{FieldPlace}
use Rattle.planreader.specs.Fields.{nowhere, Place, Places, IsCut}
use Rattle.planreader.specs.Laws.FourFields.{text-broken, cut-other}
use Rattle.planreader.specs.Parts.{CutAt}

-- ---- the values of some fields and of one more

-- all have a value
abbrev pub Valued : List (List ℕ) → Type 0
Valued fields = (values : List (List ℕ)) × (read_all field_value fields ≡ some values)

-- one more field with a value
one-valued : (fields : List (List ℕ)) (field value : List ℕ) → field_value field ≡ some value → Valued fields → Valued (fields ++ field ∷ [])
unfolding read_all and_then
one-valued [] field value e v = (value ∷ [], rw e)
one-valued (first ∷ fields) field value e (values, f) =
    go (field_value first) (read_all field_value fields) refl refl f (λ v. one-valued fields field value e v)
  where
    go : (o : Option (List ℕ)) (others : Option (List (List ℕ))) → field_value first ≡ o → read_all field_value fields ≡ others
        → and_then o others ≡ some values → (Valued fields → Valued (fields ++ field ∷ [])) → Valued (first ∷ fields ++ field ∷ [])
    go none others p q f more = absurd (none-ne-some _ f)
    go (some a) none p q f more = absurd (none-ne-some _ f)
    go (some a) (some bs) p q f more = let (all, g) = more (bs, q) in (a ∷ all, rw (p, g))

-- fields of which the first that are left have none
left-broken : (fields others : List (List ℕ)) → read_all field_value others ≡ none → read_all field_value (fields ++ others) ≡ none
unfolding read_all and_then
left-broken [] others e = e
left-broken (first ∷ fields) others e = rw (left-broken fields others e) (go (field_value first))
  where
    go : (o : Option (List ℕ)) → and_then o none ≡ none
    go none = refl
    go (some value) = refl

-- ---- the places of the first four fields

module _ (text : List ℕ) (places : List FieldPlace) (count : ℕ) (fields : List (List ℕ)) (field : List ℕ) (stand : Places text places count fields) where
  -- one more of them is stored
  place_stored : (place : FieldPlace) → count < 4 → length places ≡ 4 → count ≡ length fields → Place text place field
      → Places text (set places count place) (count + 1) (fields ++ field ∷ [])
  place_stored place room whole counts here j l m = go (le-or-lt count j)
    where
      go : (count ≤ j) ⊎ (j < count) → Place text (get_or (set places count place) j nowhere) (get_or (fields ++ field ∷ []) j [])
      go (inl k) =
          let last : j ≡ count = omega arith in
          rw (last, get_or-set_same places count place nowhere (omega arith), get_or_at fields field [] [] count (sym counts)) here
      go (inr k) =
          let other : j ≡ count → ⊥ = λ e. omega arith in
          rw (get_or-set_other places count j place nowhere other, get_or-append fields (field ∷ []) [] j (omega arith)) (stand j k m)

  -- or they are all stored
  places_same : (n : ℕ) → 4 ≤ count → count ≤ length fields → Places text places n (fields ++ field ∷ [])
  places_same n all counts j l m = rw (get_or-append fields (field ∷ []) [] j (omega arith)) (stand j (omega arith) m)

-- a field behind some bytes of the text
place-behind : (text done raw tail value : List ℕ) (form : FieldForm) → text ≡ done ++ (raw ++ tail)
    → field_value raw ≡ some value → form ≡ value_form value
    → Place text (record { start = length done; end = length done + length raw; form = form }) raw
place-behind text done raw tail value form e reads formed =
    let n : length done + length raw - length done ≡ length raw = omega arith in
    record {
      begins = omega arith;
      ends = omega (arith, ap length e, length-append done (raw ++ tail), length-append raw tail);
      stands = rw (n, e, drop_at done (raw ++ tail) (length done) refl) (take_at raw tail (length raw) refl);
      formed = λ other. formed ∙ ap (λ (value : List ℕ). value_form value) (some_inj.0 (sym reads ∙ other));
    }

-- ---- the record

-- some fields of the record that begins at a place are passed: with those from another place on they are all
pub record Passed (file : List ℕ) (from : ℕ) (count : ℕ) (places : List FieldPlace) (at : ℕ) : Type 0 where
  pub fields : List (List ℕ)
  pub whole : raw_fields (first_record (drop from file)).text ≡ fields ++ raw_fields (first_record (drop at file)).text
  pub counted : count ≡ length fields
  pub valued : Valued fields
  pub room : length places ≡ 4
  pub stand : Places (first_record (drop from file)).text places count fields
  pub begins : at ≤ length file
  pub done : List ℕ
  pub few : count ≤ length done
  pub place : at ≡ from + length done
  pub text : (first_record (drop from file)).text ≡ done ++ (first_record (drop at file)).text
  pub span : record_span file from ≡ record_span file at

pub none_passed : (file : List ℕ) (from : ℕ) → from ≤ length file → Passed file from 0 (nowhere ∷ nowhere ∷ nowhere ∷ nowhere ∷ []) from
unfolding read_all
none_passed file from inside =
    record {
      fields = [];
      whole = refl;
      counted = refl;
      valued = ([], refl);
      room = refl;
      stand = λ j l m. absurd (omega arith);
      begins = inside;
      done = [];
      few = omega arith;
      place = omega arith;
      text = refl;
      span = refl;
    }

-- the next field is read
module _ {file : List ℕ} {from count : ℕ} {places : List FieldPlace} {at : ℕ} {r : Reading} (p : Passed file from count places at)
    (reads : ReadsField file at r) where
  -- it breaks the grammar
  pub cut_broken : r ≡ None → CutAt file from (Err Grammar)
  unfolding CutAt field_values
  cut_broken nothing =
      text-broken (first_record (drop from file)).text
      (rw p.whole (left-broken p.fields (raw_fields (first_record (drop at file)).text) (broken_record file at (sym reads.equals ∙ nothing))))

  module _ {read : FieldRead} (is : r ≡ Some read) where
    pub told : ReadAt file at read
    told = field_told file at (sym reads.equals ∙ is)

    next-text : (first_record (drop from file)).text ≡ p.done ++ (told.raw ++ told.tail)
    next-text = p.text ∙ ap (λ (text : List ℕ). p.done ++ text) told.text

    -- it stands in the text
    abbrev field_place : FieldPlace
    field_place = record { start = at - from; end = read.end - from; form = read.form }

    next_place : Place (first_record (drop from file)).text field_place told.raw
    next_place =
        let s : at - from ≡ length p.done = omega (arith, p.place) in
        let t : read.end - from ≡ length p.done + length told.raw = omega (arith, p.place, told.ends) in
        rw (s, t)
        (place-behind (first_record (drop from file)).text p.done told.raw told.tail told.value read.form next-text told.valued
        told.form)

    -- it is the last one: the text stands between the record's beginning and its end, and the next record begins behind it
    module _ (over : (read.ended_by ≡ RecordEnd) ⊎ (read.ended_by ≡ FileEnd)) where
      pub last_text : from ≤ length file → take (read.end - from) (drop from file) ≡ (first_record (drop from file)).text
      last_text inside =
          let stands = record_stands file from inside in
          let end : (record_span file from).end ≡ read.end = rw p.span (told.stops (is_over over)) in
          rw (← end) stands.text

      pub last_next : read.next ≡ (record_span file from).next
      last_next = sym (rw p.span (told.next (is_over over)))

    -- its place is stored where there is room
    module _ {places' : List FieldPlace} (stored : places' ≡ set places count field_place) where
      next-room : length places' ≡ 4
      next-room = rw stored (length-set places count field_place ∙ p.room)

      next-counted : count + 1 ≡ length (p.fields ++ told.raw ∷ [])
      next-counted = omega (arith, p.counted, length-append p.fields (told.raw ∷ []))

      next-stand : Places (first_record (drop from file)).text places' (count + 1) (p.fields ++ told.raw ∷ [])
      next-stand = go (le-or-lt 4 count)
        where
          go : (4 ≤ count) ⊎ (count < 4) → Places (first_record (drop from file)).text places' (count + 1) (p.fields ++ told.raw ∷ [])
          go (inl full) =
              let kept : places' ≡ places = stored ∙ set_past places count field_place (omega (arith, p.room)) in
              rw kept (places_same _ places count p.fields told.raw p.stand (count + 1) full (omega (arith, p.counted)))
          go (inr room) = rw stored (place_stored _ places count p.fields told.raw p.stand field_place room p.room p.counted next_place)

      -- it is passed, where there are more
      pub next_passed : read.ended_by ≡ Comma → Passed file from (count + 1) places' read.next
      next_passed goes =
          record {
            fields = p.fields ++ told.raw ∷ [];
            whole = p.whole
                ∙ ap (λ (others : List (List ℕ)). p.fields ++ others) (told.others goes)
                ∙ sym (append_snoc p.fields told.raw _);
            counted = next-counted;
            valued = one-valued p.fields told.raw told.value told.valued p.valued;
            room = next-room;
            stand = next-stand;
            begins = told.inside goes;
            done = p.done ++ (told.raw ++ comma ∷ []);
            few = omega (arith, p.few, length-append p.done (told.raw ++ comma ∷ []), length-append told.raw (comma ∷ []));
            place = omega (
              arith,
              p.place,
              told.ends,
              told.behind goes,
              length-append p.done (told.raw ++ comma ∷ []),
              length-append told.raw (comma ∷ []),
            );
            text = next-text
                ∙ rw (told.onward goes)
                (ap (λ (text : List ℕ). p.done ++ text) (sym (append_assoc told.raw (comma ∷ []) (first_record (drop read.next file)).text))
                ∙ sym (append_assoc p.done (told.raw ++ comma ∷ []) (first_record (drop read.next file)).text));
            span = p.span ∙ told.span goes;
          }

      -- or is the last one: all are passed
      module _ (over : (read.ended_by ≡ RecordEnd) ⊎ (read.ended_by ≡ FileEnd)) where
        all-fields : raw_fields (first_record (drop from file)).text ≡ p.fields ++ told.raw ∷ []
        all-fields = p.whole ∙ ap (λ (others : List (List ℕ)). p.fields ++ others) (told.last (is_over over))

        last-sound : field_values (first_record (drop from file)).text ≡ none → ⊥
        unfolding field_values
        last-sound broken =
            let (values, valued) = one-valued p.fields told.raw told.value told.valued p.valued in
            none-ne-some values (sym broken ∙ rw all-fields valued)

        last-counted : length (raw_fields (first_record (drop from file)).text) ≡ count + 1
        last-counted = rw all-fields (sym next-counted)

        -- not four of them
        pub last_other : (count + 1 ≡ 4 → ⊥) → CutAt file from (Err Fields)
        unfolding CutAt
        last_other other = cut-other _ last-sound (λ four. other (sym last-counted ∙ four))

        -- four of them
        pub last_cut : from ≤ length file → count + 1 ≡ 4 → IsCut (take (read.end - from) (drop from file)) places'
        last_cut inside four =
            rw (last_text over inside)
            (record {
              whole = next-room;
              sound = last-sound;
              counted = last-counted ∙ four;
              stand = rw all-fields (subst (λ n. Places (first_record (drop from file)).text places' n (p.fields ++ told.raw ∷ [])) four next-stand);
            })
