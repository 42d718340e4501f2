-- A quiet span of a record, one check after the other, and the plan by value with it. Assumes nothing.
use Rattle.std.specs.Prelude.{◌≡◌, refl, ◌⊎◌, Bool, Option, None, Some, ltb, Result, Ok, Err, ℕ, zero, suc, ◌+◌, ◌*◌, ◌-◌, ◌≤◌, ◌<◌, length, replicate}
use Rattle.std.proofs.Math.Path.{sym, ap}
use Rattle.std.proofs.Common.{◌∙◌, inl, inr, arith, take, length-append, take_at}
use Rattle.std.proofs.Math.Bool.{true, false}
use mathlib.Core.List.{List, [], ◌∷◌, ◌++◌, map, map-append}
use Rattle.std.proofs.Math.ListN.{length-map}
use Rattle.std.proofs.lemmas.List.{length-replicate}
use Rattle.std.specs.List.{flat_map}
use Rattle.std.proofs.Math.Option.{none}
use borrow.Author.Tests.{lt-ltb, le-ltb}
use Rattle.planning.specs.declared.Fault.{Fault}
use Rattle.planning.specs.declared.Fault.TheVariants.{Value, UnknownEngine, QuietSpan}
use Rattle.planning.specs.Bounds.{most_engines, most_quiet, most_minutes}
use Rattle.planning.proofs.Laws.Finite.Decisions.{le-or-lt}
use Rattle.planning.proofs.Laws.Numbers.{QuietKept, kept-none, kept_more, kept_wider, then-iff, check-iff, within-iff}
use Rattle.planning.specs.Tables.{filled}
use Rattle.planning.proofs.Laws.Quiet.{few-spans}
use Rattle.planning.proofs.Laws.Triples.{quiet-count, quiet_triples}
use Rattle.planning.specs.Numbers.{quiet_of, quiet_three, triples_of, quiet_fault}
use Rattle.planning.specs.Plan.{All, Within}
use Rattle.planning.specs.Quiet.{Quiet, spans_of, fits}
use Rattle.planfile.specs.Bounds.{most_name_bytes}
use Rattle.planfile.specs.FilePlan.{FilePlan, engine_names, with_quiet}
use Rattle.planfile.proofs.Laws.Tests.{read-number-iff}
use Rattle.planfile.specs.Numerals.{number_of}
use Rattle.planfile.specs.Reading.{Read, accepted, ◌>>=◌, fault, require, read_number, FourFields, place_of, read_span, read_quiet}
use Rattle.planreader.specs.declared.FilePlan.{FilePlan as ByValue}
use Rattle.planning.specs.declared.QuietSpan.{QuietSpan as Span}
use Rattle.planreader.specs.Columns.{three_of, quiet_column_of}
use Rattle.planreader.specs.Items.{place_among, three_fields}
use Rattle.planreader.specs.Laws.Names.{same-lengths, placed-none, placed-some}
use Rattle.planreader.specs.Laws.Padding.{stored-behind}
use Rattle.planreader.specs.Laws.Parts.{by_ranged, read-by-ranged}
use Rattle.planreader.specs.Fields.{NameFor}
use Rattle.planreader.specs.Parts.{ranged_of}
use Rattle.planreader.specs.Plans.{names_in, numbers_in, quiet_in, QuietHeld}
use Rattle.planreader.specs.Quiet.{quiet_by, QuietReads, SpanRead, AddsQuiet, with_span}
use Rattle.planreader.specs.Records.{SpansIn}
use Rattle.planreader.specs.Results.{Ranged}

-- ---- the checks

-- one after the other: the engine's place, FROM and TO in their range, and whether the span fits behind the engine's earlier ones
unfoldable pub fit_by : (fit : Bool) → Span ℕ → FilePlan → (r : ℕ) → Read FilePlan
fit_by false s f r = fault QuietSpan r
fit_by true s f r = accepted (with_quiet f (quiet_by s))

unfoldable pub span_by : (place : Option ℕ) → (from to : Ranged) → List Quiet → FilePlan → (r : ℕ) → Read FilePlan
span_by None from to quiet f r = fault UnknownEngine r
span_by (Some k) None to quiet f r = fault Value r
span_by (Some k) (Some a) None quiet f r = fault Value r
span_by (Some k) (Some a) (Some b) quiet f r =
    let s : Span ℕ = record { engine = suc k; from = a; to = b } in fit_by (fits (quiet_by s).span (spans_of s.engine quiet)) s f r

quiet-checked : (f : FilePlan) (r : ℕ) (x : FourFields) → read_quiet f r x
    ≡ span_by (place_among x.second (engine_names f)) (ranged_of 0 most_minutes x.third) (ranged_of 0 most_minutes x.fourth) f.quiet f r
unfolding read_quiet ◌>>=◌ require
quiet-checked f r x = go (place_among x.second (engine_names f)) refl
  where
    fitting : (fit : Bool) (s : Span ℕ) → ◌>>=◌ (require fit QuietSpan r) (λ u. accepted (with_quiet f (quiet_by s))) ≡ fit_by fit s f r
    fitting false s = unfold fault fit_by in refl
    fitting true s = unfold fit_by in refl

    numbers : (k : ℕ) (from to : Ranged)
        → ◌>>=◌ (by_ranged r from)
        (λ a. ◌>>=◌ (by_ranged r to)
        (λ b. ◌>>=◌ (require (fits (record { from = a; to = b }) (spans_of (suc k) f.quiet)) QuietSpan r)
        (λ u. accepted (with_quiet f (record { engine = suc k; span = record { from = a; to = b } })))))
        ≡ span_by (Some k) from to f.quiet f r
    numbers k None to = unfold fault by_ranged span_by in refl
    numbers k (Some a) None = unfold fault by_ranged span_by in refl
    numbers k (Some a) (Some b) = unfold by_ranged span_by in fitting (fits (record { from = a; to = b }) (spans_of (suc k) f.quiet)) _

    go : (place : Option ℕ) → place_among x.second (engine_names f) ≡ place
        → ◌>>=◌ (require (ltb (place_of x.second (engine_names f)) (length (engine_names f))) UnknownEngine r)
        (λ u. read_span (suc (place_of x.second (engine_names f))) f r x)
        ≡ span_by place (ranged_of 0 most_minutes x.third) (ranged_of 0 most_minutes x.fourth) f.quiet f r
    go None e = unfold fault span_by in rw (le-ltb _ _ (placed-none x.second _ e)) refl
    go (Some k) e =
        let known = placed-some x.second _ e in
        unfold read_span in
        rw (known.0, lt-ltb k _ known.1, read-by-ranged 0 most_minutes r x.third, read-by-ranged 0 most_minutes r x.fourth)
        (numbers k (ranged_of 0 most_minutes x.third) (ranged_of 0 most_minutes x.fourth))

module _ (names : List (List ℕ)) (quiet : List Quiet) (x : FourFields) {place : Option ℕ} {from to : Ranged}
    (known : place ≡ place_among x.second names) (third : from ≡ ranged_of 0 most_minutes x.third) (fourth : to ≡ ranged_of 0 most_minutes x.fourth) where
  -- by what they found
  pub quiet-found : QuietReads names quiet x (λ f r. span_by place from to quiet f r)
  quiet-found f p q r = quiet-checked f r x ∙ rw (p, q, known, third, fourth)

-- all fields are read
module _ (names : List (List ℕ)) (quiet : List Quiet) (x : FourFields) {place : ℕ} {s : Span ℕ} (known : Some place ≡ place_among x.second names)
    (third : Some s.from ≡ ranged_of 0 most_minutes x.third) (fourth : Some s.to ≡ ranged_of 0 most_minutes x.fourth) (engine : suc place ≡ s.engine) where
  -- 11 is left
  tested : {fit : Bool} → fit ≡ fits (quiet_by s).span (spans_of s.engine quiet) → QuietReads names quiet x (λ f r. fit_by fit s f r)
  unfolding span_by
  tested e f p q r = quiet-found names quiet x known third fourth f p q r ∙ rw (engine, e)

  pub quiet-span : false ≡ fits (quiet_by s).span (spans_of s.engine quiet) → SpanRead names quiet x (Err QuietSpan)
  unfolding SpanRead fit_by
  quiet-span e = tested e

  pub quiet_read : true ≡ fits (quiet_by s).span (spans_of s.engine quiet) → SpanRead names quiet x (Ok s)
  unfolding SpanRead fit_by quiet_fault
  quiet_read e =
      let in-range : (text : List ℕ) (n : ℕ) → Some n ≡ ranged_of 0 most_minutes text → Within 0 most_minutes n = λ text n told.
      ((read-number-iff 0 most_minutes 0 text n).0 (unfold by_ranged in (read-by-ranged 0 most_minutes 0 text ∙ ap (by_ranged 0) (sym told)))).1 in
      let known_engine : Within 1 (length names) s.engine = record { least = omega arith; most = omega (arith, placed-some x.second names (sym known)) } in
      (simp (then-iff, check-iff, within-iff) (in-range x.third s.from third, (in-range x.fourth s.to fourth, (known_engine, sym e))), tested e)

-- ---- by the texts in the file

-- a name that is longer than any has no place among names
long-placed : (name : List ℕ) (names : List (List ℕ)) → most_name_bytes < length name → All (λ (other : List ℕ). length other ≤ most_name_bytes) names
    → place_of name names ≡ length names
unfolding place_of
long-placed name [] l short = refl
long-placed name (other ∷ names) l short = rw (same-lengths name other (λ e. omega (arith, short.0)), long-placed name names l short.1)

-- the place of a name goes by its text as by its value
name-placed : {value name : List ℕ} → NameFor value name → (names : List (List ℕ)) → All (λ (other : List ℕ). length other ≤ most_name_bytes) names
    → place_of name names ≡ place_of value names
name-placed {value} {name} f names short = go (le-or-lt (length value) most_name_bytes)
  where
    go : (length value ≤ most_name_bytes) ⊎ (most_name_bytes < length value) → place_of name names ≡ place_of value names
    go (inl l) = rw (f.short l)
    go (inr l) = long-placed name names (f.long l) short ∙ sym (long-placed value names l short)

-- the reading by the name's text and by what stands inside two fields is that by their values
module _ (names : List (List ℕ)) (quiet : List Quiet) (x : FourFields) (name third fourth : List ℕ)
    (short : All (λ (other : List ℕ). length other ≤ most_name_bytes) names) (named : NameFor x.second name)
    (p : number_of third ≡ number_of x.third) (q : number_of fourth ≡ number_of x.fourth) where
  same_reading : (f : FilePlan) → engine_names f ≡ names → (r : ℕ) → read_quiet f r (three_fields name third fourth) ≡ read_quiet f r x
  unfolding read_quiet read_span read_number
  same_reading f is r = rw (is, name-placed named names short, p, q)

  span-value : (how : Result (Span ℕ) Fault) → SpanRead names quiet (three_fields name third fourth) how → SpanRead names quiet x how
  unfolding SpanRead
  span-value (Ok s) h = (h.0, λ f is so_far r. sym (same_reading f is r) ∙ h.1 f is so_far r)
  span-value (Err what) h = λ f is so_far r. sym (same_reading f is r) ∙ h f is so_far r

pub adds-quiet-value : (x : FourFields) (name third fourth : List ℕ) (before after : ByValue)
    → All (λ (other : List ℕ). length other ≤ most_name_bytes) (names_in before.engines) → NameFor x.second name
    → number_of third ≡ number_of x.third → number_of fourth ≡ number_of x.fourth
    → (how : Result (Unit {0}) Fault) → AddsQuiet (three_fields name third fourth) before after how → AddsQuiet x before after how
unfolding AddsQuiet
adds-quiet-value x name third fourth before after short named p q (Ok done) (s, read, stored) =
    (s, span-value _ _ x name third fourth short named p q (Ok s) read, stored)
adds-quiet-value x name third fourth before after short named p q (Err what) h =
    (span-value _ _ x name third fourth short named p q (Err what) h.0, h.1)

-- ---- the column

-- a span that may stand behind others leaves fewer of those than the most
module _ {engines : ℕ} {quiet : List Quiet} (q : Quiet) (few : engines ≤ most_engines) (kept : QuietKept engines quiet)
    (sound : quiet_fault engines quiet q ≡ none) where
  more-kept : QuietKept engines (quiet ++ q ∷ [])
  more-kept = (kept_more engines quiet q).1 (kept, sound)

  more_room : length quiet < most_quiet
  more_room =
      omega (
        arith,
        length-append quiet (q ∷ []),
        few-spans engines (quiet ++ q ∷ []) more-kept.known more-kept.ranges,
      )

-- three numbers stand for each span
pub length-numbers : (n : ℕ) (column : List (List ℕ)) → All (λ (three : List ℕ). length three ≡ 3) column → n ≤ length column
    → length (numbers_in n column) ≡ 3 * n
length-numbers zero column threes l = refl
length-numbers (suc n) [] threes l = absurd (omega arith)
length-numbers (suc n) (three ∷ column) threes l =
    omega (arith, length-append three (numbers_in n column), threes.0, length-numbers n column threes.1 (omega arith))

-- they are those of the spans, three by three
pub quiet-numbers : (n : ℕ) (column : List (List ℕ)) → All (λ (three : List ℕ). length three ≡ 3) column
    → quiet_in n column ≡ map quiet_three (take n column)
unfolding quiet_of
quiet-numbers zero column threes = refl
quiet-numbers (suc n) [] threes = refl
quiet-numbers (suc n) ([] ∷ column) threes = absurd (omega (arith, threes.0))
quiet-numbers (suc n) ((a ∷ []) ∷ column) threes = absurd (omega (arith, threes.0))
quiet-numbers (suc n) ((a ∷ b ∷ []) ∷ column) threes = absurd (omega (arith, threes.0))
quiet-numbers (suc n) ((a ∷ b ∷ c ∷ []) ∷ column) threes =
    ap (λ (others : List Quiet). quiet_three (a ∷ b ∷ c ∷ []) ∷ others) (quiet-numbers n column threes.1)
quiet-numbers (suc n) ((a ∷ b ∷ c ∷ d ∷ more) ∷ column) threes = absurd (omega (arith, threes.0))

-- there is room for it
pub span-room : {engines n : ℕ} {column : List (List ℕ)} (q : Quiet) → engines ≤ most_engines → QuietHeld engines n column
    → quiet_fault engines (quiet_in n column) q ≡ none → n < most_quiet
span-room {engines} {n} {column} q few held sound =
    let numbers = length-numbers n column held.threes (omega (arith, held.room, held.whole)) in
    omega (arith, quiet-count (numbers_in n column), numbers, more_room q few (record { known = held.known; ranges = held.ranges }) sound)

-- in a plan by value
pub span-fits : (p : ByValue) (x : FourFields) (s : Span ℕ) → length (names_in p.engines) ≤ most_engines
    → QuietHeld (length (names_in p.engines)) p.spans p.quiet → SpanRead (names_in p.engines) (quiet_in p.spans p.quiet) x (Ok s) → p.spans < most_quiet
unfolding SpanRead
span-fits p x s few held read = span-room (quiet_by s) few held read.0

-- the numbers of spans, one behind the other
numbers-back : (quiet : List Quiet) → flat_map (λ three. three) (map three_of quiet) ≡ triples_of quiet
unfolding triples_of
numbers-back [] = refl
numbers-back (q ∷ quiet) = ap (λ (others : List ℕ). q.engine ∷ q.span.from ∷ q.span.to ∷ others) (numbers-back quiet)

-- read back
pub quiet-back : (quiet : List Quiet) → quiet_in (length quiet) (quiet_column_of quiet) ≡ quiet
quiet-back quiet =
    let threes = map three_of quiet in
    let size : length quiet ≡ length threes = sym (length-map quiet three_of) in
    rw (take_at threes (replicate (most_quiet - length threes) (0 ∷ 0 ∷ 0 ∷ [])) (length quiet) (sym size), numbers-back quiet, quiet_triples quiet)

-- with one span more
column_more : (quiet : List Quiet) (n : ℕ) (s : Span ℕ) → n ≡ length quiet → length quiet < most_quiet
    → with_span n s (quiet_column_of quiet) ≡ quiet_column_of (quiet ++ quiet_by s ∷ [])
unfolding with_span
column_more quiet n s count room =
    stored-behind (0 ∷ 0 ∷ 0 ∷ []) most_quiet n (map three_of quiet) (three_of (quiet_by s)) (count ∙ sym (length-map quiet three_of)) (omega arith)
    ∙ ap (filled (0 ∷ 0 ∷ 0 ∷ []) most_quiet) (sym (map-append three_of quiet (quiet_by s ∷ [])))

-- the column has three numbers for each place
threes-of : (quiet : List Quiet) (k : ℕ) → All (λ (three : List ℕ). length three ≡ 3) (map three_of quiet ++ replicate k (0 ∷ 0 ∷ 0 ∷ []))
threes-of [] zero = tt
threes-of [] (suc k) = (refl, threes-of [] k)
threes-of (q ∷ quiet) k = (refl, threes-of quiet k)

-- a column of zeros holds nothing
pub spans-nothing : SpansIn 0 [] 0 (replicate most_quiet (0 ∷ 0 ∷ 0 ∷ []))
spans-nothing =
    let kept = kept-none 0 in
    record { count = refl; room = omega arith; filled = refl; known = kept.known; ranges = kept.ranges }

module _ {engines n : ℕ} {quiet : List Quiet} {column : List (List ℕ)} (s : SpansIn engines quiet n column) where
  pub spans-in : quiet_in n column ≡ quiet
  spans-in = rw (s.count, s.filled) (quiet-back quiet)

  kept : QuietKept engines quiet
  kept = record { known = s.known; ranges = s.ranges }

  -- the list is whole
  pub spans-held : QuietHeld engines n column
  spans-held =
      record {
        room = s.room;
        whole = rw s.filled (omega (
          arith,
          s.count,
          s.room,
          length-map quiet three_of,
          length-append (map three_of quiet) (replicate {A = List ℕ} (most_quiet - length (map three_of quiet)) (0 ∷ 0 ∷ 0 ∷ [])),
          length-replicate {A = List ℕ} (most_quiet - length (map three_of quiet)) (0 ∷ 0 ∷ 0 ∷ []),
        ));
        threes = rw s.filled (threes-of quiet (most_quiet - length (map three_of quiet)));
        known = rw spans-in s.known;
        ranges = λ i. rw spans-in (s.ranges i);
      }

  -- of more engines
  pub spans-engine : {more : ℕ} → engines ≤ more → SpansIn more quiet n column
  spans-engine few =
      let wider = kept_wider few kept in
      record { count = s.count; room = s.room; filled = s.filled; known = wider.known; ranges = s.ranges }

  -- one span more
  pub spans-more : (s : Span ℕ) → engines ≤ most_engines → quiet_fault engines quiet (quiet_by s) ≡ none
      → SpansIn engines (quiet ++ quiet_by s ∷ []) (n + 1) (with_span n s column)
  spans-more one few sound =
      let all = more-kept (quiet_by one) few kept sound in
      let room = more_room (quiet_by one) few kept sound in
      record {
        count = omega (arith, s.count, length-append quiet (quiet_by one ∷ []));
        room = omega (arith, s.count);
        filled = rw s.filled (column_more quiet n one s.count room);
        known = all.known;
        ranges = all.ranges;
      }
