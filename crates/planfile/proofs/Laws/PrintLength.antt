-- No print of a plan in range with sound names is longer than `longest_print`.
-- Assumes nothing.
use Rattle.std.specs.Prelude.{◌≡◌, ℕ, zero, suc, ◌+◌, ◌*◌, ◌^◌, ◌≤◌, ◌<◌, Bool, true, false, cond, List, [], ◌∷◌, map}
use Rattle.std.proofs.Math.Path.{refl}
use Rattle.std.proofs.Common.{sym, ◌∙◌, arith, length-append}
use Rattle.std.proofs.Math.ListN.{length}
use Rattle.rfc4180.proofs.Laws.Writer.{length-written, quote-count-le}
use Rattle.rfc4180.specs.Text.{ascii}
use Rattle.rfc4180.specs.Writer.{needs_quotes, written, written_line, written_file, quote_count}
use Rattle.planning.specs.declared.Outcome.{Outcome}
use Rattle.planning.specs.declared.Outcome.TheVariants.{Found, None, Stopped}
use Rattle.planning.specs.Bounds.{most_engines, most_deliveries, most_tries, most_energy, most_minutes}
use Rattle.planning.proofs.Laws.Finite.Sums.{entry-le-sum}
use Rattle.planning.proofs.Laws.Modes.{planned-searched}
use Rattle.planning.proofs.Laws.Plans.{length-capacities, length-energies}
use Rattle.planning.proofs.Laws.Promises.{answered-minutes, found-serves, found-pieces, stopped-tries, answered-whole}
use Rattle.planning.proofs.Laws.Soundness.{plan-length}
use Rattle.planning.specs.Modes.{planned, answer_of, outcome_of, tries_of}
use Rattle.planning.specs.Tables.{piece_in, at}
use Rattle.planning.specs.Plan.{Plan, Delivery, All, InRange, DeliveryInRange}
use Rattle.planning.specs.Search.{Result, found, none, stopped}
use Rattle.planning.specs.Sum.{positives}
use Rattle.planfile.specs.FileCall.{printed}
use Rattle.planfile.specs.FilePlan.{FilePlan, unnamed, engine_names, delivery_names}
use Rattle.planfile.specs.Holding.{SoundName}
use Rattle.planfile.proofs.Laws.Decimals.{decimal-plain, decimal-length}
use Rattle.planfile.proofs.Laws.Holding.{engine-count, delivery-count}
use Rattle.planfile.proofs.Laws.PieceLines.{engines-named, deliveries-named, lines_good, found-lines}
use Rattle.planfile.specs.Numerals.{decimal}
use Rattle.planfile.specs.Print.{Line, word_of, lines_of, answer_lines, print_of, line_of, longest_piece_line, longest_print}

-- ---- how long a line is

-- a name of 16 bytes may need 34
pub name-length : (name : List ℕ) → SoundName name → length (written name) ≤ 34
name-length name s = rw (length-written name) (go (needs_quotes name))
  where
    go : (t : Bool) → cond t (length name + quote_count name + 2) (length name) ≤ 34
    go true = omega (arith, quote-count-le name, s.size)
    go false = omega (arith, s.size)

-- a number needs no quotes
pub number-length : (n k : ℕ) → n < 10 ^ k → 1 ≤ k → length (written (decimal n)) ≤ k
number-length n k l s = rw (length-written (decimal n), decimal-plain n) (decimal-length n k l s)

-- four fields, three commas, CR and LF
pub line_length : (a b c d : List ℕ)
    → length (written_line (a ∷ b ∷ c ∷ d ∷ [])) ≡ length (written a) + length (written b) + length (written c) + length (written d) + 5
unfolding written_line
line_length a b c d = simp length-append (omega arith)

-- the word, two names, ten digits
piece-length : (delivery engine : List ℕ) (n : ℕ) → SoundName delivery → SoundName engine → suc n ≤ most_energy
    → length (written_line (line_of delivery engine (decimal (suc n)))) ≤ longest_piece_line
piece-length delivery engine n d e l =
    omega (
      arith,
      line_length (ascii "piece") delivery engine (decimal (suc n)),
      word,
      name-length delivery d,
      name-length engine e,
      number-length (suc n) 10 (omega arith) (omega arith),
    )
  where
    word : length (written (ascii "piece")) ≡ 5
    word = unfold written ascii in refl

-- lines that are no longer than the longest of a piece
pub lines-length : (lines : List Line) → All (λ line. length (written_line line) ≤ longest_piece_line) lines
    → length (written_file lines) ≤ longest_piece_line * length lines
unfolding written_file
lines-length [] h = omega arith
lines-length (line ∷ lines) h = omega (arith, length-append (written_line line) (written_file lines), h.0, lines-length lines h.1)

-- ---- how long a print is

-- line 1 has its word, at most 5, 10 and 2 digits, three commas, CR and LF
answer-length : (minutes : ℕ) (r : Result) (lines : List Line) → minutes ≤ most_minutes → tries_of r ≤ most_tries
    → length lines ≤ most_engines + most_deliveries
    → All (λ line. length (written_line line) ≤ longest_piece_line) lines
    → length (written_file (answer_lines minutes r lines)) ≤ length (written (word_of (outcome_of r))) + 22 + longest_piece_line * length lines
unfolding answer_lines written_file
answer-length minutes r lines m t n h =
    omega (
      arith,
      length-append (written_line (word_of (outcome_of r) ∷ decimal minutes ∷ decimal (tries_of r) ∷ decimal (length lines) ∷ [])) (written_file lines),
      line_length (word_of (outcome_of r)) (decimal minutes) (decimal (tries_of r)) (decimal (length lines)),
      number-length minutes 5 (omega arith) (omega arith),
      number-length (tries_of r) 10 (omega arith) (omega arith),
      number-length (length lines) 2 (omega arith) (omega arith),
      lines-length lines h,
    )

-- the tries of an answer are at most the allowance
answered-tries : (plan : Plan) → tries_of (planned plan).result ≤ plan.allowance
unfolding answer_of
answered-tries plan = go (outcome_of (planned plan).result) refl
  where
    go : (o : Outcome) → outcome_of (planned plan).result ≡ o → tries_of (planned plan).result ≤ plan.allowance
    go Found e = (answered-whole plan (λ s. let z : ◌≡◌ {A = ℕ} 0 1 = cc in absurd (omega arith))).1
    go None e = (answered-whole plan (λ s. let z : ◌≡◌ {A = ℕ} 0 1 = cc in absurd (omega arith))).1
    go Stopped e = omega (arith, stopped-tries plan e)

-- an energy in range is at most 1,000,000,000
energy-most : (ds : List Delivery) → All DeliveryInRange ds → (p : ℕ) → at (map (λ (d : Delivery). d.energy) ds) p ≤ most_energy
energy-most [] h p = omega arith
energy-most (d ∷ ds) h zero = h.0.energy.most
energy-most (d ∷ ds) h (suc p) = energy-most ds h.1 p

-- a piece is at most its delivery's energy
piece-most : (plan : Plan) → InRange plan → {tries : ℕ} {table : List ℕ} → (planned plan).result ≡ found tries table
    → (p i : ℕ) → p < length plan.deliveries → i < length plan.engines → piece_in (length plan.engines) table p i ≤ most_energy
piece-most plan ranges {tries} {table} e p i k l =
    omega (
      arith,
      rw (length-capacities plan (planned plan).minutes) at ((found-serves plan ranges e).fits.whole p (omega (arith, length-energies plan))),
      entry-le-sum (length plan.engines) (piece_in (length plan.engines) table p) i l,
      energy-most plan.deliveries ranges.deliveries p,
    )

-- the lines of the pieces that a plan in range is answered
module _ (f : FilePlan) (ranges : InRange (unnamed f)) {tries : ℕ} {table : List ℕ} (finds : (planned (unnamed f)).result ≡ found tries table) where
  -- a cell for every delivery and engine
  pub found-cells : length table ≡ length f.deliveries * length f.engines
  found-cells =
      rw (delivery-count f, engine-count f)
      at (plan-length (unnamed f) (planned (unnamed f)).minutes ranges.deliveries (sym (planned-searched (unnamed f)).result ∙ finds))

  -- a line for every piece above 0
  pub found-count : length (lines_of f (found tries table)) ≡ positives (length table) (at table)
  found-count = found-lines f tries table found-cells

  -- at most one for each engine and delivery
  pub found-few : length (lines_of f (found tries table)) ≤ most_engines + most_deliveries
  found-few =
      omega (arith, found-count, found-pieces (unnamed f) ranges finds, ranges.delivery_count.most, ranges.engine_count.most)

  -- each no longer than the longest
  found-short : All SoundName (engine_names f) → All SoundName (delivery_names f)
      → All (λ line. length (written_line line) ≤ longest_piece_line) (lines_of f (found tries table))
  unfolding lines_of
  found-short engines deliveries =
      lines_good SoundName (λ n. n ≤ most_energy) (λ line. length (written_line line) ≤ longest_piece_line) piece-length
      (delivery_names f) (engine_names f) deliveries engines (λ p i. piece_in (length f.engines) table p i)
      (λ p i k l. rw (engine-count f)
      at (piece-most (unnamed f) ranges finds p i (omega (arith, delivery-count f, deliveries-named f)) (omega (arith, engine-count f, engines-named f))))

-- line 1 of found and the lines of its pieces; none and stopped have line 1 alone
pub print-length : (f : FilePlan) → All SoundName (engine_names f) → All SoundName (delivery_names f) → InRange (unnamed f) → length (printed f) ≤ longest_print
unfolding printed print_of lines_of outcome_of word_of written ascii
print-length f engines deliveries ranges = go (planned (unnamed f)).result refl
  where
    minutes : ℕ
    minutes = (planned (unnamed f)).minutes

    minutes-most : minutes ≤ most_minutes
    minutes-most = unfold answer_of in omega (arith, (answered-minutes (unnamed f) ranges).most, ranges.minutes.most)

    tries-most : tries_of (planned (unnamed f)).result ≤ most_tries
    tries-most = omega (arith, answered-tries (unnamed f), ranges.allowance.most)

    go : (r : Result) → (planned (unnamed f)).result ≡ r → length (written_file (answer_lines minutes r (lines_of f r))) ≤ longest_print
    go (found tries table) e =
        let few = found-few f ranges e in
        let short = found-short f ranges e engines deliveries in
        omega (arith, answer-length minutes (found tries table) (lines_of f (found tries table)) minutes-most (rw e at tries-most) few short)
    go (none tries) e = omega (arith, answer-length minutes (none tries) [] minutes-most (rw e at tries-most) (omega arith) tt)
    go (stopped tries) e = omega (arith, answer-length minutes (stopped tries) [] minutes-most (rw e at tries-most) (omega arith) tt)
