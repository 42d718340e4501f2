-- Every print is of the grammar of RFC 4180 and reads as the four fields of each of its lines, where the names are sound.
-- Assumes nothing.
use Rattle.std.specs.Prelude.{◌≡◌, refl, ◌⊎◌, ℕ, suc, ◌≤◌, ◌<◌, true, List, [], ◌∷◌, length}
use Rattle.std.proofs.Common.{inl, inr, arith}
use Rattle.std.proofs.Math.Bool.{and-eq-true_iff}
use Rattle.rfc4180.specs.Bytes.{quote, comma, class_of}
use Rattle.rfc4180.specs.Grammar.{File, text_20_21, text_23_2B, text_2D_7E}
use Rattle.rfc4180.proofs.Laws.Classes.{text_class}
use Rattle.rfc4180.proofs.Laws.Writer.{file-written}
use Rattle.rfc4180.specs.Text.{ascii}
use Rattle.rfc4180.specs.Writer.{is_allowed, writable, writable_record, writable_file}
use Rattle.planning.specs.declared.Outcome.{Outcome}
use Rattle.planning.specs.declared.Outcome.TheVariants.{Found, None, Stopped}
use Rattle.planning.specs.declared.Refusal.{Refusal}
use Rattle.planning.proofs.Laws.Finite.Decisions.{le-or-lt}
use Rattle.planning.specs.Modes.{Planned, outcome_of, tries_of}
use Rattle.planning.specs.Tables.{piece_in}
use Rattle.planning.specs.Plan.{All, Within}
use Rattle.planning.specs.Refusals.{fault_number}
use Rattle.planning.specs.Search.{Result, found, none, stopped}
use Rattle.planfile.specs.Bounds.{least_name_byte, most_name_byte}
use Rattle.planfile.specs.FilePlan.{FilePlan, engine_names, delivery_names}
use Rattle.planfile.specs.Holding.{SoundName}
use Rattle.planfile.proofs.Laws.Decimals.{decimal-writable}
use Rattle.planfile.proofs.Laws.PieceLines.{lines_good}
use Rattle.planfile.specs.Numerals.{decimal}
use Rattle.planfile.specs.Print.{Line, word_of, lines_of, answer_lines, print_of, refusal_line, refusal_print, line_of}

-- ---- what can be written

-- the bytes of a name are text, quotes and commas
byte_allowed : (b : ℕ) → Within least_name_byte most_name_byte b → is_allowed (class_of b) ≡ true
unfolding is_allowed class_of
byte_allowed b w = go (le-or-lt b 0x21) (le-or-lt b 0x22) (le-or-lt b 0x2B) (le-or-lt b 0x2C)
  where
    go : (b ≤ 0x21) ⊎ (0x21 < b) → (b ≤ 0x22) ⊎ (0x22 < b) → (b ≤ 0x2B) ⊎ (0x2B < b) → (b ≤ 0x2C) ⊎ (0x2C < b) → is_allowed (class_of b) ≡ true
    go (inl m) q t c = rw (text_class (text_20_21 {b = b} w.least m))
    go (inr l) (inl m) t c = let e : b ≡ quote = omega arith in rw e
    go (inr k) (inr l) (inl m) c = rw (text_class (text_23_2B {b = b} l m))
    go (inr k) (inr j) (inr l) (inl m) = let e : b ≡ comma = omega arith in rw e
    go (inr k) (inr j) (inr i) (inr l) = rw (text_class (text_2D_7E {b = b} l w.most))

-- so a sound name can be written
pub bytes-writable : (name : List ℕ) → All (Within least_name_byte most_name_byte) name → writable name ≡ true
unfolding writable
bytes-writable [] w = refl
bytes-writable (b ∷ bs) w = (and-eq-true_iff (is_allowed (class_of b)) (writable bs)).1 (byte_allowed b w.0, bytes-writable bs w.1)

-- a line of four fields can be written where each of them can
pub four_writable : (a b c d : List ℕ) → writable a ≡ true → writable b ≡ true → writable c ≡ true → writable d ≡ true
    → writable_record (a ∷ b ∷ c ∷ d ∷ []) ≡ true
unfolding writable_record
four_writable a b c d p q r s = simp (p, q, r, s)

-- a file can be written where each of its lines can
pub file-writable : (line : Line) (lines : List Line) → writable_record line ≡ true → All (λ l. writable_record l ≡ true) lines
    → writable_file (line ∷ lines) ≡ true
unfolding writable_file
file-writable line [] w ws = w
file-writable line (next ∷ lines) w ws =
    (and-eq-true_iff (writable_record line) (writable_file (next ∷ lines))).1 (w, file-writable next lines ws.0 ws.1)

-- line 1's word, and the lines of pieces
word-writable : (o : Outcome) → writable (word_of o) ≡ true
unfolding word_of writable ascii
word-writable Found = refl
word-writable None = refl
word-writable Stopped = refl

piece-writable : (delivery engine : List ℕ) (n : ℕ) → SoundName delivery → SoundName engine → Unit {0}
    → writable_record (line_of delivery engine (decimal (suc n))) ≡ true
unfolding writable ascii
piece-writable delivery engine n d e a =
    four_writable (ascii "piece") delivery engine (decimal (suc n)) refl (bytes-writable delivery d.bytes) (bytes-writable engine e.bytes)
    (decimal-writable (suc n))

lines-writable : (f : FilePlan) → All SoundName (engine_names f) → All SoundName (delivery_names f) → (r : Result)
    → All (λ line. writable_record line ≡ true) (lines_of f r)
unfolding lines_of
lines-writable f engines deliveries (found tries table) =
    lines_good SoundName (λ n. Unit {0}) (λ line. writable_record line ≡ true) piece-writable (delivery_names f) (engine_names f) deliveries engines
    (λ p i. piece_in (length f.engines) table p i) (λ p i k l. tt)
lines-writable f engines deliveries (none tries) = tt
lines-writable f engines deliveries (stopped tries) = tt

-- ---- the prints

-- the lines of an answer's print can be written where the names are sound
pub print-writable : (f : FilePlan) → All SoundName (engine_names f) → All SoundName (delivery_names f) → (a : Planned)
    → writable_file (answer_lines a.minutes a.result (lines_of f a.result)) ≡ true
unfolding answer_lines
print-writable f engines deliveries a =
    file-writable _ lines
    (four_writable (word_of (outcome_of a.result)) (decimal a.minutes) (decimal (tries_of a.result)) (decimal (length lines))
    (word-writable (outcome_of a.result)) (decimal-writable a.minutes) (decimal-writable (tries_of a.result)) (decimal-writable (length lines)))
    (lines-writable f engines deliveries a.result)
  where
    lines : List Line
    lines = lines_of f a.result

-- so the print reads as line 1 and the lines of the pieces, each by the values of its four fields
pub print-reads : (f : FilePlan) → All SoundName (engine_names f) → All SoundName (delivery_names f) → (a : Planned)
    → File (print_of f a) (answer_lines a.minutes a.result (lines_of f a.result))
unfolding print_of
print-reads f engines deliveries a = file-written _ (print-writable f engines deliveries a)

-- a refusal's line can be written, and its print reads as that line
pub refusal-writable : (refusal : Refusal) → writable_file (refusal_line refusal ∷ []) ≡ true
unfolding writable ascii
refusal-writable refusal =
    file-writable _ []
    (four_writable (ascii "refused") (decimal (fault_number refusal.fault)) (decimal refusal.place) (ascii "0") refl
    (decimal-writable (fault_number refusal.fault)) (decimal-writable refusal.place) refl) tt

pub refusal-reads : (refusal : Refusal) → File (refusal_print refusal) (refusal_line refusal ∷ [])
unfolding refusal_print
refusal-reads refusal = file-written _ (refusal-writable refusal)
