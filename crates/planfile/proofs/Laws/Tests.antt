-- What each test of the reading means, and what it means that a number or a mode is read.
-- Assumes nothing.
use Rattle.std.specs.Prelude.{◌≡◌, refl, ◌↔◌, ℕ, zero, suc, ◌-◌, ◌≤◌, ◌<◌, Bool, true, false, cond, not, ◌&&◌, eqb, length}
use Rattle.std.proofs.Common.{sym, ap, ◌∙◌, subst, arith, eqb-true}
use Rattle.std.proofs.Math.Logic.Iff
use Rattle.std.proofs.Math.Bool.{and-eq-true_iff}
use Rattle.std.proofs.lemmas.Bool.{false≢true, eqb-false}
use mathlib.Core.List.{List, [], ◌∷◌, nil≢cons, cons≢nil, cons-eq-cons}
use Rattle.std.proofs.Math.Option.{Option, none, some, none-ne-some, some_inj}
use Rattle.rfc4180.specs.Text.{ascii}
use Rattle.planning.specs.declared.Fault.{Fault}
use Rattle.planning.specs.declared.Mode.{Mode}
use Rattle.planning.specs.declared.Mode.TheVariants.{Fixed, Shortest}
use Rattle.planning.specs.declared.Refusal.{Refusal}
use Rattle.planning.specs.Plan.{All, Within}
use Rattle.planning.proofs.Laws.Numbers.{eqb-iff, within-iff}
use Rattle.planfile.specs.FilePlan.{name_at}
use Rattle.planfile.specs.Bounds.{least_name_byte, most_name_byte}
use Rattle.planfile.specs.Holding.{SoundName, Unlike, mode_word}
use Rattle.planfile.specs.Numerals.{digit_zero, digit_nine, value_behind, Numeral, numeral_zero, numeral_digits, all_digits, number_of}
use Rattle.planfile.specs.Reading.{Read, refused, accepted, ◌>>=◌, fault, require, same, mode_by, read_mode, number_by, read_number, name_bytes}
use Rattle.planfile.specs.Reading.{sound_name, unused, place_of}

-- ---- texts and names

-- what holds of all names holds of each
pub all-at : (P : List ℕ → Type 0) (names : List (List ℕ)) (i : ℕ) → All P names → i < length names → P (name_at names i)
all-at P [] i all l = absurd (omega arith)
all-at P (name ∷ names) zero all l = all.0
all-at P (name ∷ names) (suc i) all l = all-at P names i all.1 (omega arith)

-- `same` compares by value
pub same-iff : (text other : List ℕ) → (same text other ≡ true) ↔ (text ≡ other)
unfolding same
same-iff [] [] = (λ e. refl, λ e. refl)
same-iff [] (b ∷ bs) = (λ e. absurd (false≢true e), λ e. absurd (nil≢cons e))
same-iff (a ∷ rest) [] = (λ e. absurd (false≢true e), λ e. absurd (cons≢nil e))
same-iff (a ∷ rest) (b ∷ bs) = simp (and-eq-true_iff, eqb-iff, same-iff rest bs, cons-eq-cons) Iff.rfl

-- `name_bytes` holds where every byte may stand in a name
pub name-bytes-iff : (name : List ℕ) → (name_bytes name ≡ true) ↔ All (Within least_name_byte most_name_byte) name
unfolding name_bytes
name-bytes-iff [] = (λ e. tt, λ e. refl)
name-bytes-iff (b ∷ bs) = simp (and-eq-true_iff, within-iff, name-bytes-iff bs) Iff.rfl

-- `sound_name` holds where the name has the bytes of a name and no more or fewer than a name may have
pub sound-name-iff : (name : List ℕ) → (sound_name name ≡ true) ↔ SoundName name
unfolding sound_name
sound-name-iff name = (
  λ e. let both = simp (and-eq-true_iff, within-iff, name-bytes-iff) at e in record { size = both.0; bytes = both.1 },
  λ s. simp (and-eq-true_iff, within-iff, name-bytes-iff) (s.size, s.bytes),
)

not_iff : (t : Bool) → (not t ≡ true) ↔ (t ≡ true → ⊥)
not_iff true = (λ e. absurd (false≢true e), λ n. absurd (n refl))
not_iff false = (λ e. false≢true, λ n. refl)

-- `unused` holds where the name is none of the names
pub unused-iff : (name : List ℕ) (names : List (List ℕ)) → (unused name names ≡ true) ↔ All (λ other. name ≡ other → ⊥) names
unfolding unused
unused-iff name [] = (λ e. tt, λ e. refl)
unused-iff name (other ∷ names) = simp (and-eq-true_iff, not_iff, same-iff, unused-iff name names) Iff.rfl

-- a name with a place among names is used, and one whose place is behind them all is not
pub used-place : (name : List ℕ) (names : List (List ℕ)) → place_of name names < length names → unused name names ≡ false
unfolding unused place_of
used-place name [] l = absurd (omega arith)
used-place name (other ∷ names) l = go (same name other) (used-place name names) l
  where
    go : (t : Bool) → (place_of name names < length names → unused name names ≡ false) → cond t 0 (suc (place_of name names)) < suc (length names)
        → (not t && unused name names) ≡ false
    go true others l = refl
    go false others l = others (omega arith)

pub unused-place : (name : List ℕ) (names : List (List ℕ)) → length names ≤ place_of name names → unused name names ≡ true
unfolding unused place_of
unused-place name [] l = refl
unused-place name (other ∷ names) l = go (same name other) (unused-place name names) l
  where
    go : (t : Bool) → (length names ≤ place_of name names → unused name names ≡ true) → suc (length names) ≤ cond t 0 (suc (place_of name names))
        → (not t && unused name names) ≡ true
    go true others l = absurd (omega arith)
    go false others l = others (omega arith)

-- the name at that place is it
pub place-named : (name : List ℕ) (names : List (List ℕ)) → place_of name names < length names → name_at names (place_of name names) ≡ name
unfolding place_of
place-named name [] l = absurd (omega arith)
place-named name (other ∷ names) l = go (same name other) refl (place-named name names) l
  where
    go : (t : Bool) → same name other ≡ t → (place_of name names < length names → name_at names (place_of name names) ≡ name)
        → cond t 0 (suc (place_of name names)) < suc (length names) → name_at (other ∷ names) (cond t 0 (suc (place_of name names))) ≡ name
    go true e others l = sym ((same-iff name other).0 e)
    go false e others l = others (omega arith)

-- and where no two names are alike, a name's place is the only one where it stands
pub place-only : (names : List (List ℕ)) (i : ℕ) → Unlike names → i < length names → place_of (name_at names i) names ≡ i
unfolding place_of
place-only [] i u l = absurd (omega arith)
place-only (name ∷ names) zero u l = rw ((same-iff name name).1 refl)
place-only (name ∷ names) (suc i) u l =
    rw (other (same (name_at names i) name) refl, place-only names i u.1 (omega arith))
  where
    other : (t : Bool) → same (name_at names i) name ≡ t → same (name_at names i) name ≡ false
    other true e = absurd (all-at (λ other. name ≡ other → ⊥) names i u.0 (omega arith) (sym ((same-iff _ name).0 e)))
    other false e = e

-- ---- numbers

-- `all_digits` holds where every byte is a digit
pub digits-iff : (ds : List ℕ) → (all_digits ds ≡ true) ↔ All (Within digit_zero digit_nine) ds
unfolding all_digits
digits-iff [] = (λ e. tt, λ e. refl)
digits-iff (d ∷ ds) = simp (and-eq-true_iff, within-iff, digits-iff ds) Iff.rfl

cond-iff : (t : Bool) (a n : ℕ) → (cond t (some a) none ≡ some n) ↔ ((t ≡ true) × (a ≡ n))
cond-iff true a n = (λ e. (refl, some_inj.0 e), λ e. ap some e.1)
cond-iff false a n = (λ e. absurd (none-ne-some n e), λ e. absurd (false≢true e.0))

one_digit : (d n : ℕ) (is_zero : Bool) → eqb d digit_zero ≡ is_zero → Within digit_zero digit_nine d → d - digit_zero ≡ n → Numeral (d ∷ []) n
unfolding value_behind
one_digit d n true t w e =
    let zero-byte : d ≡ digit_zero = eqb-true d digit_zero t in
    rw zero-byte (subst (Numeral (digit_zero ∷ [])) (omega arith) numeral_zero)
one_digit d n false t w e =
    let other_byte : d ≡ digit_zero → ⊥ = eqb-false d digit_zero t in
    subst (Numeral (d ∷ [])) (omega arith) (numeral_digits (record { least = omega arith; most = w.most }) tt)

number-sound : (text : List ℕ) (n : ℕ) → number_of text ≡ some n → Numeral text n
unfolding number_of
number-sound [] n e = absurd (none-ne-some n e)
number-sound (d ∷ []) n e =
    let found = simp (cond-iff, within-iff) at e in
    one_digit d n (eqb d digit_zero) refl found.0 found.1
number-sound (d ∷ c ∷ ds) n e =
    let found = simp (cond-iff, and-eq-true_iff, within-iff, digits-iff) at e in
    subst (Numeral (d ∷ c ∷ ds)) found.1 (numeral_digits found.0.0 found.0.1)

number_complete : {text : List ℕ} {n : ℕ} → Numeral text n → number_of text ≡ some n
unfolding number_of value_behind
number_complete numeral_zero = simp (cond-iff, within-iff) (record { least = omega arith; most = omega arith }, refl)
number_complete (numeral_digits {d = d} {ds = []} w ws) =
    simp (cond-iff, within-iff) (record { least = omega arith; most = w.most }, omega arith)
number_complete (numeral_digits {d = d} {ds = c ∷ ds} w ws) =
    (cond-iff _ _ _).1 ((and-eq-true_iff _ _).1 ((within-iff _ _ d).1 w, (digits-iff (c ∷ ds)).1 ws), refl)

-- `number_of` reads the numerals and nothing else
pub number-iff : (text : List ℕ) (n : ℕ) → (number_of text ≡ some n) ↔ Numeral text n
number-iff text n = (number-sound text n, number_complete)

-- a text is the numeral of one number at most
pub numeral_unique : {text : List ℕ} {n m : ℕ} → Numeral text n → Numeral text m → n ≡ m
numeral_unique p q = some_inj.0 (sym (number_complete p) ∙ number_complete q)

-- ---- readings

-- the value that is read, or another one
abbrev value_or : {A : Type 0} → A → Read A → A
value_or other (refused refusal) = other
value_or other (accepted value) = value

abbrev IsAccepted : {A : Type 0} → Read A → Type 0
IsAccepted (refused refusal) = ⊥
IsAccepted (accepted value) = Unit {0}

-- two values are equal where the readings that accept them are, and no reading is both refused and accepted
pub accepted-iff : {A : Type 0} (a b : A) → ◌≡◌ {A = Read A} (accepted a) (accepted b) ↔ (a ≡ b)
accepted-iff a b = (λ e. ap (value_or a) e, λ e. ap accepted e)

pub refused-not-accepted : {A : Type 0} {refusal : Refusal} {a : A} → ◌≡◌ {A = Read A} (refused refusal) (accepted a) → ⊥
refused-not-accepted e = subst IsAccepted (sym e) tt

-- one reading after another is accepted where both are
pub bind_iff : {A B : Type 0} (m : Read A) (next : A → Read B) (b : B)
    → (◌>>=◌ m next ≡ accepted b) ↔ ((a : A) × (m ≡ accepted a) × (next a ≡ accepted b))
unfolding ◌>>=◌
bind_iff (refused refusal) next b = (λ e. absurd (refused-not-accepted e), λ found. absurd (refused-not-accepted found.1))
bind_iff (accepted value) next b = (λ e. (value, refl, e), λ found. ap next ((accepted-iff _ _).0 found.1) ∙ found.2)

-- .. also where the second makes its value of the first's
pub then-iff : {A B : Type 0} {P : A → Type 0} (m : Read A) (after : A → B) (b : B) → ((a : A) → (m ≡ accepted a) ↔ P a)
    → (◌>>=◌ m (λ a. accepted (after a)) ≡ accepted b) ↔ ((a : A) × P a × (after a ≡ b))
then-iff m after b means = (
  λ e. let (a, read, found) = (bind_iff m _ b).0 e in (a, (means a).0 read, (accepted-iff _ b).0 found),
  λ (a, p, found). (bind_iff m _ b).1 (a, (means a).1 p, (accepted-iff _ b).1 found),
)

-- what stands behind a check is accepted where its test holds and that is accepted
pub require-iff : {B : Type 0} (t : Bool) (what : Fault) (r : ℕ) (next : Unit {0} → Read B) (b : B)
    → (◌>>=◌ (require t what r) next ≡ accepted b) ↔ ((t ≡ true) × (next tt ≡ accepted b))
unfolding ◌>>=◌ require fault
require-iff true what r next b = (λ e. (refl, e), λ e. e.1)
require-iff false what r next b = (λ e. absurd (refused-not-accepted e), λ e. absurd (false≢true e.0))

number-by-iff : (low high r : ℕ) (o : Option ℕ) (n : ℕ) → (number_by low high r o ≡ accepted n) ↔ ((o ≡ some n) × Within low high n)
unfolding number_by fault
number-by-iff low high r none n = (λ e. absurd (refused-not-accepted e), λ e. absurd (none-ne-some n e.0))
number-by-iff low high r (some m) n = (
  λ e. let (w, found) = simp (require-iff, within-iff, accepted-iff) at e in (ap some found, rw found at w),
  λ e. let found = some_inj.0 e.0 in simp (require-iff, within-iff, accepted-iff) (rw found e.1, found),
)

-- a number is read where the text is its numeral and it is in its range
pub read-number-iff : (low high r : ℕ) (text : List ℕ) (n : ℕ) → (read_number low high r text ≡ accepted n) ↔ (Numeral text n × Within low high n)
unfolding read_number
read-number-iff low high r text n = simp (number-by-iff, number-iff) Iff.rfl

mode-by : (fixed shortest : Bool) (r : ℕ) (text : List ℕ) (mode : Mode) → same text (ascii "fixed") ≡ fixed → same text (ascii "shortest") ≡ shortest
    → mode_by fixed shortest r ≡ accepted mode → text ≡ mode_word mode
unfolding mode_by fault mode_word
mode-by true shortest r text mode t s e = rw (← (accepted-iff _ _).0 e) ((same-iff text (ascii "fixed")).0 t)
mode-by false true r text mode t s e = rw (← (accepted-iff _ _).0 e) ((same-iff text (ascii "shortest")).0 s)
mode-by false false r text mode t s e = absurd (refused-not-accepted e)

mode-read : (r : ℕ) (mode : Mode) → read_mode r (mode_word mode) ≡ accepted mode
unfolding read_mode mode_by same ascii mode_word
mode-read r Fixed = refl
mode-read r Shortest = refl

-- a mode is read where the text is its word
pub read-mode-iff : (r : ℕ) (text : List ℕ) (mode : Mode) → (read_mode r text ≡ accepted mode) ↔ (text ≡ mode_word mode)
unfolding read_mode
read-mode-iff r text mode = (mode-by _ _ r text mode refl refl, λ e. ap (read_mode r) e ∙ mode-read r mode)
