-- A number has one numeral, which is what is written of it: digits alone, and no more of them than the number's size asks for.
-- Assumes nothing.
use Rattle.std.specs.Prelude.{◌≡◌, refl, ◌↔◌, ◌⊎◌, ℕ, zero, suc, ◌+◌, ◌*◌, ◌-◌, ◌/◌, ◌%◌, ◌^◌, ◌≤◌, ◌<◌, true, false, List, [], ◌∷◌, ◌++◌, length}
use Rattle.std.proofs.Common.{sym, ap, ap₂, ◌∙◌, subst, inl, inr, pow-suc, arith, append-nil, append_assoc, length-append, lt-ltb, le-ltb}
use Rattle.rfc4180.specs.Grammar.{text_2D_7E}
use Rattle.rfc4180.proofs.Laws.Classes.{text_class}
use Rattle.rfc4180.specs.Writer.{needs_quotes, writable}
use Rattle.planning.proofs.Laws.Finite.Decisions.{le-or-lt}
use Rattle.planning.specs.Plan.{All, Within}
use Rattle.planning.proofs.Laws.All.{all_append}
use Rattle.planfile.specs.Numerals.{digit_zero, digit_nine, value_behind, Numeral, numeral_zero, numeral_digits, decimal_within, decimal}

-- ---- digit by digit

-- below 10 one digit is written; from 10 on those of n / 10 and one more
within-one : (bound n : ℕ) → n < 10 → decimal_within bound n ≡ (digit_zero + n) ∷ []
unfolding decimal_within
within-one zero n l = refl
within-one (suc bound) n l = rw (decimal_within, lt-ltb n 10 l)

within_more : (bound n : ℕ) → 10 ≤ n → decimal_within (suc bound) n ≡ decimal_within bound (n / 10) ++ (digit_zero + n % 10) ∷ []
unfolding decimal_within
within_more bound n l = rw (decimal_within, le-ltb n 10 l)

-- any bound from n on gives the same
within_same : (b c n : ℕ) → n ≤ b → n ≤ c → decimal_within b n ≡ decimal_within c n
within_same zero c n l m = within-one zero n (omega arith) ∙ sym (within-one c n (omega arith))
within_same (suc b) zero n l m = within-one (suc b) n (omega arith) ∙ sym (within-one zero n (omega arith))
within_same (suc b) (suc c) n l m = go (le-or-lt 10 n) (λ (k : 10 ≤ n). within_same b c (n / 10) (omega arith) (omega arith))
  where
    go : (10 ≤ n) ⊎ (n < 10) → (10 ≤ n → decimal_within b (n / 10) ≡ decimal_within c (n / 10)) → decimal_within (suc b) n ≡ decimal_within (suc c) n
    go (inl k) r = within_more b n k ∙ ap (λ (ds : List ℕ). ds ++ (digit_zero + n % 10) ∷ []) (r k) ∙ sym (within_more c n k)
    go (inr k) r = within-one (suc b) n k ∙ sym (within-one (suc c) n k)

-- so of `decimal`
pub decimal-one : (n : ℕ) → n < 10 → decimal n ≡ (digit_zero + n) ∷ []
unfolding decimal
decimal-one n l = within-one n n l

pub decimal-more : (n : ℕ) → 10 ≤ n → decimal n ≡ decimal (n / 10) ++ (digit_zero + n % 10) ∷ []
unfolding decimal
decimal-more n l =
    within_same n (suc n) n (omega arith) (omega arith) ∙ within_more n n l
    ∙ ap (λ (ds : List ℕ). ds ++ (digit_zero + n % 10) ∷ []) (within_same n (n / 10) (n / 10) (omega arith) (omega arith))

-- what is true of one digit, and of n where it is true of n / 10, is true of every number and its digits
by_digits : (P : ℕ → List ℕ → Type 0) → ((n : ℕ) → n < 10 → P n ((digit_zero + n) ∷ []))
    → ((n : ℕ) (ds : List ℕ) → 10 ≤ n → P (n / 10) ds → P n (ds ++ (digit_zero + n % 10) ∷ [])) → (n : ℕ) → P n (decimal n)
by_digits P one more n = below n n (omega arith)
  where
    below : (bound n : ℕ) → n ≤ bound → P n (decimal n)
    below zero n l = rw (decimal-one n (omega arith)) (one n (omega arith))
    below (suc bound) n l = go (le-or-lt 10 n) (λ (k : 10 ≤ n). below bound (n / 10) (omega arith))
      where
        go : (10 ≤ n) ⊎ (n < 10) → (10 ≤ n → P (n / 10) (decimal (n / 10))) → P n (decimal n)
        go (inl k) r = rw (decimal-more n k) (more n (decimal (n / 10)) k (r k))
        go (inr k) r = rw (decimal-one n k) (one n k)

-- ---- digits

is_digit : (n : ℕ) → n < 10 → Within digit_zero digit_nine (digit_zero + n)
is_digit n l = record { least = omega arith; most = omega arith }

-- every byte that is written is a digit
pub decimal-digits : (n : ℕ) → All (Within digit_zero digit_nine) (decimal n)
decimal-digits =
    by_digits (λ n ds. All (Within digit_zero digit_nine) ds) (λ n l. (is_digit n l, tt))
    (λ n ds l h. (all_append _ ds _).1 (h, (is_digit (n % 10) (omega arith), tt)))

-- digits are text
digits-writable : (ds : List ℕ) → All (Within digit_zero digit_nine) ds → writable ds ≡ true
unfolding writable
digits-writable [] h = refl
digits-writable (d ∷ ds) h = rw (text_class (text_2D_7E {b = d} (omega (arith, h.0)) (omega (arith, h.0)))) (digits-writable ds h.1)

digits-plain : (ds : List ℕ) → All (Within digit_zero digit_nine) ds → needs_quotes ds ≡ false
unfolding needs_quotes
digits-plain [] h = refl
digits-plain (d ∷ ds) h = rw (text_class (text_2D_7E {b = d} (omega (arith, h.0)) (omega (arith, h.0)))) (digits-plain ds h.1)

-- so it can be written as a field, and needs no quotes there
pub decimal-writable : (n : ℕ) → writable (decimal n) ≡ true
decimal-writable n = digits-writable (decimal n) (decimal-digits n)

pub decimal-plain : (n : ℕ) → needs_quotes (decimal n) ≡ false
decimal-plain n = digits-plain (decimal n) (decimal-digits n)

-- ---- numerals

-- the number of digits with one more behind them
value-behind : (m : ℕ) (ds : List ℕ) (c : ℕ) → value_behind m (ds ++ c ∷ []) ≡ value_behind m ds * 10 + (c - digit_zero)
unfolding value_behind
value-behind m [] c = refl
value-behind m (d ∷ ds) c = value-behind (m * 10 + (d - digit_zero)) ds c

-- a digit is a numeral, and so is a numeral above 0 with a digit behind it
one_digit : (n : ℕ) → n < 10 → Numeral ((digit_zero + n) ∷ []) n
unfolding value_behind
one_digit zero l = numeral_zero
one_digit (suc n) l =
    subst (Numeral ((digit_zero + suc n) ∷ [])) (omega arith) (numeral_digits (record { least = omega arith; most = omega arith }) tt)

one_digit_more : {text : List ℕ} {m : ℕ} → Numeral text m → 1 ≤ m → (c : ℕ) → Within digit_zero digit_nine c
    → Numeral (text ++ c ∷ []) (m * 10 + (c - digit_zero))
one_digit_more numeral_zero l c w = absurd (omega arith)
one_digit_more (numeral_digits {d = d} {ds = ds} v vs) l c w =
    rw (← value-behind 0 (d ∷ ds) c) (numeral_digits v ((all_append (Within digit_zero digit_nine) ds (c ∷ [])).1 (vs, (w, tt))))

-- what is written of a number is read as that number
pub decimal-read : (n : ℕ) → Numeral (decimal n) n
decimal-read =
    by_digits (λ n ds. Numeral ds n) one_digit
    (λ n ds l h. subst (Numeral (ds ++ (digit_zero + n % 10) ∷ [])) (omega arith)
    (one_digit_more h (omega arith) (digit_zero + n % 10) (is_digit (n % 10) (omega arith))))

-- the digits of the number that digits stand for, behind those of m, which is above 0
decimal-behind : (m : ℕ) (ds : List ℕ) → 1 ≤ m → All (Within digit_zero digit_nine) ds → decimal (value_behind m ds) ≡ decimal m ++ ds
unfolding value_behind
decimal-behind m [] l h = sym (append-nil (decimal m))
decimal-behind m (d ∷ ds) l h =
    let front : (m * 10 + (d - digit_zero)) / 10 ≡ m = omega (arith, h.0) in
    let back : digit_zero + (m * 10 + (d - digit_zero)) % 10 ≡ d = omega (arith, h.0) in
    decimal-behind (m * 10 + (d - digit_zero)) ds (omega arith) h.1
    ∙ ap (λ (l : List ℕ). l ++ ds) (decimal-more (m * 10 + (d - digit_zero)) (omega arith) ∙ ap₂ (λ n c. decimal n ++ c ∷ []) front back)
    ∙ append_assoc (decimal m) (d ∷ []) ds

numeral_written : {text : List ℕ} {n : ℕ} → Numeral text n → text ≡ decimal n
unfolding decimal decimal_within value_behind
numeral_written numeral_zero = refl
numeral_written (numeral_digits {d = d} {ds = ds} w ws) =
    let digit : digit_zero + (0 * 10 + (d - digit_zero)) ≡ d = omega (arith, w) in
    sym (decimal-behind (0 * 10 + (d - digit_zero)) ds (omega (arith, w)) ws
    ∙ ap (λ (l : List ℕ). l ++ ds) (decimal-one (0 * 10 + (d - digit_zero)) (omega (arith, w)) ∙ ap (λ c. c ∷ []) digit))

-- the numerals of a number are what is written of it: it has one
pub numeral_iff : (text : List ℕ) (n : ℕ) → Numeral text n ↔ (text ≡ decimal n)
numeral_iff text n = (numeral_written, λ e. rw e (decimal-read n))

-- ---- how long it is

-- a number below 10 ^ k has at most k digits
pub decimal-length : (n k : ℕ) → n < 10 ^ k → 1 ≤ k → length (decimal n) ≤ k
decimal-length = by_digits (λ n ds. (k : ℕ) → n < 10 ^ k → 1 ≤ k → length ds ≤ k) (λ n l k m s. omega arith) longer
  where
    longer : (n : ℕ) (ds : List ℕ) → 10 ≤ n → ((k : ℕ) → n / 10 < 10 ^ k → 1 ≤ k → length ds ≤ k)
        → (k : ℕ) → n < 10 ^ k → 1 ≤ k → length (ds ++ (digit_zero + n % 10) ∷ []) ≤ k
    longer n ds l h zero m s = absurd (omega arith)
    longer n ds l h (suc zero) m s = absurd (omega arith)
    longer n ds l h (suc (suc k)) m s =
        omega (arith, length-append ds ((digit_zero + n % 10) ∷ []), h (suc k) (omega (arith, pow-suc 10 (suc k))) (omega arith))
