-- The class of a byte says what the byte is in the grammar, and the grammar's bytes have the classes named after them.
-- Assumes nothing.
use Rattle.std.specs.Prelude.{◌≡◌, refl, ℕ, ◌≤◌, ◌<◌, Bool, true, false, cond, ◌||◌, leb, eqb}
use Rattle.std.proofs.Common.{sym, ap, ◌∙◌, subst, true≢false, arith, leb-true, leb-false, eqb-true, le-leb, eq-eqb, ne_eqb}
use Rattle.std.proofs.Math.Bool.{and-eq-true_iff}
use Rattle.std.proofs.lemmas.Bool.{lt-leb}
use Rattle.rfc4180.specs.declared.ByteClass.{ByteClass}
use Rattle.rfc4180.specs.declared.ByteClass.TheVariants.{Text, Quote, Comma, CarriageReturn, LineFeed, Refused}
use Rattle.rfc4180.specs.Bytes.{quote, comma, carriage_return, line_feed, in_range, class_of}
use Rattle.rfc4180.specs.Grammar.{TextData, text_20_21, text_23_2B, text_2D_7E}

-- what a class says of a byte
abbrev pub Meaning : ℕ → ByteClass → Type 0
Meaning b Text = TextData b
Meaning b Quote = b ≡ quote
Meaning b Comma = b ≡ comma
Meaning b CarriageReturn = b ≡ carriage_return
Meaning b LineFeed = b ≡ line_feed
Meaning b Refused = Unit {0}

in-range : {X : Type 0} (low high b : ℕ) → (low ≤ b → b ≤ high → X) → in_range low high b ≡ true → X
unfolding in_range
in-range low high b use-bounds e =
    let (p, q) = (and-eq-true_iff (leb low b) (leb b high)).0 e in
    use-bounds (leb-true low b p) (leb-true b high q)

either : {X : Type 0} (s t : Bool) → (s ≡ true → X) → (t ≡ true → X) → (s || t) ≡ true → X
either true t left right e = left refl
either false t left right e = right e

tested : (b : ℕ) (c d : ByteClass) (t : Bool) → (t ≡ true → Meaning b c) → (t ≡ false → Meaning b d) → Meaning b (cond t c d)
tested b c d true left right = left refl
tested b c d false left right = right refl

meaning : (b : ℕ) → Meaning b (class_of b)
unfolding class_of
meaning b =
    tested b _ _ _
    (either _ _ (either _ _ (in-range 0x20 0x21 b text_20_21) (in-range 0x23 0x2B b text_23_2B)) (in-range 0x2D 0x7E b text_2D_7E)) λ other.
    tested b _ _ (eqb b quote) (eqb-true b quote) λ other.
    tested b _ _ (eqb b comma) (eqb-true b comma) λ other.
    tested b _ _ (eqb b carriage_return) (eqb-true b carriage_return) λ other.
    tested b _ _ (eqb b line_feed) (eqb-true b line_feed) λ other. tt

-- a byte of a class is what the class says
pub class_means : (b : ℕ) {c : ByteClass} → class_of b ≡ c → Meaning b c
class_means b e = subst (Meaning b) e (meaning b)

-- TEXTDATA is of the class Text
pub text_class : {b : ℕ} → TextData b → class_of b ≡ Text
unfolding class_of
text_class {b} (text_20_21 p q) = rw (le-leb 0x20 b p, le-leb b 0x21 q)
text_class {b} (text_23_2B p q) = rw (le-leb 0x20 b (omega arith), lt-leb b 0x21 (omega arith), le-leb 0x23 b p, le-leb b 0x2B q)
text_class {b} (text_2D_7E p q) =
    rw (le-leb 0x20 b (omega arith), lt-leb b 0x21 (omega arith), le-leb 0x23 b (omega arith), lt-leb b 0x2B (omega arith), le-leb 0x2D b p, le-leb b 0x7E q)

-- TEXTDATA stands between 20 and 7E
pub text_bounds : {b : ℕ} → TextData b → (0x20 ≤ b) × (b ≤ 0x7E)
text_bounds {b} (text_20_21 p q) = (omega arith, omega arith)
text_bounds {b} (text_23_2B p q) = (omega arith, omega arith)
text_bounds {b} (text_2D_7E p q) = (omega arith, omega arith)

-- no byte with a name is TEXTDATA
pub text_no_quote : {b : ℕ} → TextData b → eqb b quote ≡ false
text_no_quote {b} (text_20_21 p q) = ne_eqb b quote (omega arith)
text_no_quote {b} (text_23_2B p q) = ne_eqb b quote (omega arith)
text_no_quote {b} (text_2D_7E p q) = ne_eqb b quote (omega arith)

pub text_no_comma : {b : ℕ} → TextData b → eqb b comma ≡ false
text_no_comma {b} (text_20_21 p q) = ne_eqb b comma (omega arith)
text_no_comma {b} (text_23_2B p q) = ne_eqb b comma (omega arith)
text_no_comma {b} (text_2D_7E p q) = ne_eqb b comma (omega arith)

pub text_no_cr : {b : ℕ} → TextData b → eqb b carriage_return ≡ false
text_no_cr {b} (text_20_21 p q) = ne_eqb b carriage_return (omega arith)
text_no_cr {b} (text_23_2B p q) = ne_eqb b carriage_return (omega arith)
text_no_cr {b} (text_2D_7E p q) = ne_eqb b carriage_return (omega arith)

-- TEXTDATA goes from 20 up to 7F, without 7F, the quote and the comma
pub text_range : (b : ℕ) → 0x20 ≤ b → b < 0x7F → (b ≡ quote → ⊥) → (b ≡ comma → ⊥) → TextData b
text_range b low high not-quote not-comma = go (leb b 0x21) (leb b 0x2B) refl refl
  where
    go : (s t : Bool) → leb b 0x21 ≡ s → leb b 0x2B ≡ t → TextData b
    go true t p q = text_20_21 low (leb-true b 0x21 p)
    go false true p q = text_23_2B {b = b} (omega (arith, leb-false b 0x21 p)) (leb-true b 0x2B q)
    go false false p q = text_2D_7E {b = b} (omega (arith, leb-false b 0x2B q)) (omega arith)

-- a byte with no name below 20, or above 7E, is refused
pub low_refused : (b : ℕ) → b < 0x20 → (b ≡ carriage_return → ⊥) → (b ≡ line_feed → ⊥) → class_of b ≡ Refused
unfolding class_of
low_refused b low not-cr not-lf =
    rw (lt-leb 0x20 b low, lt-leb 0x23 b (omega arith), lt-leb 0x2D b (omega arith))
    (rw (ne_eqb b quote (omega arith), ne_eqb b comma (omega arith), ne_eqb b carriage_return not-cr, ne_eqb b line_feed not-lf))

pub high-refused : (b : ℕ) → 0x7F ≤ b → class_of b ≡ Refused
unfolding class_of
high-refused b high =
    rw (le-leb 0x20 b (omega arith), le-leb 0x23 b (omega arith), le-leb 0x2D b (omega arith))
    (rw (lt-leb b 0x21 (omega arith), lt-leb b 0x2B (omega arith), lt-leb b 0x7E (omega arith))
    (rw (ne_eqb b quote (omega arith), ne_eqb b comma (omega arith), ne_eqb b carriage_return (omega arith), ne_eqb b line_feed (omega arith))))

-- ---- bytes of different classes are different

abbrev pub class_number : ByteClass → ℕ
class_number Text = 0
class_number Quote = 1
class_number Comma = 2
class_number CarriageReturn = 3
class_number LineFeed = 4
class_number Refused = 5

-- a byte is not one of another class
pub other_byte : (b n : ℕ) {k : ByteClass} → class_of b ≡ k → eqb (class_number k) (class_number (class_of n)) ≡ false → eqb b n ≡ false
other_byte b n {k} e other = go (eqb b n) refl
  where
    go : (t : Bool) → eqb b n ≡ t → eqb b n ≡ false
    go true p =
        let same : k ≡ class_of n = sym e ∙ ap class_of (eqb-true b n p) in
        absurd (true≢false (sym (eq-eqb (class_number k) (class_number (class_of n)) (ap class_number same)) ∙ other))
    go false p = p
