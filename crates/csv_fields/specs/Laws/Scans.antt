-- What a scan of text passes and where it stops. Assumes nothing.
use Rattle.std.specs.Prelude.{◌≡◌, refl, Bool, true, false, not, ◌&&◌, ◌||◌, List, ℕ, zero, suc, ◌+◌, ◌-◌, ◌≤◌, ◌<◌, eqb, leb, ltb, length, get_or, take, drop}
use Rattle.std.proofs.lemmas.List.{get_or-take, get_or-drop}
use Rattle.std.proofs.Common.{ap, ◌∙◌, arith, length-drop, length-take-le}
use Rattle.std.proofs.Math.Bool.{or-true, or-false}
use borrow.Author.Tests.{le-leb, leb-true, ltb-true, ltb-false, eqb-false}
use Rattle.rfc4180.specs.declared.ByteClass.{ByteClass}
use Rattle.rfc4180.specs.declared.ByteClass.TheVariants.{Text, Quote, Comma, CarriageReturn, LineFeed, Refused}
use Rattle.rfc4180.specs.Bytes.{quote, comma, in_range, class_of}
use Rattle.rfc4180.proofs.Laws.Classes.{class_means, text_class, text_bounds, text_no_quote, text_no_comma, text_range, other_byte}
use Rattle.csv_fields.specs.Scans.{is_plain, Passed, Found}

-- ---- one byte

-- a refused byte is outside the range, since it is neither a quote nor a comma
refused_range : (x : ℕ) → class_of x ≡ Refused → in_range 0x20 0x7E x ≡ false
unfolding in_range class_of
refused_range x e = go (leb 0x20 x) (leb x 0x7E) refl refl
  where
    go : (s t : Bool) → leb 0x20 x ≡ s → leb x 0x7E ≡ t → (s && t) ≡ false
    go false t p q = refl
    go true false p q = refl
    go true true p q =
        let high = leb-true x 0x7E q in
        let other-quote = eqb-false x quote (other_byte x quote e refl) in
        let other-comma = eqb-false x comma (other_byte x comma e refl) in
        let text = text_class (text_range x (leb-true 0x20 x p) (omega arith) other-quote other-comma) in
        let z : ◌≡◌ {A = ℕ} 0 1 = cc in
        absurd (omega arith)

-- the comparisons are the decision by class
pub plain_compared : (quoted : Bool) (x : ℕ)
    → (in_range 0x20 0x7E x && not (eqb x quote) && (quoted || not (eqb x comma))) ≡ is_plain quoted (class_of x)
unfolding is_plain
plain_compared quoted x = go (class_of x) refl
  where
    go : (k : ByteClass) → class_of x ≡ k → (in_range 0x20 0x7E x && not (eqb x quote) && (quoted || not (eqb x comma))) ≡ is_plain quoted k
    go Text e =
        let text = class_means x e in
        let bounds = text_bounds text in
        rw (text_no_quote text, text_no_comma text) (unfold in_range in rw (le-leb 0x20 x bounds.0, le-leb x 0x7E bounds.1) (or-true quoted))
    go Quote e = unfold in_range in rw (class_means x e)
    go Comma e = unfold in_range in rw (class_means x e) (or-false quoted)
    go CarriageReturn e = unfold in_range in rw (class_means x e)
    go LineFeed e = unfold in_range in rw (class_means x e)
    go Refused e = rw (refused_range x e)

-- ---- all bytes between two places

module _ (bytes : List ℕ) (quoted : Bool) where
  pub none_passed : (from : ℕ) → Passed bytes quoted from from
  none_passed from i lo hi = absurd (omega arith)

  pub both-passed : (from mid to : ℕ) → Passed bytes quoted from mid → Passed bytes quoted mid to → Passed bytes quoted from to
  both-passed from mid to left right i lo hi = go (ltb i mid) refl
    where
      go : (t : Bool) → ltb i mid ≡ t → (i < length bytes) × (is_plain quoted (class_of (get_or bytes i 0)) ≡ true)
      go true e = left i lo (ltb-true i mid e)
      go false e = right i (ltb-false i mid e) hi

  -- one byte more
  pub one-passed : (from to : ℕ) → Passed bytes quoted from to → to < length bytes → is_plain quoted (class_of (get_or bytes to 0)) ≡ true
      → Passed bytes quoted from (to + 1)
  one-passed from to passed h e =
      both-passed from to (to + 1) passed λ i lo hi. let z : i ≡ to = omega arith in rw z (h, e)

  -- what a scan finds behind bytes that are passed already
  pub found-behind : (from mid end r : ℕ) → from ≤ mid → Passed bytes quoted from mid → Found bytes quoted mid end r
      → Found bytes quoted from end r
  found-behind from mid end r h passed found =
      let further = found.behind in
      record { behind = omega arith; passed = both-passed from mid r passed found.passed; stops = found.stops }

  -- or behind a first one that is plain
  pub found_next : (from end r : ℕ) → from < length bytes → is_plain quoted (class_of (get_or bytes from 0)) ≡ true
      → Found bytes quoted (from + 1) end r → Found bytes quoted from end r
  found_next from end r h plain found =
      found-behind from (from + 1) end r (omega arith) (one-passed from from (none_passed from) h plain) found

  -- it stops at once where that is not
  pub found_here : (from end : ℕ) → (from < end → is_plain quoted (class_of (get_or bytes from 0)) ≡ false) → Found bytes quoted from end from
  found_here from end other = record { behind = omega arith; passed = none_passed from; stops = other }

-- behind bytes that are passed, all bytes of a part are plain
pub part_passed : (bytes : List ℕ) (quoted : Bool) (from at to : ℕ) → Passed bytes quoted from at → at ≤ to → to ≤ length bytes
    → let part = take (to - at) (drop at bytes) in
    Passed part quoted 0 (length part) → Passed bytes quoted from to
part_passed bytes quoted from at to before h room passed i lo hi = go (ltb i at) refl
  where
    part : List ℕ
    part = take (to - at) (drop at bytes)

    whole : length part ≡ to - at
    whole = length-take-le (to - at) (drop at bytes) (rw (length-drop at bytes) (omega arith))

    go : (t : Bool) → ltb i at ≡ t → (i < length bytes) × (is_plain quoted (class_of (get_or bytes i 0)) ≡ true)
    go true e = before i lo (ltb-true i at e)
    go false e =
        let behind = ltb-false i at e in
        let place : at + (i - at) ≡ i = omega arith in
        let same : get_or part (i - at) 0 ≡ get_or bytes i 0 =
        get_or-take (to - at) (drop at bytes) (i - at) 0 (omega arith) ∙ get_or-drop at bytes (i - at) 0 ∙ rw place in
        (omega arith, rw (← same) (passed (i - at) (omega arith) (omega (arith, whole))).1)

module _ (bytes : List ℕ) (quoted : Bool) where
  -- what is found in a part stands behind the part's place
  found-part : (at end r : ℕ) → at ≤ end → end ≤ length bytes
      → let part = take (end - at) (drop at bytes) in
      Found part quoted 0 (length part) r → Found bytes quoted at end (at + r)
  found-part at end r h room found =
      record {
        behind = omega arith;
        passed = λ i lo hi. let place : at + (i - at) ≡ i = omega arith in rw place at (here (i - at) (found.passed (i - at) (omega arith) (omega arith)));
        stops = λ inside. rw (← same r (omega arith)) (found.stops (omega (arith, whole)));
      }
    where
      part : List ℕ
      part = take (end - at) (drop at bytes)

      whole : length part ≡ end - at
      whole = length-take-le (end - at) (drop at bytes) (rw (length-drop at bytes) (omega arith))

      same : (i : ℕ) → i < end - at → get_or part i 0 ≡ get_or bytes (at + i) 0
      same i inside = get_or-take (end - at) (drop at bytes) i 0 inside ∙ get_or-drop at bytes i 0

      here : (i : ℕ) → (i < length part) × (is_plain quoted (class_of (get_or part i 0)) ≡ true)
          → (at + i < length bytes) × (is_plain quoted (class_of (get_or bytes (at + i) 0)) ≡ true)
      here i (inside, plain) = (omega (arith, whole), rw (← same i (omega (arith, whole))) plain)

  module _ (from end r : ℕ) (h : from ≤ end) (room : end ≤ length bytes) where
    -- a byte that is not plain stands in a part
    pub found_near : Found (take (end - from) (drop from bytes)) quoted 0 (length (take (end - from) (drop from bytes))) r
        → from + r < end → Found bytes quoted from (length bytes) (from + r)
    found_near found inside =
        let part = found-part from end r h room found in
        record { behind = part.behind; passed = part.passed; stops = λ l. part.stops inside }

    -- or all of it is plain
    pub found_far : (s : ℕ) → Found (take (end - from) (drop from bytes)) quoted 0 (length (take (end - from) (drop from bytes))) r
        → end ≤ from + r → Found bytes quoted end (length bytes) s → Found bytes quoted from (length bytes) s
    found_far s found over far =
        let part = found-part from end r h room found in
        let passed : Passed bytes quoted from end = λ i lo hi. part.passed i lo (omega arith) in
        found-behind bytes quoted from end (length bytes) s h passed far

  -- what is left is looked at to the end
  pub found_rest : (from at r : ℕ) → from ≤ at → at ≤ length bytes → Passed bytes quoted from at
      → Found (take (length bytes - at) (drop at bytes)) quoted 0 (length (take (length bytes - at) (drop at bytes))) r
      → Found bytes quoted from (length bytes) (at + r)
  found_rest from at r h room passed found =
      found-behind bytes quoted from at (length bytes) (at + r) h passed (found-part at (length bytes) r room (omega arith) found)

-- what no byte passed changes is the same before and behind them all
stepwise : {X : Type 0} (f : ℕ → X) (from n : ℕ) → ((i : ℕ) → from ≤ i → i < from + n → f i ≡ f (i + 1)) → f from ≡ f (from + n)
stepwise f from zero step = let z : from ≡ from + 0 = omega arith in ap f z
stepwise f from (suc n) step =
    let e : from + n + 1 ≡ from + suc n = omega arith in
    stepwise f from n (λ i p q. step i p (omega arith)) ∙ step (from + n) (omega arith) (omega arith) ∙ ap f e

pub all-passed : {X : Type 0} (f : ℕ → X) (from r : ℕ) → from ≤ r → ((i : ℕ) → from ≤ i → i < r → f i ≡ f (i + 1)) → f from ≡ f r
all-passed f from r h step =
    let e : from + (r - from) ≡ r = omega arith in
    stepwise f from (r - from) (λ i p q. step i p (omega arith)) ∙ ap f e
