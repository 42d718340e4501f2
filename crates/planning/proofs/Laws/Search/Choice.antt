-- Step C: "comes before" orders the deliveries that are left, and the choice is the first in file order of those that none
-- comes before. A delivery is left where its rest is above 0; limits may be any numbers here.
-- Assumes nothing.
use Rattle.std.specs.Prelude.{◌≡◌, refl, ◌⊎◌, ◌↔◌, Bool, true, false, ℕ, zero, suc, ◌*◌, ◌-◌, ◌≤◌, ◌<◌, ltb, eqb}
use Rattle.std.proofs.Common.{sym, ap, ◌∙◌, inl, inr, true≢false, mul-le-mul_left, arith, ltb-true, ltb-false, le-ltb}
use Rattle.std.proofs.Math.Nat.{le_of_mul-le-mul_left}
use Rattle.planning.specs.Search.{State, comes_first, bulkier, Choice, none_left, chosen, replaces, with_delivery, bulkiest_of}
use Rattle.planning.specs.Tables.{at}
use Rattle.planning.proofs.Laws.Finite.Decisions.{below_next}

true_unless : (b : Bool) → (b ≡ false → ⊥) → b ≡ true
true_unless true h = refl
true_unless false h = absurd (h refl)

comes_first_irreflexive : (one : Bool) (r l : ℕ) → comes_first one one r l r l ≡ false
unfolding comes_first
comes_first_irreflexive true r l = le-ltb r r (omega arith)
comes_first_irreflexive false r l = le-ltb (r * (l - 1)) (r * (l - 1)) (omega arith)

comes_first_asymmetric : (p_one q_one : Bool) (rest_p limit_p rest_q limit_q : ℕ) → comes_first p_one q_one rest_p limit_p rest_q limit_q ≡ true
    → comes_first q_one p_one rest_q limit_q rest_p limit_p ≡ false
unfolding comes_first
comes_first_asymmetric true true rest_p limit_p rest_q limit_q h = le-ltb rest_p rest_q (omega (arith, ltb-true rest_q rest_p h))
comes_first_asymmetric true false rest_p limit_p rest_q limit_q h = refl
comes_first_asymmetric false true rest_p limit_p rest_q limit_q h = cc
comes_first_asymmetric false false rest_p limit_p rest_q limit_q h =
    le-ltb (rest_p * (limit_q - 1)) (rest_q * (limit_p - 1)) (omega (arith, ltb-true (rest_q * (limit_p - 1)) (rest_p * (limit_q - 1)) h))

-- ratios p : k, q : l, r : m compared by cross products: at most is transitive where q is above 0
cross_transitive : (p k q l r m : ℕ) → 0 < q → p * l ≤ q * k → q * m ≤ r * l → p * m ≤ r * k
cross_transitive p k q l r m s g h =
    le_of_mul-le-mul_left {k = q} (omega (arith, mul-le-mul_left p h, mul-le-mul_left r g)) s

not-first_transitive : (p_one q_one r_one : Bool) (rest_p limit_p rest_q limit_q rest_r limit_r : ℕ) → 0 < rest_q
    → comes_first p_one q_one rest_p limit_p rest_q limit_q ≡ false → comes_first q_one r_one rest_q limit_q rest_r limit_r ≡ false
    → comes_first p_one r_one rest_p limit_p rest_r limit_r ≡ false
unfolding comes_first
not-first_transitive true true true rest_p limit_p rest_q limit_q rest_r limit_r s g h =
    le-ltb rest_r rest_p (omega (arith, ltb-false rest_q rest_p g, ltb-false rest_r rest_q h))
not-first_transitive true true false rest_p limit_p rest_q limit_q rest_r limit_r s g h = cc
not-first_transitive true false true rest_p limit_p rest_q limit_q rest_r limit_r s g h = cc
not-first_transitive true false false rest_p limit_p rest_q limit_q rest_r limit_r s g h = cc
not-first_transitive false true true rest_p limit_p rest_q limit_q rest_r limit_r s g h = refl
not-first_transitive false true false rest_p limit_p rest_q limit_q rest_r limit_r s g h = cc
not-first_transitive false false true rest_p limit_p rest_q limit_q rest_r limit_r s g h = refl
not-first_transitive false false false rest_p limit_p rest_q limit_q rest_r limit_r s g h =
    le-ltb (rest_r * (limit_p - 1)) (rest_p * (limit_r - 1))
    (cross_transitive rest_p (limit_p - 1) rest_q (limit_q - 1) rest_r (limit_r - 1) s (ltb-false (rest_q * (limit_p - 1)) (rest_p * (limit_q - 1)) g)
    (ltb-false (rest_r * (limit_q - 1)) (rest_q * (limit_r - 1)) h))

pub bulkier_irreflexive : (rest limit : ℕ) → bulkier rest limit rest limit ≡ false
unfolding bulkier
bulkier_irreflexive rest limit = comes_first_irreflexive (eqb limit 1) rest limit

pub bulkier_asymmetric : (rest_p limit_p rest_q limit_q : ℕ) → bulkier rest_p limit_p rest_q limit_q ≡ true
    → bulkier rest_q limit_q rest_p limit_p ≡ false
unfolding bulkier
bulkier_asymmetric rest_p limit_p rest_q limit_q = comes_first_asymmetric (eqb limit_p 1) (eqb limit_q 1) rest_p limit_p rest_q limit_q

-- of any two deliveries one does not come before the other
pub bulkier_comparable : (rest_p limit_p rest_q limit_q : ℕ)
    → (bulkier rest_p limit_p rest_q limit_q ≡ false) ⊎ (bulkier rest_q limit_q rest_p limit_p ≡ false)
bulkier_comparable rest_p limit_p rest_q limit_q = go (bulkier rest_p limit_p rest_q limit_q) refl
  where
    go : (b : Bool) → bulkier rest_p limit_p rest_q limit_q ≡ b
        → (bulkier rest_p limit_p rest_q limit_q ≡ false) ⊎ (bulkier rest_q limit_q rest_p limit_p ≡ false)
    go true e = inr (bulkier_asymmetric rest_p limit_p rest_q limit_q e)
    go false e = inl e

-- with bulkier_comparable: "does not come before" is a total preorder of the deliveries with a rest above 0
pub not-bulkier_transitive : (rest_p limit_p rest_q limit_q rest_r limit_r : ℕ) → 0 < rest_q → bulkier rest_p limit_p rest_q limit_q ≡ false
    → bulkier rest_q limit_q rest_r limit_r ≡ false → bulkier rest_p limit_p rest_r limit_r ≡ false
unfolding bulkier
not-bulkier_transitive rest_p limit_p rest_q limit_q rest_r limit_r =
    not-first_transitive (eqb limit_p 1) (eqb limit_q 1) (eqb limit_r 1) rest_p limit_p rest_q limit_q rest_r limit_r

-- whether delivery p comes before delivery q
abbrev pub before : State → (p q : ℕ) → Bool
before s p q = bulkier (at s.rest p) (at s.limit p) (at s.rest q) (at s.limit q)

-- Among the first n deliveries p is left, none that is left comes before it, and it comes before each that is left and
-- earlier in the file.
pub record FirstBulkiest (s : State) (n p : ℕ) : Type 0 where
  pub inside : p < n
  pub left : 0 < at s.rest p
  pub first : (q : ℕ) → q < n → 0 < at s.rest q → before s q p ≡ false
  pub earliest : (q : ℕ) → q < p → 0 < at s.rest q → before s p q ≡ true

-- what a choice among the first n deliveries says of them
abbrev Says : State → ℕ → Choice → Type 0
Says s n none_left = (q : ℕ) → q < n → at s.rest q ≡ 0
Says s n (chosen p) = FirstBulkiest s n p

-- delivery n takes the place of p, which is the first bulkiest before it, or does not
replaced : (s : State) (n p : ℕ) → 0 < at s.rest n → FirstBulkiest s n p → (b : Bool) → before s n p ≡ b
    → Says s (suc n) (replaces b p n)
unfolding replaces
replaced s n p k h true e =
    record {
      inside = omega arith;
      left = k;
      first =
          below_next (λ q. 0 < at s.rest q → before s q n ≡ false) n
          (λ q l m. not-bulkier_transitive _ _ _ _ _ _ h.left (h.first q l m) (bulkier_asymmetric _ _ _ _ e)) (λ m. bulkier_irreflexive _ _);
      earliest = λ q l m. true_unless (before s n q) (λ f. true≢false (sym e ∙ not-bulkier_transitive _ _ _ _ _ _ m f (h.first q l m)));
    }
replaced s n p k h false e =
    record {
      inside = omega (arith, h.inside);
      left = h.left;
      first = below_next (λ q. 0 < at s.rest q → before s q p ≡ false) n h.first (λ m. e);
      earliest = h.earliest;
    }

-- one delivery more
said-next : (s : State) (n : ℕ) (left : Bool) → ltb 0 (at s.rest n) ≡ left → (c : Choice) → Says s n c
    → Says s (suc n) (with_delivery left s c n)
unfolding with_delivery
said-next s n false e none_left h =
    below_next (λ q. at s.rest q ≡ 0) n h (omega (arith, ltb-false 0 (at s.rest n) e))
said-next s n false e (chosen p) h =
    record {
      inside = omega (arith, h.inside);
      left = h.left;
      first =
          below_next (λ q. 0 < at s.rest q → before s q p ≡ false) n h.first
          (λ (k : 0 < at s.rest n). absurd (omega (arith, ltb-false 0 (at s.rest n) e)));
      earliest = h.earliest;
    }
said-next s n true e none_left h =
    record {
      inside = omega arith;
      left = ltb-true 0 (at s.rest n) e;
      first =
          below_next (λ q. 0 < at s.rest q → before s q n ≡ false) n (λ q l (k : 0 < at s.rest q). absurd (omega (arith, h q l)))
          (λ k. bulkier_irreflexive _ _);
      earliest = λ q l (k : 0 < at s.rest q). absurd (omega (arith, h q l));
    }
said-next s n true e (chosen p) h = replaced s n p (ltb-true 0 (at s.rest n) e) h (before s n p) refl

said : (s : State) (n : ℕ) → Says s n (bulkiest_of s n)
unfolding bulkiest_of
said s zero = λ q l. absurd (omega arith)
said s (suc n) = said-next s n (ltb 0 (at s.rest n)) refl (bulkiest_of s n) (said s n)

first_unique : (s : State) (n p q : ℕ) → FirstBulkiest s n p → FirstBulkiest s n q → p < q → ⊥
first_unique s n p q g h l = true≢false (sym (h.earliest p l g.left) ∙ g.first q h.inside h.left)

-- step C among the first n deliveries: p is chosen exactly where it is the first bulkiest
pub chosen-first : (s : State) (n p : ℕ) → (bulkiest_of s n ≡ chosen p) ↔ FirstBulkiest s n p
chosen-first s n p = (λ e. rw e at (said s n), λ h. go h (bulkiest_of s n) (said s n))
  where
    go : FirstBulkiest s n p → (c : Choice) → Says s n c → c ≡ chosen p
    go h none_left g = absurd (omega (arith, g p h.inside, h.left))
    go h (chosen q) g = ap chosen (omega (arith, first_unique s n p q h g, first_unique s n q p g h))

-- and none exactly where no delivery is left
pub none_left_lem : (s : State) (n : ℕ) → (bulkiest_of s n ≡ none_left) ↔ ((q : ℕ) → q < n → at s.rest q ≡ 0)
none_left_lem s n = (λ e. rw e at (said s n), λ h. go h (bulkiest_of s n) (said s n))
  where
    go : ((q : ℕ) → q < n → at s.rest q ≡ 0) → (c : Choice) → Says s n c → c ≡ none_left
    go h none_left g = refl
    go h (chosen q) g = absurd (omega (arith, h q g.inside, g.left))
