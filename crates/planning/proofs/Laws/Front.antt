-- Lists written from the front, one item a turn: what a loop that stores a list's items in order has at each turn.
-- Assumes nothing.
use Rattle.std.specs.Prelude.{◌≡◌, refl, ℕ, zero, suc, ◌+◌, ◌-◌, ◌≤◌, ◌<◌, take, set, replicate}
use Rattle.std.proofs.Common.{ap, ◌∙◌, length-append, length-drop, length-take-le, add-one, arith}
use mathlib.Core.List.{List, [], ◌∷◌, ◌++◌, append-nil}
use Rattle.std.proofs.Math.ListN.{length, drop, get_or}
use Rattle.std.proofs.Math.Seq.{drop-length, take-length}
use Rattle.std.proofs.Math.Nat.{sub-zero, zero-sub, suc-sub-suc}
use Rattle.planning.specs.Tables.{at, filled, padded, over_front}

-- the first i items of one list, and then another's from there on
unfoldable pub front : {A : Type 0} → (i : ℕ) → (new old : List A) → List A
front i new old = take i new ++ drop i old

module _ {A : Type 0} where
  pub front-none : (new old : List A) → old ≡ front 0 new old
  unfolding front
  front-none new old = refl

  pub front_length : (i : ℕ) (new old : List A) → i ≤ length new → i ≤ length old → length (front i new old) ≡ length old
  unfolding front
  front_length i new old h l =
      omega (arith, length-append (take i new) (drop i old), length-take-le i new h, length-drop i old)

  front-suc : (i : ℕ) (new old : List A) (d : A) → i < length new → i < length old → set (front i new old) i (get_or new i d) ≡ front (suc i) new old
  unfolding front
  front-suc i [] old d h l = absurd (omega arith)
  front-suc i (x ∷ xs) [] d h l = absurd (omega arith)
  front-suc zero (x ∷ xs) (y ∷ ys) d h l = refl
  front-suc (suc i) (x ∷ xs) (y ∷ ys) d h l = ap (λ (zs : List A). x ∷ zs) (front-suc i xs ys d (omega arith) (omega arith))

  -- one item more
  pub front-one-more : (d : A) (i : ℕ) (v : A) (out new old : List A) → out ≡ front i new old → v ≡ get_or new i d → i < length new → i < length old
      → set out i v ≡ front (i + 1) new old
  front-one-more d i v out new old e f h l = rw (e, f, add-one i) (front-suc i new old d h l)

  -- all of them
  pub front-all : (new old : List A) → front (length old) new old ≡ take (length old) new
  unfolding front
  front-all new old = ap (λ (zs : List A). take (length old) new ++ zs) (drop-length old) ∙ append-nil (take (length old) new)

drop-alike : {A : Type 0} (d : A) (i n : ℕ) → drop i (replicate n d) ≡ replicate (n - i) d
drop-alike d zero n = rw sub-zero
drop-alike d (suc i) zero = rw zero-sub
drop-alike d (suc i) (suc n) = rw suc-sub-suc (drop-alike d i n)

-- ---- a loop that stores one list's items in front of another

-- the first i items are stored
pub record Stored {A : Type 0} (new old : List A) (i : ℕ) (now : List A) : Type 0 where
  pub within : i ≤ length new
  pub fits : i ≤ length old
  pub is : now ≡ front i new old

pub stored_none : {A : Type 0} (new old : List A) → Stored new old 0 old
stored_none new old = record { within = omega arith; fits = omega arith; is = front-none new old }

module _ {A : Type 0} {new old now : List A} {i : ℕ} (s : Stored new old i now) where
  pub stored-one-more : (d v : A) → v ≡ get_or new i d → i < length new → i < length old → Stored new old (i + 1) (set now i v)
  stored-one-more d v e h l =
      record { within = omega arith; fits = omega arith; is = front-one-more d i v now new old s.is e h l }

  -- all of the new items, and all that the old list has room for
  pub stored_new : length new ≤ i → now ≡ over_front new old
  unfolding front over_front
  stored_new l =
      let all : i ≡ length new = omega (arith, s.within) in
      s.is ∙ rw all (ap (λ (zs : List A). zs ++ drop (length new) old) (take-length new))

  pub stored_old : length old ≤ i → now ≡ take (length old) new
  stored_old l = let all : i ≡ length old = omega (arith, s.fits) in s.is ∙ rw all (front-all new old)

pub stored_more : {new old now : List ℕ} {i : ℕ} → Stored new old i now → (v : ℕ) → v ≡ at new i → i < length new → i < length old
    → Stored new old (i + 1) (set now i v)
stored_more s = stored-one-more s 0

-- over items that are all alike, and over zeros
pub over_alike : {A : Type 0} (d : A) (n : ℕ) (new : List A) → over_front new (replicate n d) ≡ filled d n new
unfolding over_front
over_alike {A} d n new = ap (λ (zs : List A). new ++ zs) (drop-alike d (length new) n)

pub over_zeros : (n : ℕ) (new : List ℕ) → over_front new (replicate n 0) ≡ padded n new
unfolding padded
over_zeros n new = over_alike 0 n new
