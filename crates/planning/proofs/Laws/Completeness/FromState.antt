-- States that a cutting in n parts serves: from one of them, steps D and F try an engine after which what is left is served too.
-- Assumes nothing.
use Rattle.std.specs.Prelude.{◌≡◌, ◌≢◌, ◌⊎◌, Bool, true, ℕ, ◌*◌, ◌-◌, ◌≤◌, ◌<◌, length, set}
use Rattle.std.proofs.Common.{sym, ap, ◌∙◌, inl, inr, mul_assoc, mul-pos, mul_left_comm, mul-le-mul_left, arith, length-set, get_or-set_same, get_or-set_other}
use Rattle.std.proofs.Math.Nat.{mul-sub, mul-lt-mul_of_pos_left, le_of_mul-le-mul_left, lt_of_mul-lt-mul_left}
use Rattle.planning.specs.Cutting.{Fits}
use Rattle.planning.specs.Search.{State, smallest, can_lay, can_cut, after_laying, after_cutting}
use Rattle.planning.specs.Tables.{at}
use Rattle.planning.proofs.Laws.Finite.Decisions.{at-or_else, equal_or_not}
use Rattle.planning.proofs.Laws.Finite.Extremes.{Extreme, largest}
use Rattle.planning.proofs.Laws.Completeness.Removal.{without, laid-fits, cut_fits, whole_on_one}
use Rattle.planning.proofs.Laws.Saturation.Statement.{Saturated, piece-le-capacity}
use Rattle.planning.proofs.Laws.Saturation.{saturation}
use Rattle.planning.proofs.Laws.Search.Steps.{Lays, CutsStep, not-bulkier, smallest-positive, smallest-at, lay_can, cut_can}

-- table x, in n parts, serves what is left in a state
abbrev pub Serving : (n : ℕ) → State → (ℕ → ℕ → ℕ) → Type 0
Serving n s x =
    Fits (length s.remaining) (length s.rest) (λ i. n * at s.remaining i) (λ p. n * at s.rest p) (λ p. at s.limit p) x

-- a state with a limit for each delivery, at least 1 where one is left, that some cutting in n parts serves
pub record Servable (n : ℕ) (s : State) : Type 0 where
  pub parts : 1 ≤ n
  pub aligned : length s.limit ≡ length s.rest
  pub limits : (p : ℕ) → p < length s.rest → 0 < at s.rest p → 1 ≤ at s.limit p
  pub piece : ℕ → ℕ → ℕ
  pub serving : Serving n s piece

-- What is left after laying delivery p, whole, on the engine that has all of it.
pub laid_servable : {n : ℕ} {s : State} (p i : ℕ) (b : Servable n s) → p < length s.rest → i < length s.remaining
    → b.piece p i ≡ n * at s.rest p → Servable n (after_laying s p i)
unfolding after_laying
laid_servable {n} {s} p i b l k whole =
    record {
      parts = b.parts;
      aligned = b.aligned ∙ sym (length-set s.rest p 0);
      limits = rw (length-set s.rest p 0) (at-or_else
          (λ q. q < length s.rest → 0 < at (set s.rest p 0) q → 1 ≤ at s.limit q)
          p
          (λ t o. b.limits p l (omega (arith, get_or-set_same s.rest p 0 0 l)))
          (λ q m t o. b.limits q t (omega (arith, get_or-set_other s.rest p q 0 0 m))));
      piece = without b.piece p i;
      serving =
          rw (length-set s.remaining i (at s.remaining i - at s.rest p), length-set s.rest p 0)
          (laid-fits p i b.serving l k whole
          (rw (get_or-set_same s.remaining i (at s.remaining i - at s.rest p) 0 k) (mul-sub n (at s.remaining i) (at s.rest p)))
          (λ e m. ap (λ v. n * v) (get_or-set_other s.remaining i e (at s.remaining i - at s.rest p) 0 m))
          (rw (get_or-set_same s.rest p 0 0 l) (omega arith))
          (λ q m. ap (λ v. n * v) (get_or-set_other s.rest p q 0 0 m)));
    }

-- What is left after cutting a piece of delivery p off, equal to what remains of the engine that it fills.
pub cut_servable : {n : ℕ} {s : State} (p i : ℕ) (b : Servable n s) → p < length s.rest → i < length s.remaining
    → b.piece p i ≡ n * at s.remaining i → 0 < at s.remaining i → at s.remaining i < at s.rest p → at s.limit p ≢ 1
    → Servable n (after_cutting s p i)
unfolding after_cutting
cut_servable {n} {s} p i b l k full some small several =
    record {
      parts = b.parts;
      aligned = length-set s.limit p (at s.limit p - 1) ∙ b.aligned ∙ sym (length-set s.rest p shorter);
      limits = rw (length-set s.rest p shorter) (at-or_else
          (λ q. q < length s.rest → 0 < at (set s.rest p shorter) q → 1 ≤ at (set s.limit p (at s.limit p - 1)) q)
          p
          (λ t o. omega (arith, limit-here, b.limits p l (omega arith)))
          (λ q m t o. omega (
            arith,
            get_or-set_other s.limit p q (at s.limit p - 1) 0 m,
            b.limits q t (omega (arith, get_or-set_other s.rest p q shorter 0 m)),
          )));
      piece = without b.piece p i;
      serving =
          rw (length-set s.remaining i 0, length-set s.rest p shorter)
          (cut_fits p i b.serving l k full (mul-pos b.parts some)
          (rw (get_or-set_same s.remaining i 0 0 k) (omega arith))
          (λ e m. ap (λ v. n * v) (get_or-set_other s.remaining i e 0 0 m))
          (rw (get_or-set_same s.rest p shorter 0 l) (mul-sub n (at s.rest p) (at s.remaining i)))
          (λ q m. ap (λ v. n * v) (get_or-set_other s.rest p q shorter 0 m))
          limit-here
          (λ q m. get_or-set_other s.limit p q (at s.limit p - 1) 0 m));
    }
  where
    shorter : ℕ
    shorter = at s.rest p - at s.remaining i

    limit-here : at (set s.limit p (at s.limit p - 1)) p ≡ at s.limit p - 1
    limit-here = get_or-set_same s.limit p (at s.limit p - 1) 0 (omega (arith, b.aligned))

-- what is above 0 in n parts is above 0
unscaled_pos : (n a : ℕ) → 0 < n * a → 0 < a
unscaled_pos n a h = lt_of_mul-lt-mul_left n {m = 0} (omega arith)

-- An engine that a step tries, and the state after that try, which is servable.
pub record Tried (n : ℕ) (s : State) (after : ℕ → State) (eligible : ℕ → Bool) : Type 0 where
  pub engine : ℕ
  pub inside : engine < length s.remaining
  pub tried : eligible engine ≡ true
  pub served : Servable n (after engine)

-- Step D tries an engine after which the rest can be served.
pub lays-tried : {n : ℕ} {s : State} (p : ℕ) → Servable n s → Lays s p → Tried n s (after_laying s p) (can_lay s p)
lays-tried {n} {s} p b c = go (whole_on_one p b.serving c.chosen.inside (mul-pos b.parts c.chosen.left) c.one)
  where
    enough : (i : ℕ) → i < length s.remaining → b.piece p i ≡ n * at s.rest p → at s.rest p ≤ at s.remaining i
    enough i k e = le_of_mul-le-mul_left {k = n} (omega (arith, piece-le-capacity b.serving p i c.chosen.inside k)) b.parts

    go : (i : ℕ) × (i < length s.remaining) × (b.piece p i ≡ n * at s.rest p) → Tried n s (after_laying s p) (can_lay s p)
    go (i, k, e) =
        record {
          engine = i;
          inside = k;
          tried = lay_can s p i (omega (arith, enough i k e, c.chosen.left), enough i k e);
          served = laid_servable p i b c.chosen.inside k e;
        }

-- where a delivery is left, an engine is open
open_engine : {n : ℕ} {s : State} (p : ℕ) → Servable n s → p < length s.rest → 0 < at s.rest p → 0 < smallest s
open_engine {n} {s} p b l some = go (largest (length s.remaining) (b.piece p) (omega (arith, b.serving.whole p l, mul-pos b.parts some)))
  where
    go : Extreme ◌≤◌ (length s.remaining) (b.piece p) → 0 < smallest s
    go m =
        smallest-positive s m.place m.place-below
        (unscaled_pos n (at s.remaining m.place)
        (omega (arith, m.positive, piece-le-capacity b.serving p m.place l m.place-below)))

-- the delivery chosen in step F against any delivery left
chosen_against : {n : ℕ} {s : State} (p : ℕ) → Servable n s → CutsStep s p → (q : ℕ) → q < length s.rest → 0 < at s.rest q
    → (at s.limit q ≢ 1) × (at s.rest q * (at s.limit p - 1) ≤ at s.rest p * (at s.limit q - 1))
chosen_against {s = s} p b c q l left =
    not-bulkier (at s.rest q) (at s.limit q) (at s.rest p) (at s.limit p) (c.chosen.first q l left) c.several

-- where step F applies, no delivery left has limit 1
all-cuttable : {n : ℕ} {s : State} (p : ℕ) → Servable n s → CutsStep s p
    → (q : ℕ) → q < length s.rest → 0 < n * at s.rest q → 2 ≤ at s.limit q
all-cuttable {n} {s} p b c q l some = go (unscaled_pos n (at s.rest q) some)
  where
    go : 0 < at s.rest q → 2 ≤ at s.limit q
    go left = omega (arith, b.limits q l left, (chosen_against p b c q l left).0)

-- where step F applies, its delivery is a bulkiest one
chosen-bulkiest : {n : ℕ} {s : State} (p : ℕ) → Servable n s → CutsStep s p
    → (q : ℕ) → q < length s.rest → n * at s.rest q * (at s.limit p - 1) ≤ n * at s.rest p * (at s.limit q - 1)
chosen-bulkiest {n} {s} p b c q l =
    rw (mul_assoc n (at s.rest q) (at s.limit p - 1), mul_assoc n (at s.rest p) (at s.limit q - 1))
    (mul-le-mul_left n (go (equal_or_not (at s.rest q) 0)))
  where
    go : (at s.rest q ≡ 0) ⊎ (at s.rest q ≢ 0) → at s.rest q * (at s.limit p - 1) ≤ at s.rest p * (at s.limit q - 1)
    go (inl e) = rw e (omega arith)
    go (inr n) = (chosen_against p b c q l (omega arith)).1

-- Step F tries an engine after which the rest can be served.
pub cuts-tried : {n : ℕ} {s : State} (p : ℕ) → Servable n s → CutsStep s p → Tried n s (after_cutting s p) (can_cut s p)
cuts-tried {n} {s} p b c = find (smallest-at s (open_engine p b c.chosen.inside c.chosen.left))
  where
    cut : Saturated (length s.remaining) (length s.rest) (λ i. n * at s.remaining i) (λ q. n * at s.rest q) (λ q. at s.limit q) p
        → Tried n s (after_cutting s p) (can_cut s p)
    cut y =
        record {
          engine = y.engine;
          inside = y.engine-below;
          tried = cut_can s p y.engine (some, small);
          served = cut_servable p y.engine instead c.chosen.inside y.engine-below y.full some small c.several;
        }
      where
        some : 0 < at s.remaining y.engine
        some = unscaled_pos n (at s.remaining y.engine) y.open_engine

        small : at s.remaining y.engine < at s.rest p
        small = lt_of_mul-lt-mul_left n y.smaller

        instead : Servable n s
        instead = record { parts = b.parts; aligned = b.aligned; limits = b.limits; piece = y.table; serving = y.fits }

    find : (z : ℕ) × (z < length s.remaining) × (at s.remaining z ≡ smallest s) → Tried n s (after_cutting s p) (can_cut s p)
    find (z, k, e) =
        cut
        (saturation p z b.serving c.chosen.inside (mul-pos b.parts c.chosen.left)
        (all-cuttable p b c)
        (chosen-bulkiest p b c)
        k
        (mul-pos b.parts (omega (arith, open_engine p b c.chosen.inside c.chosen.left)))
        (rw (mul_left_comm (at s.limit p - 1) n (at s.remaining z), e) (mul-lt-mul_of_pos_left c.large b.parts)))
