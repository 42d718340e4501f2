-- Laws of cuttings: in a multiple of the parts, with larger capacities and limits, and for more minutes.
-- Assumes nothing.
use Rattle.std.specs.Prelude.{◌≡◌, refl, List, [], ◌∷◌, map, ℕ, zero, suc, ◌*◌, ◌≤◌, ◌<◌, length, get_or}
use Rattle.std.proofs.Common.{sym, ap, ◌∙◌, mul-zero, mul_assoc, mul_left_comm, mul-le-mul_left, mul-pos, arith}
use Rattle.std.proofs.lemmas.List.{length-map}
use Rattle.planning.specs.declared.Mode.TheVariants.{Fixed}
use Rattle.planning.specs.Sum.{sum, sgn, positives}
use Rattle.planning.specs.Plan.{Plan, Engine}
use Rattle.planning.specs.Capacity.{capacity, capacities}
use Rattle.planning.specs.Quiet.{runs, running}
use Rattle.planning.specs.Cutting.{Cuts, Serves, Served}
use Rattle.planning.proofs.Laws.Finite.Sums.{positives_mono, sum_scale}
use Rattle.planning.proofs.Laws.Quiet.{running_mono}

-- Each piece times k, of a part k times as small.
pub cutting_scales : {n : ℕ} {capacity energy limit : List ℕ} {x : ℕ → ℕ → ℕ} (k : ℕ) → 1 ≤ k → Cuts n capacity energy limit x
    → Cuts (n * k) capacity energy limit (λ p i. k * x p i)
cutting_scales {n} {capacity} {energy} {limit} {x} k some c =
    record {
      from_one = mul-pos c.from_one some;
      fits =
          record {
            whole = λ p l. sum_scale k (length capacity) (x p) ∙ ap (λ v. k * v) (c.fits.whole p l) ∙ scaled (get_or energy p 0);
            within = λ i l. omega (
              arith,
              sum_scale k (length energy) (λ p. x p i),
              mul-le-mul_left k (c.fits.within i l),
              scaled (get_or capacity i 0),
            );
            few = λ p l. omega (
              arith,
              positives_mono (length capacity) (x p) (λ i. k * x p i) (λ i s e. ap (λ v. k * v) e ∙ mul-zero k),
              c.fits.few p l,
            );
          };
    }
  where
    scaled : (v : ℕ) → k * (n * v) ≡ n * k * v
    scaled v = mul_left_comm k n v ∙ sym (mul_assoc n k v)

-- A larger capacity or limit takes no cutting away.
pub cutting-stays : {n : ℕ} {capacity energy limit : List ℕ} {x : ℕ → ℕ → ℕ} (capacity' limit' : List ℕ) → length capacity' ≡ length capacity
    → ((i : ℕ) → i < length capacity → get_or capacity i 0 ≤ get_or capacity' i 0)
    → ((p : ℕ) → p < length energy → get_or limit p 0 ≤ get_or limit' p 0)
    → Cuts n capacity energy limit x → Cuts n capacity' energy limit' x
cutting-stays {n} {capacity} {energy} {limit} {x} capacity' limit' same more raised c =
    record {
      from_one = c.from_one;
      fits =
          rw same
          (record {
            whole = c.fits.whole;
            within = λ i l. omega (arith, c.fits.within i l, mul-le-mul_left n (more i l));
            few = λ p l. omega (arith, c.fits.few p l, raised p l);
          });
    }

-- Capacity never falls as the minutes grow.
pub capacity_mono : (e : Engine) (T T' : ℕ) → T ≤ T' → capacity e T ≤ capacity e T'
unfolding capacity
capacity_mono e T T' l = omega (arith, mul-le-mul_left e.watts (running_mono e.quiet T T' l))

entry_mono : {A : Type 0} (f g : A → ℕ) → ((a : A) → f a ≤ g a) → (xs : List A) (i : ℕ) → get_or (map f xs) i 0 ≤ get_or (map g xs) i 0
entry_mono f g h [] i = omega arith
entry_mono f g h (x ∷ xs) zero = h x
entry_mono f g h (x ∷ xs) (suc i) = entry_mono f g h xs i

-- What serves in T minutes serves in more.
pub serves-longer : {n : ℕ} (plan : Plan) (T T' : ℕ) {x : ℕ → ℕ → ℕ} → T ≤ T' → Serves n plan T x → Serves n plan T' x
unfolding capacities
serves-longer plan T T' l =
    cutting-stays (capacities plan T') _
    (length-map plan.engines (λ e. capacity e T') ∙ sym (length-map plan.engines (λ e. capacity e T)))
    (λ i s. entry_mono (λ e. capacity e T) (λ e. capacity e T') (λ e. capacity_mono e T T' l) plan.engines i)
    (λ p s. omega arith)

pub served-longer : (plan : Plan) (T T' : ℕ) → T ≤ T' → Served plan T → Served plan T'
served-longer plan T T' l s = record { parts = s.parts; piece = s.piece; serves = serves-longer plan T T' l s.serves }

-- A cutting in halves: a delivery of 1 Wh, half of it on each of two engines with capacity 1.
unfoldable pub two_engines : Plan
two_engines =
    record {
      mode = Fixed;
      minutes = 1;
      allowance = 0;
      engines = record { watts = 60; fuel = 1; quiet = [] } ∷ record { watts = 60; fuel = 1; quiet = [] } ∷ [];
      deliveries = record { energy = 1; limit = 2 } ∷ [];
    }

pub halves_serve : Serves 2 two_engines 1 (λ p i. 1)
unfolding two_engines capacities capacity running runs sum positives sgn
halves_serve = record { from_one = omega arith; fits = record { whole = whole; within = within; few = few } }
  where
    whole : (p : ℕ) → p < 1 → sum 2 (λ i. 1) ≡ 2 * get_or (1 ∷ []) p 0
    whole zero l = refl
    whole (suc p) l = absurd (omega arith)

    within : (i : ℕ) → i < 2 → sum 1 (λ p. 1) ≤ 2 * get_or (1 ∷ 1 ∷ []) i 0
    within zero l = omega arith
    within (suc zero) l = omega arith
    within (suc (suc i)) l = absurd (omega arith)

    few : (p : ℕ) → p < 1 → positives 2 (λ i. 1) ≤ get_or (2 ∷ []) p 0
    few zero l = omega arith
    few (suc p) l = absurd (omega arith)

-- "With no deliveries, the cutting without pieces serves."
pub no_deliveries-served : (n : ℕ) (capacity limit : List ℕ) (x : ℕ → ℕ → ℕ) → 1 ≤ n → Cuts n capacity [] limit x
unfolding sum
no_deliveries-served n capacity limit x some =
    record {
      from_one = some;
      fits =
          record {
            whole = λ p l. absurd (omega arith);
            within = λ i l. omega arith;
            few = λ p l. absurd (omega arith);
          };
    }
