-- Soundness of the search: a table that it finds from a well-formed state fits what remains of the engines and what is left of the deliveries,
-- and has at most as many pieces as there are open engines and deliveries left.
-- Assumes nothing.
use Rattle.std.specs.Prelude.{◌≡◌, refl, ◌≢◌, Bool, true, List, ℕ, zero, suc, ◌+◌, ◌*◌, ◌-◌, ◌≤◌, ◌<◌, length, set, replicate}
use Rattle.std.proofs.Common.{sym, ◌∙◌, length-set, get_or-set_same, get_or-set_other, mul-le-mul_right, le_of_mul-le-mul_right, arith}
use Rattle.std.proofs.lemmas.List.{length-replicate}
use Rattle.planning.specs.Cutting.{Fits}
use Rattle.planning.proofs.Laws.Search.Bound.{size-laying, size-cutting, search_steps}
use Rattle.planning.proofs.Laws.Finite.Decisions.{at-or_else}
use Rattle.planning.proofs.Laws.Soundness.Found.{TriedBy, each-found, Placed, placed}
use Rattle.planning.proofs.Laws.Soundness.Placing.{no_piece_of_delivery, no_piece_of_engine, placed-fits}
use Rattle.planning.proofs.Laws.Search.Steps.{Lays, Fills, CutsStep, step-finished, step-lays, step-fills, step-cuts, not-bulkier, smallest-le, can_lay-true}
use Rattle.planning.proofs.Laws.Search.Steps.{can_cut-true}
use Rattle.planning.proofs.Laws.Soundness.StraightFill.{all_others, fill_length, fill_pieces, fill_whole, fill_within, fill_few}
use Rattle.planning.proofs.Laws.Finite.Sums.{sum_one, sum-zero, sgn-le-one, positives-zero}
use Rattle.planning.proofs.Laws.Finite.Lists.{inside_of, positives-set}
use Rattle.planning.proofs.Laws.Soundness.Table.{cell-inside, entry_of_zeros, piece_of_zeros}
use Rattle.planning.specs.Tables.{piece_in, at, cell}
use Rattle.planning.specs.Search.{State, total, Step, finished, fills, lays, cuts, step_of, smallest, can_lay, after_laying, can_cut, after_cutting}
use Rattle.planning.specs.Search.{straight_fill, Result, found, with_piece, Allowance, perform, size, search_from}
use Rattle.planning.specs.Sum.{positives}

-- every delivery left has a limit of at least 1, and the rests add up to no more than what remains of the engines
pub record WellFormed (s : State) : Type 0 where
  pub limits : (p : ℕ) → p < length s.rest → 0 < at s.rest p → 1 ≤ at s.limit p
  pub enough : total s.rest ≤ total s.remaining

-- the table serves what is left of a state from what remains of its engines
pub record Sound (s : State) (table : List ℕ) : Type 0 where
  pub cells : length table ≡ length s.rest * length s.remaining
  pub fits : Fits (length s.remaining) (length s.rest) (at s.remaining) (at s.rest) (at s.limit) (piece_in (length s.remaining) table)
  pub pieces : positives (length table) (at table) ≤ size s

-- B: with no delivery left, the table of zeros.

nothing-sound : (s : State) → ((p : ℕ) → p < length s.rest → at s.rest p ≡ 0) → Sound s (replicate (length s.rest * length s.remaining) 0)
nothing-sound s z =
    record {
      cells = length-replicate n 0;
      fits = record {
        whole = λ p l. sum-zero (length s.remaining) (x p) (λ i m. none p i) ∙ sym (z p l);
        within = λ i l. omega (arith, sum-zero (length s.rest) (λ p. x p i) (λ p m. none p i));
        few = λ p l. omega (arith, positives-zero (length s.remaining) (x p) (λ i m. none p i));
      };
      pieces = omega (arith, positives-zero (length zeros) (at zeros) (λ i l. entry_of_zeros n i));
    }
  where
    n : ℕ
    n = length s.rest * length s.remaining

    zeros : List ℕ
    zeros = replicate n 0

    x : ℕ → ℕ → ℕ
    x = piece_in (length s.remaining) zeros

    none : (p i : ℕ) → x p i ≡ 0
    none p i = piece_of_zeros (length s.remaining) n p i

-- E: the straight fill.

-- a / l ≤ b / k and b ≤ k * m give a ≤ l * m
by-bulkiest : (a l b k m : ℕ) → 0 < k → a * k ≤ b * l → b ≤ k * m → a ≤ l * m
by-bulkiest a l b k m s g h = le_of_mul-le-mul_right {k = k} (omega (arith, mul-le-mul_right l h)) s

positive_factor : (a k m : ℕ) → 0 < a → a ≤ k * m → 0 < m
positive_factor a k zero s h = absurd (omega arith)
positive_factor a k (suc m) s h = omega arith

fill_sound : (s : State) (p : ℕ) → WellFormed s → Fills s p → Sound s (straight_fill s.rest s.remaining)
unfolding size
fill_sound s p w f =
    record {
      cells = fill_length s.rest s.remaining;
      fits = record {
        whole = fill_whole (length s.remaining) s.rest s.remaining refl w.enough;
        within = fill_within (length s.remaining) s.rest s.remaining refl;
        few = fill_few (length s.remaining) (smallest s) (at s.limit) s.rest s.remaining refl some_open
            (all_others (smallest s) s.remaining (λ i k. smallest-le s i (inside_of s.remaining i k) k)) small;
      };
      pieces = fill_pieces s.rest s.remaining;
    }
  where
    some_open : 0 < smallest s
    some_open = positive_factor (at s.rest p) (at s.limit p - 1) (smallest s) f.chosen.left f.small

    limit-p : 1 ≤ at s.limit p
    limit-p = w.limits p f.chosen.inside f.chosen.left

    -- the chosen delivery is the bulkiest, so what E asks of it holds for each
    small : (q : ℕ) → q < length s.rest → 0 < at s.rest q → (1 ≤ at s.limit q) × (at s.rest q ≤ (at s.limit q - 1) * smallest s)
    small q l k = (
      w.limits q l k,
      by-bulkiest (at s.rest q) (at s.limit q - 1) (at s.rest p) (at s.limit p - 1) (smallest s) (omega (arith, limit-p, f.several))
          (not-bulkier (at s.rest q) (at s.limit q) (at s.rest p) (at s.limit p) (f.chosen.first q l k) f.several).1
          f.small,
    )

-- D and F: one piece, and the table found from the state after it.

-- the state after delivery p drew d from engine i
record Draws (s after : State) (p i d : ℕ) : Type 0 where
  engines : length after.remaining ≡ length s.remaining
  deliveries : length after.rest ≡ length s.rest
  engine : i < length s.remaining
  delivery : p < length s.rest
  remaining-more : at s.remaining i ≡ at after.remaining i + d
  rest_more : at s.rest p ≡ at after.rest p + d
  remaining-others : (k : ℕ) → k ≢ i → at s.remaining k ≡ at after.remaining k
  rest-others : (q : ℕ) → q ≢ p → at s.rest q ≡ at after.rest q
  limit-others : (q : ℕ) → q ≢ p → at s.limit q ≡ at after.limit q

lay_draws : (s : State) (p i : ℕ) → Lays s p → can_lay s p i ≡ true → Draws s (after_laying s p i) p i (at s.rest p)
unfolding after_laying
lay_draws s p i h e =
    record {
      engines = length-set s.remaining i (at s.remaining i - at s.rest p);
      deliveries = length-set s.rest p 0;
      engine = engine;
      delivery = h.chosen.inside;
      remaining-more = omega (arith, get_or-set_same s.remaining i (at s.remaining i - at s.rest p) 0 engine, (can_lay-true s p i e).1);
      rest_more = omega (arith, get_or-set_same s.rest p 0 0 h.chosen.inside);
      remaining-others = λ k n. sym (get_or-set_other s.remaining i k (at s.remaining i - at s.rest p) 0 n);
      rest-others = λ q n. sym (get_or-set_other s.rest p q 0 0 n);
      limit-others = λ q n. refl;
    }
  where
    engine : i < length s.remaining
    engine = inside_of s.remaining i (can_lay-true s p i e).0

cut_draws : (s : State) (p i : ℕ) → CutsStep s p → can_cut s p i ≡ true → Draws s (after_cutting s p i) p i (at s.remaining i)
unfolding after_cutting
cut_draws s p i h e =
    record {
      engines = length-set s.remaining i 0;
      deliveries = length-set s.rest p (at s.rest p - at s.remaining i);
      engine = engine;
      delivery = h.chosen.inside;
      remaining-more = omega (arith, get_or-set_same s.remaining i 0 0 engine);
      rest_more = omega (arith, get_or-set_same s.rest p (at s.rest p - at s.remaining i) 0 h.chosen.inside, (can_cut-true s p i e).1);
      remaining-others = λ k n. sym (get_or-set_other s.remaining i k 0 0 n);
      rest-others = λ q n. sym (get_or-set_other s.rest p q (at s.rest p - at s.remaining i) 0 n);
      limit-others = λ q n. sym (get_or-set_other s.limit p q (at s.limit p - 1) 0 n);
    }
  where
    engine : i < length s.remaining
    engine = inside_of s.remaining i (can_cut-true s p i e).0

-- a piece lowers both totals alike
draws_well_formed : {s after : State} {p i d : ℕ} → Draws s after p i d → WellFormed s → (0 < at after.rest p → 1 ≤ at after.limit p)
    → WellFormed after
unfolding total
draws_well_formed {s} {after} {p} {i} h w b =
    record {
      limits = at-or_else (λ q. q < length after.rest → 0 < at after.rest q → 1 ≤ at after.limit q) p (λ l. b)
          (λ q n l k. omega (arith, h.limit-others q n, w.limits q (omega (arith, h.deliveries)) (omega (arith, h.rest-others q n))));
      enough = rw (h.engines, h.deliveries)
          (omega (
            arith,
            w.enough,
            h.rest_more,
            h.remaining-more,
            sum_one (length s.rest) (at s.rest) (at after.rest) p h.delivery (λ q l n. h.rest-others q n),
            sum_one (length s.remaining) (at s.remaining) (at after.remaining) i h.engine (λ k l n. h.remaining-others k n),
          ));
    }

-- the table found from the state after the piece, with the lengths of the state before it
after-fits : {s after : State} {p i d : ℕ} {table : List ℕ} → Draws s after p i d → Sound after table
    → Fits (length s.remaining) (length s.rest) (at after.remaining) (at after.rest) (at after.limit) (piece_in (length s.remaining) table)
after-fits h t = rw (h.engines, h.deliveries) at t.fits

draws_sound : {s after : State} {p i d : ℕ} {table : List ℕ} → Draws s after p i d → Sound after table → size after < size s
    → piece_in (length s.remaining) table p i ≡ 0 → positives (length s.remaining) (piece_in (length s.remaining) table p) + 1 ≤ at s.limit p
    → Sound s (set table (cell (length s.remaining) p i) d)
draws_sound {s} {after} {p} {i} {d} {table} h t less free room =
    record {
      cells = length-set table (cell (length s.remaining) p i) d ∙ cells;
      fits = placed-fits (record {
        cells = cells;
        fits = after-fits h t;
        engine = h.engine;
        delivery = h.delivery;
        free = free;
        capacity-more = h.remaining-more;
        amount-more = h.rest_more;
        limit-more = room;
        capacity-others = h.remaining-others;
        amount-others = h.rest-others;
        limit-others = h.limit-others;
      });
      pieces = omega (arith, positives-set table (cell (length s.remaining) p i) d inside, sgn-le-one d, t.pieces);
    }
  where
    cells : length table ≡ length s.rest * length s.remaining
    cells = rw (h.engines, h.deliveries) at t.cells

    inside : cell (length s.remaining) p i < length table
    inside = rw cells (cell-inside (length s.remaining) (length s.rest) p i h.delivery h.engine)

-- after laying, nothing is left of the delivery: it has no other piece
lay_sound : (s : State) (p i : ℕ) {table : List ℕ} → Lays s p → can_lay s p i ≡ true → Sound (after_laying s p i) table
    → Sound s (set table (cell (length s.remaining) p i) (at s.rest p))
unfolding after_laying
lay_sound s p i {table} h e t =
    draws_sound d t (size-laying s p i h.chosen.left e) (none i d.engine)
    (omega (arith, h.one, positives-zero (length s.remaining) (piece_in (length s.remaining) table p) none))
  where
    d : Draws s (after_laying s p i) p i (at s.rest p)
    d = lay_draws s p i h e

    none : (k : ℕ) → k < length s.remaining → piece_in (length s.remaining) table p k ≡ 0
    none = no_piece_of_delivery (after-fits d t) p d.delivery (get_or-set_same s.rest p 0 0 d.delivery)

lay_well_formed : (s : State) (p i : ℕ) → WellFormed s → Lays s p → can_lay s p i ≡ true → WellFormed (after_laying s p i)
unfolding after_laying
lay_well_formed s p i w h e =
    draws_well_formed (lay_draws s p i h e) w (λ k. omega (arith, h.one))

-- a cut lowers the delivery's limit by 1
cut-limit : (s : State) (p i : ℕ) → WellFormed s → CutsStep s p → at (after_cutting s p i).limit p + 1 ≡ at s.limit p
unfolding after_cutting
cut-limit s p i w h =
    let l : 1 ≤ at s.limit p = w.limits p h.chosen.inside h.chosen.left in
    omega (arith, get_or-set_same s.limit p (at s.limit p - 1) 0 (inside_of s.limit p l))

-- after cutting, nothing remains of the engine: the table found has no piece on it
cut-sound : (s : State) (p i : ℕ) {table : List ℕ} → WellFormed s → CutsStep s p → can_cut s p i ≡ true → Sound (after_cutting s p i) table
    → Sound s (set table (cell (length s.remaining) p i) (at s.remaining i))
unfolding after_cutting
cut-sound s p i {table} w h e t =
    draws_sound d t (size-cutting s p i e)
    (no_piece_of_engine (after-fits d t) i d.engine (get_or-set_same s.remaining i 0 0 d.engine) p d.delivery)
    (omega (arith, cut-limit s p i w h, (after-fits d t).few p d.delivery))
  where
    d : Draws s (after_cutting s p i) p i (at s.remaining i)
    d = cut_draws s p i h e

cut_well_formed : (s : State) (p i : ℕ) → WellFormed s → CutsStep s p → can_cut s p i ≡ true → WellFormed (after_cutting s p i)
cut_well_formed s p i w h e =
    draws_well_formed (cut_draws s p i h e) w (λ k. omega (arith, cut-limit s p i w h, h.several, w.limits p h.chosen.inside h.chosen.left))

-- a loop over the engines is sound where each of its tries is
loop_sound : (go_to_b : State → ℕ → Result) (s : State) (p : ℕ) (eligible : ℕ → Bool) (after : ℕ → State) (amount : ℕ → ℕ) {tries : ℕ} {table : List ℕ}
    → ((i t : ℕ) (rows : List ℕ) → eligible i ≡ true → go_to_b (after i) t ≡ found tries rows
    → Sound s (set rows (cell (length s.remaining) p i) (amount i)))
    → TriedBy (length s.remaining) 0 eligible (λ i t. with_piece (cell (length s.remaining) p i) (amount i) (go_to_b (after i) t)) (found tries table)
    → Sound s table
loop_sound go_to_b s p eligible after amount {tries} {table} r t =
    go (placed (cell (length s.remaining) p t.engine) (amount t.engine) (go_to_b (after t.engine) t.made) t.ends)
  where
    go : Placed (cell (length s.remaining) p t.engine) (amount t.engine) (go_to_b (after t.engine) t.made) tries table → Sound s table
    go b = rw b.after at (r t.engine t.made b.before t.able b.finds)

-- a step is sound where the search from each smaller state is
step-sound : (go_to_b : State → ℕ → Result) (allowance : Allowance) (s : State) (made : ℕ) {tries : ℕ} {table : List ℕ} → WellFormed s
    → ((after : State) (t : ℕ) (rows : List ℕ) → WellFormed after → size after < size s → go_to_b after t ≡ found tries rows → Sound after rows)
    → (step : Step) → step_of s ≡ step → perform step go_to_b allowance s made ≡ found tries table → Sound s table
unfolding perform
step-sound go_to_b allowance s made {table} w r finished e h =
    let d : replicate (length s.rest * length s.remaining) 0 ≡ table = cc in rw d at (nothing-sound s (step-finished s e))
step-sound go_to_b allowance s made {table} w r fills e h =
    let d : straight_fill s.rest s.remaining ≡ table = cc in rw d at (fill_sound s (step-fills s e).0 w (step-fills s e).1)
step-sound go_to_b allowance s made w r (lays p) e h =
    loop_sound go_to_b s p (λ i. can_lay s p i) (λ i. after_laying s p i) (λ i. at s.rest p)
    (λ i t rows able g. lay_sound s p i l able
    (r (after_laying s p i) t rows (lay_well_formed s p i w l able) (size-laying s p i l.chosen.left able) g))
    (each-found (length s.remaining) _ _ allowance 0 made h)
  where
    l : Lays s p
    l = step-lays s p e
step-sound go_to_b allowance s made w r (cuts p) e h =
    loop_sound go_to_b s p (λ i. can_cut s p i) (λ i. after_cutting s p i) (λ i. at s.remaining i)
    (λ i t rows able g. cut-sound s p i w l able
    (r (after_cutting s p i) t rows (cut_well_formed s p i w l able) (size-cutting s p i able) g))
    (each-found (length s.remaining) _ _ allowance 0 made h)
  where
    l : CutsStep s p
    l = step-cuts s p e

-- the same for sizes below a bound: the induction
sound-below : (bound : ℕ) (allowance : Allowance) (s : State) (made : ℕ) {tries : ℕ} {table : List ℕ} → size s < bound → WellFormed s
    → search_from allowance s made ≡ found tries table → Sound s table
sound-below zero allowance s made l w h = absurd (omega arith)
sound-below (suc bound) allowance s made l w h =
    step-sound (λ after tries. search_from allowance after tries) allowance s made w
    (λ after t rows v k. sound-below bound allowance after t (omega arith) v) (step_of s) refl (sym (search_steps allowance s made) ∙ h)

-- what the search finds from a well-formed state is sound
pub search_sound : (allowance : Allowance) (s : State) (made : ℕ) {tries : ℕ} {table : List ℕ} → WellFormed s
    → search_from allowance s made ≡ found tries table → Sound s table
search_sound allowance s made = sound-below (suc (size s)) allowance s made (omega arith)
