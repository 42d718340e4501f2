-- The search (document 01, "Capacity and tries", steps A to F), with every choice fixed.
--
-- Engines and deliveries are numbered from 0 in file order. An engine is open while something of it remains ("An engine with
-- nothing remaining is closed."), a delivery is left while its rest is above 0: laid whole it has rest 0, and a cut leaves a
-- rest, since F cuts only where the remaining is below it. A piece table is a list with "a row for each delivery", and in it a
-- number for each engine.
-- Assumes nothing.
use Rattle.std.specs.Prelude.{ℕ, zero, suc, ◌+◌, ◌*◌, ◌-◌, min, Bool, true, false, ◌&&◌, List, [], ◌∷◌, ◌++◌, length, set, replicate, ltb, leb, eqb}
use Rattle.planning.specs.Sum.{sum, positives}
use Rattle.planning.specs.Tables.{at, cell}

-- the sum of a list
unfoldable pub total : List ℕ → ℕ
total xs = sum (length xs) (at xs)

-- the search state: what remains of each engine, and each delivery's rest and limit. "The engines still open travel with the
-- search state": those of which something remains
pub record State : Type 0 where
  pub remaining : List ℕ
  pub rest : List ℕ
  pub limit : List ℕ

-- "Limit 1 comes before all others, among them the larger rest. Otherwise p comes before q where rest(p) × (limit(q) − 1)
-- exceeds rest(q) × (limit(p) − 1)."
unfoldable pub comes_first : (p_one q_one : Bool) → (rest_p limit_p rest_q limit_q : ℕ) → Bool
comes_first true true rest_p limit_p rest_q limit_q = ltb rest_q rest_p
comes_first true false rest_p limit_p rest_q limit_q = true
comes_first false true rest_p limit_p rest_q limit_q = false
comes_first false false rest_p limit_p rest_q limit_q = ltb (rest_q * (limit_p - 1)) (rest_p * (limit_q - 1))

-- whether p comes before q
unfoldable pub bulkier : (rest_p limit_p rest_q limit_q : ℕ) → Bool
bulkier rest_p limit_p rest_q limit_q = comes_first (eqb limit_p 1) (eqb limit_q 1) rest_p limit_p rest_q limit_q

-- step C's choice
pub data Choice : Type 0 where
  none_left : Choice
  chosen : ℕ → Choice

-- The choice after one delivery more in file order: a delivery p that is left takes the place of the one chosen before it
-- only where it comes before that one. "Equal: the earlier in the file."
unfoldable pub replaces : Bool → (q p : ℕ) → Choice
replaces true q p = chosen p
replaces false q p = chosen q

unfoldable pub with_delivery : (left : Bool) → State → Choice → ℕ → Choice
with_delivery false s choice p = choice
with_delivery true s none_left p = chosen p
with_delivery true s (chosen q) p =
    replaces (bulkier (at s.rest p) (at s.limit p) (at s.rest q) (at s.limit q)) q p

-- C. "Take the bulkiest delivery": among the first n deliveries
unfoldable pub bulkiest_of : State → ℕ → Choice
bulkiest_of s zero = none_left
bulkiest_of s (suc p) = with_delivery (ltb 0 (at s.rest p)) s (bulkiest_of s p) p

-- the smaller of two remainings, where 0 is no open engine's
unfoldable pub smaller : (sofar next : ℕ) → ℕ
smaller m zero = m
smaller zero (suc c) = suc c
smaller (suc m) (suc c) = min (suc m) (suc c)

-- "the smallest remaining of open engines", among the first n engines; 0 where none of them is open
unfoldable pub smallest_of : List ℕ → ℕ → ℕ
smallest_of remaining zero = 0
smallest_of remaining (suc i) = smaller (smallest_of remaining i) (at remaining i)

-- among all engines
unfoldable pub smallest : State → ℕ
smallest s = smallest_of s.remaining (length s.remaining)

-- the step that applies to a state: B, E, or D or F with the delivery chosen in C
pub data Step : Type 0 where
  finished : Step
  fills : Step
  lays : ℕ → Step
  cuts : ℕ → Step

-- "D. Limit 1", "E. Limit 2 or more, and the rest at most (limit − 1) × the smallest remaining of open engines",
-- "F. Otherwise". A delivery left has a rest of at least 1, so E does not apply where no engine is open.
unfoldable pub step_by : (one small : Bool) → ℕ → Step
step_by true small p = lays p
step_by false true p = fills
step_by false false p = cuts p

unfoldable pub step_with : State → Choice → Step
step_with s none_left = finished
step_with s (chosen p) = step_by (eqb (at s.limit p) 1) (leb (at s.rest p) ((at s.limit p - 1) * smallest s)) p

unfoldable pub step_of : State → Step
step_of s = step_with s (bulkiest_of s (length s.rest))

-- D. "open engine .. with remaining at or above the rest"; "lay the whole rest there"
unfoldable pub can_lay : State → (p i : ℕ) → Bool
can_lay s p i = ltb 0 (at s.remaining i) && leb (at s.rest p) (at s.remaining i)

unfoldable pub after_laying : State → (p i : ℕ) → State
after_laying s p i =
    record {
      remaining = set s.remaining i (at s.remaining i - at s.rest p);
      rest = set s.rest p 0;
      limit = s.limit;
    }

-- F. "open engine .. with remaining below the rest"; "cut off a piece equal to the remaining, close the engine, lower rest and limit"
unfoldable pub can_cut : State → (p i : ℕ) → Bool
can_cut s p i = ltb 0 (at s.remaining i) && ltb (at s.remaining i) (at s.rest p)

unfoldable pub after_cutting : State → (p i : ℕ) → State
after_cutting s p i =
    record {
      remaining = set s.remaining i 0;
      rest = set s.rest p (at s.rest p - at s.remaining i);
      limit = set s.limit p (at s.limit p - 1);
    }

-- E. "straight fill (McNaughton) .. Deliveries left in file order, open engines in file order, each engine filled before the
-- next, no piece of 0": the row of a delivery with that rest, and what then remains of the engines. A number of 0 is no piece; a
-- delivery that is done has a rest of 0, a closed engine a remaining of 0.
unfoldable pub drawn : (rest : ℕ) → (remaining : List ℕ) → List ℕ
drawn r [] = []
drawn r (c ∷ cs) = min r c ∷ drawn (r - c) cs

unfoldable pub undrawn : (rest : ℕ) → (remaining : List ℕ) → List ℕ
undrawn r [] = []
undrawn r (c ∷ cs) = (c - r) ∷ undrawn (r - c) cs

unfoldable pub straight_fill : (rests remaining : List ℕ) → List ℕ
straight_fill [] cs = []
straight_fill (r ∷ rs) cs = drawn r cs ++ straight_fill rs (undrawn r cs)

-- what a search ends in, with its tries; found with its piece table
pub data Result : Type 0 where
  found : (tries : ℕ) → (table : List ℕ) → Result
  none : (tries : ℕ) → Result
  stopped : (tries : ℕ) → Result

-- the table without pieces
abbrev pub no_pieces : State → List ℕ
no_pieces s = replicate (length s.rest * length s.remaining) 0

-- the result of a try, with the piece that the try laid or cut off
unfoldable pub with_piece : (place amount : ℕ) → Result → Result
with_piece place amount (found tries table) = found tries (set table place amount)
with_piece place amount (none tries) = none tries
with_piece place amount (stopped tries) = stopped tries

-- "When D or F has no further engine, all it changed is put back and the step before goes on; before the first step that is
-- none.": a try that ends in none is followed by the next engine, from the same state, with the tries made so far
unfoldable pub or_else : Result → (ℕ → Result) → Result
or_else (found tries table) next = found tries table
or_else (none tries) next = next tries
or_else (stopped tries) next = stopped tries

-- the allowance of a search: so many tries, or no end of them
pub data Allowance : Type 0 where
  up_to : ℕ → Allowance
  unlimited : Allowance

-- whether one more try is granted, or would exceed the allowance
pub data Permission : Type 0 where
  granted : Permission
  exceeds : (allowance : ℕ) → Permission

-- granted while fewer tries are made than the allowance has
unfoldable pub permitted : (fewer : Bool) → (allowance : ℕ) → Permission
permitted true allowance = granted
permitted false allowance = exceeds allowance

unfoldable pub permission : Allowance → (made : ℕ) → Permission
permission (up_to allowance) made = permitted (ltb made allowance) allowance
permission unlimited made = granted

-- one engine of D or F. "A try is counted as it is made; where one more would exceed the allowance, the answer is stopped, its
-- tries equal to the allowance."
unfoldable pub one_engine : (eligible : Bool) → Permission → (made : ℕ) → (try next : ℕ → Result) → Result
one_engine false more made try next = next made
one_engine true (exceeds allowance) made try next = stopped allowance
one_engine true granted made try next = or_else (try (made + 1)) next

-- "for each open engine in file order": the n engines from i on, with the tries made so far
unfoldable pub each_engine : (n : ℕ) → (eligible : ℕ → Bool) → (try : ℕ → ℕ → Result) → Allowance → (i made : ℕ) → Result
each_engine zero eligible try allowance i made = none made
each_engine (suc n) eligible try allowance i made =
    one_engine (eligible i) (permission allowance made) made (λ t. try i t) (λ t. each_engine n eligible try allowance (i + 1) t)

-- "B. No delivery left: found.", or E, D or F, where `go_to_b` is the search from the state after a try: "Choosing leads to laying
-- or cutting, and these lead back to choosing. .. each try hands the state on."
unfoldable pub perform : Step → (State → ℕ → Result) → Allowance → State → (made : ℕ) → Result
perform finished go_to_b allowance s made = found made (no_pieces s)
perform fills go_to_b allowance s made = found made (straight_fill s.rest s.remaining)
perform (lays p) go_to_b allowance s made =
    each_engine
    (length s.remaining)
    (λ i. can_lay s p i)
    (λ i tries. with_piece (cell (length s.remaining) p i) (at s.rest p) (go_to_b (after_laying s p i) tries))
    allowance
    0
    made
perform (cuts p) go_to_b allowance s made =
    each_engine
    (length s.remaining)
    (λ i. can_cut s p i)
    (λ i tries. with_piece (cell (length s.remaining) p i) (at s.remaining i) (go_to_b (after_cutting s p i) tries))
    allowance
    0
    made

-- "open engines plus deliveries left": each try lowers it
unfoldable pub size : State → ℕ
size s = positives (length s.remaining) (at s.remaining) + positives (length s.rest) (at s.rest)

-- Steps B to F on a bound for the number of steps. With a bound of 0, that is no open engine and no delivery left, B alone
-- applies. That any bound from the size on gives the same is proved in Laws/Search/Bound.
unfoldable pub search_within : (bound : ℕ) → Allowance → State → (made : ℕ) → Result
search_within zero allowance s made = found made (no_pieces s)
search_within (suc bound) allowance s made =
    perform (step_of s) (λ after tries. search_within bound allowance after tries) allowance s made

-- the search from a state in which some tries are made
unfoldable pub search_from : Allowance → State → (made : ℕ) → Result
search_from allowance s made = search_within (size s) allowance s made

-- "A. Energies above the sum of capacities: none, 0 tries."
unfoldable pub unless_too_much : Bool → Result → Result
unless_too_much true result = none 0
unless_too_much false result = result

-- the whole search
unfoldable pub searched : (capacity energy limit : List ℕ) → Allowance → Result
searched capacity energy limit allowance =
    unless_too_much
    (ltb (total capacity) (total energy))
    (search_from allowance (record { remaining = capacity; rest = energy; limit = limit }) 0)
