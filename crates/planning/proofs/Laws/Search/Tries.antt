-- Tries and the allowance: a search with an allowance answers what the search with no end of tries answers, and is stopped where
-- that one needs more tries than the allowance.
-- Assumes nothing.
use Rattle.std.specs.Prelude.{◌≡◌, refl, ◌≢◌, ◌⊎◌, ◌↔◌, Bool, true, false, List, ℕ, zero, suc, ◌+◌, ◌≤◌, ◌<◌, ltb, length}
use Rattle.std.proofs.Common.{sym, ap, ◌∙◌, inl, inr, ⊎_elim, arith, ltb-true, ltb-false}
use Rattle.planning.specs.declared.Outcome.TheVariants.{Stopped}
use Rattle.planning.specs.Modes.{outcome_of, tries_of}
use Rattle.planning.specs.Search.{State, total, Step, finished, fills, lays, cuts, step_of, can_lay, after_laying, can_cut, after_cutting, Result, found}
use Rattle.planning.specs.Search.{none, stopped, with_piece, or_else, no_pieces, up_to, unlimited, permitted, permission, one_engine, each_engine, perform}
use Rattle.planning.specs.Search.{size, search_within, search_from, unless_too_much, searched}
use Rattle.planning.specs.Tables.{at, cell}
use Rattle.planning.proofs.Laws.Finite.Decisions.{le-or-lt}

-- `whole`, with no end of tries, ends with at least the tries made before it and is not stopped; `limited`, with the allowance,
-- is the same where whole's tries are within it, and otherwise stopped with the allowance for its tries
pub record WithAllowance (allowance made : ℕ) (whole limited : Result) : Type 0 where
  pub least : made ≤ tries_of whole
  pub ends : (t : ℕ) → whole ≢ stopped t
  pub within : tries_of whole ≤ allowance → limited ≡ whole
  pub beyond : made ≤ allowance → allowance < tries_of whole → limited ≡ stopped allowance

-- a result that is not stopped, by its outcome
pub not_stopped : (r : Result) → ((t : ℕ) → r ≢ stopped t) → outcome_of r ≢ Stopped
unfolding outcome_of
not_stopped (found tries table) h e = let z : ◌≡◌ {A = ℕ} 0 1 = cc in absurd (omega arith)
not_stopped (none tries) h e = let z : ◌≡◌ {A = ℕ} 0 1 = cc in absurd (omega arith)
not_stopped (stopped tries) h e = h tries refl

-- the two cases, where the allowance is not yet passed
pub allowance_cases : {allowance made : ℕ} {whole limited : Result} → WithAllowance allowance made whole limited → made ≤ allowance
    → ((tries_of whole ≤ allowance) × (limited ≡ whole)) ⊎ ((allowance < tries_of whole) × (limited ≡ stopped allowance))
allowance_cases {allowance} {whole = whole} c l =
    ⊎_elim (λ k. inl (k, c.within k)) (λ k. inr (k, c.beyond l k)) (le-or-lt (tries_of whole) allowance)

-- with the allowance the search is stopped exactly when it needs more tries than that ..
pub stopped-outcome : {allowance made : ℕ} {whole limited : Result} → WithAllowance allowance made whole limited → made ≤ allowance
    → (outcome_of limited ≡ Stopped) ↔ (allowance < tries_of whole)
unfolding outcome_of
stopped-outcome {whole = whole} c l =
    ⊎_elim
    (λ h. (λ e. absurd (not_stopped whole c.ends (sym (ap outcome_of h.1) ∙ e)), λ k. absurd (omega (arith, h.0))))
    (λ h. (λ e. h.0, λ k. ap outcome_of h.1))
    (allowance_cases c l)

-- .. and otherwise it is the search with no end of tries
pub going_outcome : {allowance made : ℕ} {whole limited : Result} → WithAllowance allowance made whole limited → made ≤ allowance
    → outcome_of limited ≢ Stopped → (limited ≡ whole) × (tries_of limited ≤ allowance)
going_outcome c l going =
    ⊎_elim (λ h. (h.1, rw h.1 h.0)) (λ h. absurd (going ((stopped-outcome c l).1 h.0))) (allowance_cases c l)

-- a search that ends with no further try
at_once : (allowance made : ℕ) (r : Result) → tries_of r ≡ made → ((t : ℕ) → r ≢ stopped t) → WithAllowance allowance made r r
at_once allowance made r e n = record { least = omega arith; ends = n; within = λ l. refl; beyond = λ l k. absurd (omega arith) }

pub found-not-stopped : (tries : ℕ) (table : List ℕ) (t : ℕ) → found tries table ≢ stopped t
found-not-stopped tries table t e = let z : ◌≡◌ {A = ℕ} 0 1 = cc in absurd (omega arith)

pub none-not-stopped : (tries t : ℕ) → none tries ≢ stopped t
none-not-stopped tries t e = let z : ◌≡◌ {A = ℕ} 0 1 = cc in absurd (omega arith)

tries-with_piece : (place amount : ℕ) (r : Result) → tries_of (with_piece place amount r) ≡ tries_of r
unfolding tries_of with_piece
tries-with_piece place amount (found tries table) = refl
tries-with_piece place amount (none tries) = refl
tries-with_piece place amount (stopped tries) = refl

with_piece-ends : (place amount : ℕ) (r : Result) → ((t : ℕ) → r ≢ stopped t) → (t : ℕ) → with_piece place amount r ≢ stopped t
unfolding with_piece
with_piece-ends place amount (found tries table) n t = found-not-stopped tries _ t
with_piece-ends place amount (none tries) n t = none-not-stopped tries t
with_piece-ends place amount (stopped tries) n t = absurd (n tries refl)

allowance-piece : (allowance made place amount : ℕ) (whole limited : Result) → WithAllowance allowance made whole limited
    → WithAllowance allowance made (with_piece place amount whole) (with_piece place amount limited)
unfolding with_piece
allowance-piece allowance made place amount whole limited h =
    record {
      least = omega (arith, tries-with_piece place amount whole, h.least);
      ends = with_piece-ends place amount whole h.ends;
      within = λ l. ap (with_piece place amount) (h.within (omega (arith, tries-with_piece place amount whole)));
      beyond = λ l k. ap (with_piece place amount) (h.beyond l (omega (arith, tries-with_piece place amount whole)));
    }

-- a try and what follows it where it ends in none
allowance-or_else : (allowance made : ℕ) (whole limited : Result) (next next' : ℕ → Result) → WithAllowance allowance made whole limited
    → ((t : ℕ) → WithAllowance allowance t (next t) (next' t))
    → WithAllowance allowance made (or_else whole next) (or_else limited next')
unfolding or_else tries_of
allowance-or_else allowance made (found tries table) limited next next' h k =
    record {
      least = h.least;
      ends = h.ends;
      within = λ l. rw (h.within l);
      beyond = λ l g. rw (h.beyond l g);
    }
allowance-or_else allowance made (stopped tries) limited next next' h k = absurd (h.ends tries refl)
allowance-or_else allowance made (none tries) limited next next' h k =
    record {
      least = omega (arith, h.least, (k tries).least);
      ends = (k tries).ends;
      within = λ l. rw (h.within (omega (arith, (k tries).least))) ((k tries).within l);
      beyond = λ l g. go l g (le-or-lt tries allowance);
    }
  where
    go : made ≤ allowance → allowance < tries_of (next tries) → (tries ≤ allowance) ⊎ (allowance < tries)
        → or_else limited next' ≡ stopped allowance
    go m g (inl l) = rw (h.within l) ((k tries).beyond l g)
    go m g (inr l) = rw (h.beyond m l)

-- one engine of D or F: the try is granted, or would exceed the allowance
allowance-one : (allowance made : ℕ) (eligible : Bool) (try try' next next' : ℕ → Result)
    → WithAllowance allowance (made + 1) (try (made + 1)) (try' (made + 1))
    → ((t : ℕ) → WithAllowance allowance t (next t) (next' t))
    → WithAllowance allowance made (one_engine eligible (permission unlimited made) made try next)
    (one_engine eligible (permission (up_to allowance) made) made try' next')
unfolding one_engine permission permitted
allowance-one allowance made false try try' next next' h k = k made
allowance-one allowance made true try try' next next' h k = go (ltb made allowance) refl
  where
    both : WithAllowance allowance (made + 1) (or_else (try (made + 1)) next) (or_else (try' (made + 1)) next')
    both = allowance-or_else allowance (made + 1) (try (made + 1)) (try' (made + 1)) next next' h k

    go : (fewer : Bool) → ltb made allowance ≡ fewer
        → WithAllowance allowance made (or_else (try (made + 1)) next) (one_engine true (permitted fewer allowance) made try' next')
    go true e =
        record {
          least = omega (arith, both.least);
          ends = both.ends;
          within = both.within;
          beyond = λ l. both.beyond (omega (arith, ltb-true made allowance e));
        }
    go false e =
        record {
          least = omega (arith, both.least);
          ends = both.ends;
          within = λ l. absurd (omega (arith, both.least, ltb-false made allowance e));
          beyond = λ l g. refl;
        }

allowance-each : (allowance n : ℕ) (eligible : ℕ → Bool) (try try' : ℕ → ℕ → Result)
    → ((i t : ℕ) → WithAllowance allowance t (try i t) (try' i t)) → (i made : ℕ)
    → WithAllowance allowance made (each_engine n eligible try unlimited i made) (each_engine n eligible try' (up_to allowance) i made)
unfolding each_engine tries_of
allowance-each allowance zero eligible try try' h i made = at_once allowance made (none made) refl (none-not-stopped made)
allowance-each allowance (suc n) eligible try try' h i made =
    allowance-one allowance made (eligible i) (λ t. try i t) (λ t. try' i t) (λ t. each_engine n eligible try unlimited (i + 1) t)
    (λ t. each_engine n eligible try' (up_to allowance) (i + 1) t) (h i (made + 1))
    (λ t. allowance-each allowance n eligible try try' h (i + 1) t)

allowance-perform : (allowance : ℕ) (step : Step) (go_to_b go_to_b' : State → ℕ → Result) (s : State) (made : ℕ)
    → ((after : State) (t : ℕ) → WithAllowance allowance t (go_to_b after t) (go_to_b' after t))
    → WithAllowance allowance made (perform step go_to_b unlimited s made) (perform step go_to_b' (up_to allowance) s made)
unfolding perform tries_of
allowance-perform allowance finished go_to_b go_to_b' s made h = at_once allowance made _ refl (found-not-stopped made _)
allowance-perform allowance fills go_to_b go_to_b' s made h = at_once allowance made _ refl (found-not-stopped made _)
allowance-perform allowance (lays p) go_to_b go_to_b' s made h =
    allowance-each allowance (length s.remaining) (λ i. can_lay s p i) _ _
    (λ i t. allowance-piece allowance t (cell (length s.remaining) p i) (at s.rest p) _ _ (h (after_laying s p i) t)) 0 made
allowance-perform allowance (cuts p) go_to_b go_to_b' s made h =
    allowance-each allowance (length s.remaining) (λ i. can_cut s p i) _ _
    (λ i t. allowance-piece allowance t (cell (length s.remaining) p i) (at s.remaining i) _ _ (h (after_cutting s p i) t)) 0 made

allowance-bound : (bound allowance : ℕ) (s : State) (made : ℕ)
    → WithAllowance allowance made (search_within bound unlimited s made) (search_within bound (up_to allowance) s made)
unfolding search_within tries_of
allowance-bound zero allowance s made = at_once allowance made (found made (no_pieces s)) refl (found-not-stopped made (no_pieces s))
allowance-bound (suc bound) allowance s made =
    allowance-perform allowance (step_of s) _ _ s made (λ after t. allowance-bound bound allowance after t)

-- the search from a state in which some tries are made
pub search_with_allowance : (allowance : ℕ) (s : State) (made : ℕ)
    → WithAllowance allowance made (search_from unlimited s made) (search_from (up_to allowance) s made)
unfolding search_from
search_with_allowance allowance s made = allowance-bound (size s) allowance s made

allowance_unless : (allowance : ℕ) (too_much : Bool) (whole limited : Result) → WithAllowance allowance 0 whole limited
    → WithAllowance allowance 0 (unless_too_much too_much whole) (unless_too_much too_much limited)
unfolding unless_too_much tries_of
allowance_unless allowance true whole limited h = at_once allowance 0 (none 0) refl (none-not-stopped 0)
allowance_unless allowance false whole limited h = h

-- the whole search
pub searched_with_allowance : (allowance : ℕ) (capacity energy limit : List ℕ)
    → WithAllowance allowance 0 (searched capacity energy limit unlimited) (searched capacity energy limit (up_to allowance))
unfolding searched
searched_with_allowance allowance capacity energy limit =
    allowance_unless allowance (ltb (total capacity) (total energy)) _ _
    (search_with_allowance allowance (record { remaining = capacity; rest = energy; limit = limit }) 0)

-- the search with no end of tries is not stopped
pub unlimited-ends : (s : State) (made t : ℕ) → search_from unlimited s made ≢ stopped t
unlimited-ends s made = (search_with_allowance 0 s made).ends

-- and ends with at least the tries made before it
pub unlimited-least : (s : State) (made : ℕ) → made ≤ tries_of (search_from unlimited s made)
unlimited-least s made = (search_with_allowance 0 s made).least

-- Stopped says that the search with no end of tries needs more of them than the allowance; its tries are the allowance.
pub stopped-exactly : (allowance : ℕ) (capacity energy limit : List ℕ) (t : ℕ)
    → (searched capacity energy limit (up_to allowance) ≡ stopped t)
    ↔ ((t ≡ allowance) × (allowance < tries_of (searched capacity energy limit unlimited)))
stopped-exactly allowance capacity energy limit t =
    (λ e. go e (le-or-lt (tries_of (searched capacity energy limit unlimited)) allowance), λ h. rw h.0 (c.beyond (omega arith) h.1))
  where
    c : WithAllowance allowance 0 (searched capacity energy limit unlimited) (searched capacity energy limit (up_to allowance))
    c = searched_with_allowance allowance capacity energy limit

    go : searched capacity energy limit (up_to allowance) ≡ stopped t
        → (tries_of (searched capacity energy limit unlimited) ≤ allowance) ⊎ (allowance < tries_of (searched capacity energy limit unlimited))
        → (t ≡ allowance) × (allowance < tries_of (searched capacity energy limit unlimited))
    go e (inl l) = absurd (c.ends t (sym (c.within l) ∙ e))
    go e (inr l) = let h : searched capacity energy limit (up_to allowance) ≡ stopped allowance = c.beyond (omega arith) l in (cc, l)

-- Found and none are the answers of the search with no end of tries, those with tries within the allowance.
pub answered-exactly : (allowance : ℕ) (capacity energy limit : List ℕ) (r : Result) → ((t : ℕ) → r ≢ stopped t)
    → (searched capacity energy limit (up_to allowance) ≡ r) ↔ ((searched capacity energy limit unlimited ≡ r) × (tries_of r ≤ allowance))
answered-exactly allowance capacity energy limit r n =
    (λ e. go e (le-or-lt (tries_of (searched capacity energy limit unlimited)) allowance), λ h. c.within (rw h.0 h.1) ∙ h.0)
  where
    c : WithAllowance allowance 0 (searched capacity energy limit unlimited) (searched capacity energy limit (up_to allowance))
    c = searched_with_allowance allowance capacity energy limit

    go : searched capacity energy limit (up_to allowance) ≡ r
        → (tries_of (searched capacity energy limit unlimited) ≤ allowance) ⊎ (allowance < tries_of (searched capacity energy limit unlimited))
        → (searched capacity energy limit unlimited ≡ r) × (tries_of r ≤ allowance)
    go e (inl l) = let h : searched capacity energy limit unlimited ≡ r = sym (c.within l) ∙ e in (h, rw h at l)
    go e (inr l) = absurd (n allowance (sym e ∙ c.beyond (omega arith) l))

-- a larger allowance keeps found and none, with their tries
pub larger-allowance : (fewer more : ℕ) (capacity energy limit : List ℕ) (r : Result) → ((t : ℕ) → r ≢ stopped t) → fewer ≤ more
    → searched capacity energy limit (up_to fewer) ≡ r → searched capacity energy limit (up_to more) ≡ r
larger-allowance fewer more capacity energy limit r n l e =
    let h = (answered-exactly fewer capacity energy limit r n).0 e in
    (answered-exactly more capacity energy limit r n).1 (h.0, omega (arith, h.1))
