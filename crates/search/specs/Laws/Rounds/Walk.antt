-- The tries of one step D or F, made by walking the set of open engines: the walk goes from member to member and so passes over just
-- the engines that the step does not try. For every step, allowance and number of engines.
-- Assumes nothing.
use Rattle.std.specs.Prelude.{◌≡◌, ◌≢◌, ◌⊎◌, Bool, List, ℕ, zero, suc, ◌+◌, ◌*◌, ◌-◌, ◌≤◌, ◌<◌, ltb, length, set as put}
use Rattle.std.proofs.Math.Path.{refl, sym, ap}
use Rattle.std.proofs.Common.{ap₂, ◌∙◌, inl, inr, arith, lt-ltb, le-ltb}
use Rattle.std.proofs.Math.Bool.{true, false}
use Rattle.std.proofs.Math.Nat.{sub-zero}
use Rattle.planning.proofs.Laws.Search.Tries.{search_with_allowance, allowance_cases, none-not-stopped}
use Rattle.planning.proofs.Laws.Soundness.Table.{cell-inside}
use Rattle.planning.specs.Modes.{tries_of}
use Rattle.planning.specs.Search.{State as Document, Result, found, none, stopped, with_piece, or_else}
use Rattle.planning.specs.Search.{up_to, unlimited, permitted, permission, one_engine, each_engine, search_from}
use Rattle.planning.specs.Tables.{cell}
use Rattle.planning.specs.declared.Outcome.TheVariants.{Found, None, Stopped}
use Rattle.search.specs.declared.Ended.{Ended}
use Rattle.search.specs.Promises.{ended_of, written}
use Rattle.search.specs.Members.{IsLeast}
use Rattle.search.specs.Sets.{has}
use Rattle.search.specs.Steps.{EndsIn}
use Rattle.search.specs.Laws.Passes.{Ahead, ahead-all, ahead_none, Next, next-taken}

-- one step D or F: the engines that it tries for delivery `row`, the piece there, and the state after that try
pub record Round : Type 0 where
  pub engines : ℕ
  pub deliveries : ℕ
  pub opened : ℕ
  pub row : ℕ
  pub tried : ℕ → Bool
  pub piece : ℕ → ℕ
  pub after : ℕ → Document

-- a try on engine i, and the tries on n engines from i on
abbrev pub try_on : Round → (allowance i tries : ℕ) → Result
try_on r allowance i tries = with_piece (cell r.engines r.row i) (r.piece i) (search_from (up_to allowance) (r.after i) tries)

abbrev pub tries_from : Round → (allowance n i tries : ℕ) → Result
tries_from r allowance n i tries = each_engine n r.tried (try_on r allowance) (up_to allowance) i tries

-- no closed engine is tried, and the lent table has a cell for each try
pub record Ready (r : Round) (lent : List ℕ) : Type 0 where
  pub closed : (i : ℕ) → has r.opened i ≡ false → r.tried i ≡ false
  pub inside : (i : ℕ) → has r.opened i ≡ true → i < r.engines
  pub in_row : r.row < r.deliveries
  pub room : length lent ≡ r.deliveries * r.engines

-- Where the walk stands: the tries on the engines from `from` on end in the whole step's result, and `set` has the open ones of them.
-- The lent table is as it came.
pub record Walk (r : Round) (allowance : ℕ) (whole : Result) (lent table : List ℕ) (set tries : ℕ) : Type 0 where
  pub ready : Ready r lent
  pub same : table ≡ lent
  pub from : ℕ
  pub reached : from ≤ r.engines
  pub ahead : Ahead r.opened set from
  pub rest : tries_from r allowance (r.engines - from) from tries ≡ whole
  pub allowed : tries ≤ allowance

-- the whole step, from its first engine
pub walk-starts : {r : Round} {lent : List ℕ} → Ready r lent → {allowance made : ℕ} {whole : Result}
    → tries_from r allowance r.engines 0 made ≡ whole → made ≤ allowance → Walk r allowance whole lent lent r.opened made
walk-starts {r = r} ready e l =
    record {
      ready = ready;
      same = refl;
      from = 0;
      reached = omega arith;
      ahead = ahead-all r.opened;
      rest = rw (sub-zero r.engines) e;
      allowed = l;
    }

same-tries : (r : Round) (allowance tries : ℕ) {n m i j : ℕ} → n ≡ m → i ≡ j → tries_from r allowance n i tries ≡ tries_from r allowance m j tries
same-tries r allowance tries e d = ap₂ (λ a b. tries_from r allowance a b tries) e d

-- an engine that is not tried is passed over, and so are several
not-tried : (r : Round) (allowance n i tries : ℕ) → r.tried i ≡ false
    → tries_from r allowance (suc n) i tries ≡ tries_from r allowance n (i + 1) tries
unfolding each_engine one_engine
not-tried r allowance n i tries e = rw (e, one_engine)

none_tried : (r : Round) (allowance k n i tries : ℕ) → ((j : ℕ) → i ≤ j → j < i + k → r.tried j ≡ false)
    → tries_from r allowance (k + n) i tries ≡ tries_from r allowance n (i + k) tries
none_tried r allowance zero n i tries h = same-tries r allowance tries (omega arith) (omega arith)
none_tried r allowance (suc k) n i tries h =
    same-tries r allowance tries {i = i} (omega arith) refl
    ∙ not-tried r allowance (k + n) i tries (h i (omega arith) (omega arith))
    ∙ none_tried r allowance k n (i + 1) tries (λ j l m. h j (omega arith) (omega arith))
    ∙ same-tries r allowance tries {n = n} refl (omega arith)

-- where no engine in between is tried, the tries from i on end as those from an earlier engine on
tries-later : (r : Round) (allowance from i tries : ℕ) → from ≤ i → i ≤ r.engines → ((j : ℕ) → from ≤ j → j < i → r.tried j ≡ false)
    → tries_from r allowance (r.engines - from) from tries ≡ tries_from r allowance (r.engines - i) i tries
tries-later r allowance from i tries l m h =
    same-tries r allowance tries {m = (i - from) + (r.engines - i)} {i = from} (omega arith) refl
    ∙ none_tried r allowance (i - from) (r.engines - i) from tries (λ j a b. h j a (omega arith))
    ∙ same-tries r allowance tries {n = r.engines - i} refl (omega arith)

-- a try that ends in found is found with its piece; one that is stopped is stopped; after none the next engine is tried
outcome-of : {e d : Ended} → e ≡ d → e.outcome ≡ d.outcome
outcome-of = ap (λ (e : Ended). e.outcome)

found-piece : (place amount : ℕ) (result : Result) (next : ℕ → Result) (lent : List ℕ) {e : Ended} {table : List ℕ} → e.outcome ≡ Found
    → EndsIn result lent e table → EndsIn (or_else (with_piece place amount result) next) lent e (put table place amount)
unfolding with_piece or_else ended_of written
found-piece place amount (found tries table) next lent f h = record { is_ended = h.is_ended; is_table = rw h.is_table }
found-piece place amount (none tries) next lent f h = let other : None ≡ Found = sym (outcome-of h.is_ended) ∙ f in absurd (cc other)
found-piece place amount (stopped tries) next lent f h = let other : Stopped ≡ Found = sym (outcome-of h.is_ended) ∙ f in absurd (cc other)

stopped-piece : (place amount : ℕ) (result : Result) (next : ℕ → Result) (lent : List ℕ) {e : Ended} {table : List ℕ} → e.outcome ≡ Stopped
    → EndsIn result lent e table → EndsIn (or_else (with_piece place amount result) next) lent e table
unfolding with_piece or_else ended_of written
stopped-piece place amount (found tries table) next lent f h = let other : Found ≡ Stopped = sym (outcome-of h.is_ended) ∙ f in absurd (cc other)
stopped-piece place amount (none tries) next lent f h = let other : None ≡ Stopped = sym (outcome-of h.is_ended) ∙ f in absurd (cc other)
stopped-piece place amount (stopped tries) next lent f h = record { is_ended = h.is_ended; is_table = h.is_table }

none_of : (result : Result) (e : Ended) → e.outcome ≡ None → e ≡ ended_of result → result ≡ none e.tries
unfolding ended_of
none_of (found tries table) e f h = let other : Found ≡ None = sym (outcome-of h) ∙ f in absurd (cc other)
none_of (none tries) e f h = ap none (sym (ap (λ (e : Ended). e.tries) h))
none_of (stopped tries) e f h = let other : Stopped ≡ None = sym (outcome-of h) ∙ f in absurd (cc other)

-- a search that ends in none has made no more tries than its allowance
within-allowance : (allowance : ℕ) (s : Document) (made t : ℕ) → made ≤ allowance → search_from (up_to allowance) s made ≡ none t → t ≤ allowance
unfolding tries_of
within-allowance allowance s made t l e = go (allowance_cases (search_with_allowance allowance s made) l)
  where
    go : ((tries_of (search_from unlimited s made) ≤ allowance) × (search_from (up_to allowance) s made ≡ search_from unlimited s made))
        ⊎ ((allowance < tries_of (search_from unlimited s made)) × (search_from (up_to allowance) s made ≡ stopped allowance)) → t ≤ allowance
    go (inl h) = omega (arith, h.0, ap tries_of (sym h.1 ∙ e))
    go (inr h) = absurd (none-not-stopped t allowance (sym e ∙ h.1))

module _ {r : Round} {allowance : ℕ} {whole : Result} {lent table : List ℕ} {set tries : ℕ}
    (w : Walk r allowance whole lent table set tries) where
  -- the walk ends with none where no member is left
  pub walk_ends : set ≡ 0 → EndsIn whole lent (record { outcome = None; tries = tries }) table
  unfolding each_engine ended_of written
  walk_ends z = rw (sym ended) (record { is_ended = refl; is_table = w.same })
    where
      ended : none tries ≡ whole
      ended =
          same-tries r allowance tries {n = 0} {m = r.engines - r.engines} {i = r.engines} (omega arith) refl
          ∙ sym (tries-later r allowance w.from r.engines tries w.reached (omega arith)
          (λ i l m. w.ready.closed i (ahead_none r.opened w.from (rw z at w.ahead) i l)))
          ∙ w.rest

  -- and else it is at the least member of the set
  module _ {next others : ℕ} (taken : IsLeast set next others) where
    member : Next r.opened set w.from next
    member = next-taken w.ahead taken

    pub walk_open : has r.opened next ≡ true
    walk_open = member.member

    inside : next < r.engines
    inside = w.ready.inside next walk_open

    pub walk-cell : r.row * r.engines + next < length lent
    unfolding cell
    walk-cell = rw w.ready.room (cell-inside r.engines r.deliveries r.row next w.ready.in_row inside)

    -- the tries from it on
    onwards : tries_from r allowance (suc (r.engines - (next + 1))) next tries ≡ whole
    onwards =
        same-tries r allowance tries {i = next} (omega (arith, inside)) refl
        ∙ sym (tries-later r allowance w.from next tries member.later (omega (arith, inside))
        (λ i l m. w.ready.closed i (member.between i l m)))
        ∙ w.rest

    -- and the walk after it
    past : {table' : List ℕ} (made : ℕ) → table' ≡ lent → made ≤ allowance
        → tries_from r allowance (r.engines - (next + 1)) (next + 1) made ≡ whole
        → Walk r allowance whole lent table' others made
    past made d l e =
        record {
          ready = w.ready;
          same = d;
          from = suc next;
          reached = inside;
          ahead = rw taken.without member.ahead;
          rest = same-tries r allowance made (omega arith) (omega arith) ∙ e;
          allowed = l;
        }

    -- an engine that the step does not try
    pub walk-passes : r.tried next ≡ false → Walk r allowance whole lent table others tries
    walk-passes e = past tries w.same w.allowed (sym (not-tried r allowance (r.engines - (next + 1)) next tries e) ∙ onwards)

    -- an engine that it tries
    module _ (e : r.tried next ≡ true) where
      granting : (tried fewer : Bool) → Result
      granting tried fewer =
          one_engine tried (permitted fewer allowance) tries (try_on r allowance next)
          (tries_from r allowance (r.engines - (next + 1)) (next + 1))

      granted-by : (fewer : Bool) → ltb tries allowance ≡ fewer → granting true fewer ≡ whole
      unfolding granting each_engine permission
      granted-by fewer d = sym (ap₂ granting e d) ∙ onwards

      -- with the allowance used up
      pub walk-stops : tries ≡ allowance → EndsIn whole lent (record { outcome = Stopped; tries = tries }) table
      unfolding granting one_engine permitted ended_of written
      walk-stops d = rw (d, sym (granted-by false (le-ltb tries allowance (omega arith)))) (record { is_ended = refl; is_table = w.same })

      -- with one more try allowed, which is a search from the state after it
      module _ (d : tries ≢ allowance) {ended : Ended} {table' : List ℕ}
          (h : EndsIn (search_from (up_to allowance) (r.after next) (tries + 1)) table ended table') where
        after_try : or_else (try_on r allowance next (tries + 1)) (tries_from r allowance (r.engines - (next + 1)) (next + 1)) ≡ whole
        unfolding granting one_engine permitted
        after_try = granted-by true (lt-ltb tries allowance (omega (arith, w.allowed)))

        pub walk-finds : {v : ℕ} → ended.outcome ≡ Found → v ≡ r.piece next → EndsIn whole lent ended (put table' (r.row * r.engines + next) v)
        unfolding cell
        walk-finds f p =
            rw (p, sym after_try)
            (found-piece (cell r.engines r.row next) (r.piece next) (search_from (up_to allowance) (r.after next) (tries + 1)) _ lent f
            (rw w.same at h))

        pub walk_halts : ended.outcome ≡ Stopped → EndsIn whole lent ended table'
        walk_halts f = rw (sym after_try) (stopped-piece _ _ _ _ lent f (rw w.same at h))

        pub walk_goes_on : ended.outcome ≡ None → Walk r allowance whole lent table' others ended.tries
        unfolding with_piece or_else written
        walk_goes_on f =
            let n = none_of (search_from (up_to allowance) (r.after next) (tries + 1)) ended f h.is_ended in
            past ended.tries
            (h.is_table ∙ ap (λ b. written b table) n ∙ w.same)
            (within-allowance allowance (r.after next) (tries + 1) ended.tries (omega (arith, w.allowed)) n)
            (sym
            (ap (λ b. or_else (with_piece (cell r.engines r.row next) (r.piece next) b) (tries_from r allowance (r.engines - (next + 1)) (next + 1))) n)
            ∙ after_try)
