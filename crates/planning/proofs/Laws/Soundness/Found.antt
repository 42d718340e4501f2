-- Where a found result comes from: a loop over the engines finds by a try of an eligible engine, and a try by the search after it.
-- Assumes nothing.
use Rattle.std.specs.Prelude.{◌≡◌, refl, Bool, true, false, List, ℕ, zero, suc, ◌+◌, ◌≤◌, ◌<◌, set}
use Rattle.std.proofs.Common.{◌∙◌, arith}
use Rattle.planning.specs.Search.{Result, found, none, stopped, Allowance, Permission, granted, exceeds, permission, with_piece, or_else, one_engine}
use Rattle.planning.specs.Search.{each_engine}

-- a try of one of the n engines from i on, which is eligible, ends in a result
pub record TriedBy (n i : ℕ) (eligible : ℕ → Bool) (try : ℕ → ℕ → Result) (result : Result) : Type 0 where
  pub engine : ℕ
  pub from : i ≤ engine
  pub below : engine < i + n
  pub able : eligible engine ≡ true
  pub made : ℕ
  pub ends : try engine made ≡ result

later : {n i : ℕ} {eligible : ℕ → Bool} {try : ℕ → ℕ → Result} {result : Result}
    → TriedBy n (i + 1) eligible try result → TriedBy (suc n) i eligible try result
later t =
    record {
      engine = t.engine;
      from = omega (arith, t.from);
      below = omega (arith, t.below);
      able = t.able;
      made = t.made;
      ends = t.ends;
    }

pub each-found : (n : ℕ) (eligible : ℕ → Bool) (try : ℕ → ℕ → Result) (allowance : Allowance) (i made : ℕ) {tries : ℕ} {table : List ℕ}
    → each_engine n eligible try allowance i made ≡ found tries table → TriedBy n i eligible try (found tries table)
unfolding each_engine one_engine or_else
each-found zero eligible try allowance i made h = let z : ◌≡◌ {A = ℕ} 0 1 = cc in absurd (omega arith)
each-found (suc n) eligible try allowance i made {tries} {table} h =
    go (eligible i) refl (permission allowance made) h (λ t. each-found n eligible try allowance (i + 1) t)
  where
    next : ℕ → Result
    next t = each_engine n eligible try allowance (i + 1) t

    by_try : eligible i ≡ true → (r : Result) → try i (made + 1) ≡ r → or_else r next ≡ found tries table
        → ((t : ℕ) → next t ≡ found tries table → TriedBy n (i + 1) eligible try (found tries table))
        → TriedBy (suc n) i eligible try (found tries table)
    by_try a (found t rows) e g r =
        record { engine = i; from = omega arith; below = omega arith; able = a; made = made + 1; ends = e ∙ g }
    by_try a (none t) e g r = later (r t g)
    by_try a (stopped t) e g r = let z : ◌≡◌ {A = ℕ} 0 1 = cc in absurd (omega arith)

    go : (b : Bool) → eligible i ≡ b → (more : Permission) → one_engine b more made (λ t. try i t) next ≡ found tries table
        → ((t : ℕ) → next t ≡ found tries table → TriedBy n (i + 1) eligible try (found tries table))
        → TriedBy (suc n) i eligible try (found tries table)
    go false a more g r = later (r made g)
    go true a (exceeds most) g r = let z : ◌≡◌ {A = ℕ} 0 1 = cc in absurd (omega arith)
    go true a granted g r = by_try a (try i (made + 1)) refl g r

-- a result to which a piece was added
pub record Placed (place amount : ℕ) (result : Result) (tries : ℕ) (table : List ℕ) : Type 0 where
  pub before : List ℕ
  pub finds : result ≡ found tries before
  pub after : set before place amount ≡ table

pub placed : (place amount : ℕ) (result : Result) {tries : ℕ} {table : List ℕ} → with_piece place amount result ≡ found tries table
    → Placed place amount result tries table
unfolding with_piece
placed place amount (found t rows) h = record { before = rows; finds = cc; after = cc }
placed place amount (none t) h = let z : ◌≡◌ {A = ℕ} 0 1 = cc in absurd (omega arith)
placed place amount (stopped t) h = let z : ◌≡◌ {A = ℕ} 0 1 = cc in absurd (omega arith)
