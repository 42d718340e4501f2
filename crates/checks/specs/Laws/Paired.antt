-- Two lists side by side, counted: a loop over `ks.iter().zip(vs).enumerate()`, which has yielded xs.
-- Assumes nothing.
use Rattle.std.specs.Prelude.{◌≡◌, refl, ℕ, ◌+◌, ◌<◌, length, map, min, set}
use Rattle.std.proofs.Common.{List, [], ◌∷◌, ◌++◌, Bor, Iter, Option, Some, None, get_or, ap, subst, ◌∙◌, arith}
use Rattle.std.specs.declared.iter.Enumerate.{Enumerate}
use Rattle.std.specs.declared.iter.Zip.{Zip}
use Rattle.std.specs.Iterator.{Yields}
use Rattle.std.specs.Iterator.Adapters.{zip_first, zip_second, enumerate_source, enumerate_count, enumerate_steps}
use Rattle.std.specs.Slice.Iter.{iter_rest}
use Rattle.std.proofs.lemmas.Fn.{fronts}
use Rattle.std.proofs.lemmas.Iterator.{zips}
use Rattle.std.proofs.lemmas.List.{length-map, length_push}
use Rattle.std.proofs.lemmas.Slice.Zip.{zip_turn, zip_end}
use Rattle.planning.proofs.Laws.Front.{Stored, stored-one-more, stored_new}
use Rattle.planning.specs.Tables.{over_front}

module _ {S A : Type 0} (steps : S → Option A → S → Type 0) where
  -- the items without their count, and the count
  uncounted : (xs : List (ℕ × A)) (s t : Enumerate S) → Yields (enumerate_steps steps) s xs t
      → Yields steps (enumerate_source s) (map (λ p. p.1) xs) (enumerate_source t) × (enumerate_count t ≡ enumerate_count s + length xs)
  uncounted [] s t y = (ap enumerate_source y, omega (arith, ap enumerate_count y))
  uncounted (x ∷ xs) s t y =
      let k = uncounted xs y.0 t y.2 in ((enumerate_source y.0, y.1.0, k.0), omega (arith, k.1, y.1.2))

module _ {A B : Type 0} (ks : List A) (vs : List B) (xs : List (ℕ × (Bor A × Bor B)))
    (s t u : Enumerate (Zip (Iter A) (Iter B))) (r : Option (ℕ × (Bor A × Bor B)))
    (first : iter_rest (zip_first (enumerate_source s)) ≡ ks)
    (second : iter_rest (zip_second (enumerate_source s)) ≡ vs) (start : enumerate_count s ≡ 0)
    (y : Yields (enumerate_steps (zips fronts fronts)) s xs t) where
  pub counted_turn : (p : ℕ × (Bor A × Bor B)) → r ≡ Some p → enumerate_steps (zips fronts fronts) t r u
      → (p.0 ≡ length xs) × (length xs < length ks) × (length xs < length vs)
      × ((d : A) → p.1.0.now ≡ get_or ks (length xs) d) × ((d : B) → p.1.1.now ≡ get_or vs (length xs) d)
  counted_turn p e h =
      let k = uncounted (zips fronts fronts) xs s t y in
      let m = subst (λ o. enumerate_steps (zips fronts fronts) t o u) e h in
      let n = length-map xs (λ (q : ℕ × (Bor A × Bor B)). q.1) in
      let z =
      zip_turn ks vs (map (λ q. q.1) xs) (enumerate_source s) (enumerate_source t) (enumerate_source u) (Some p.1) first second k.0 p.1 refl m.0
      in (
        omega (arith, m.1, k.1, start),
        omega (arith, z.0, n),
        omega (arith, z.1, n),
        λ d. z.2 d ∙ ap (λ i. get_or ks i d) n,
        λ d. z.3 d ∙ ap (λ i. get_or vs i d) n,
      )

  pub counted_end : r ≡ None → enumerate_steps (zips fronts fronts) t r u → length xs ≡ min (length ks) (length vs)
  counted_end e h =
      let k = uncounted (zips fronts fronts) xs s t y in
      let m = subst (λ o. enumerate_steps (zips fronts fronts) t o u) e h in
      let n = length-map xs (λ (q : ℕ × (Bor A × Bor B)). q.1) in
      let z = zip_end ks vs (map (λ q. q.1) xs) (enumerate_source s) (enumerate_source t) (enumerate_source u) None first second k.0 refl m.0 in
      omega (arith, n, z)

  -- ---- a turn that stores an item made of the pair, and the end: one list's items in front of another
  module _ {C : Type 0} {new old now : List C} (stored : Stored new old (length xs) now) where
    pub stored-turn : (dk : A) (dv : B) (d : C) (item : A → B → C)
        → ((i : ℕ) → i < length ks → i < length vs → (i < length new) × (i < length old) × (item (get_or ks i dk) (get_or vs i dv) ≡ get_or new i d))
        → (p : ℕ × (Bor A × Bor B)) → r ≡ Some p → enumerate_steps (zips fronts fronts) t r u
        → Stored new old (length (xs ++ p ∷ [])) (set now p.0 (item p.1.0.now p.1.1.now))
    stored-turn dk dv d item makes p e h =
        let turn = counted_turn p e h in
        let (inside, room, is) = makes (length xs) turn.1 turn.2 in
        rw (length_push xs p, turn.0, turn.3 dk, turn.4 dv) (stored-one-more stored d _ is inside room)

    pub stored-end : length new ≡ min (length ks) (length vs) → r ≡ None → enumerate_steps (zips fronts fronts) t r u → now ≡ over_front new old
    stored-end all e h = stored_new stored (omega (arith, all, counted_end e h))
