-- A predicate of every member of a list: of two lists, of one member more, and one that follows from another.
-- Assumes nothing.
use Rattle.std.specs.Prelude.{◌↔◌, List, [], ◌∷◌, ◌++◌}
use Rattle.planning.specs.Plan.{All}

-- a predicate of all members of two lists
pub all_append : {A : Type 0} (P : A → Type 0) (xs ys : List A) → All P (xs ++ ys) ↔ (All P xs × All P ys)
all_append P [] ys = (λ all. (tt, all), λ both. both.1)
all_append P (x ∷ xs) ys =
    let others = all_append P xs ys in (
      λ all. ((all.0, (others.0 all.1).0), (others.0 all.1).1),
      λ both. (both.0.0, others.1 (both.0.1, both.1)),
    )

-- .. and of one member more
pub all_more : {A : Type 0} (P : A → Type 0) (xs : List A) (x : A) → All P (xs ++ x ∷ []) ↔ (All P xs × P x)
all_more P xs x =
    let both = all_append P xs (x ∷ []) in (λ all. ((both.0 all).0, (both.0 all).1.0), λ (all, last). both.1 (all, (last, tt)))

-- .. and one that follows from another for each member
pub all-each : {A : Type 0} {P Q : A → Type 0} → ((x : A) → P x → Q x) → (xs : List A) → All P xs → All Q xs
all-each follows [] all = tt
all-each follows (x ∷ xs) all = (follows x all.0, all-each follows xs all.1)
