-- Lists of numbers place by place. Assumes nothing.
use Rattle.std.specs.Prelude.{◌≡◌, refl, true, false, ℕ, ◌+◌, ◌≤◌, ◌<◌, Result, Ok, Err, ⊤}
use Rattle.std.specs.Prelude.{List, [], ◌∷◌, ◌++◌, length, drop, get_or}
use Rattle.std.proofs.Common.{◌∙◌, add-zero, arith, drop_of_length-le, drop-cons}
use Rattle.std.proofs.Math.Numerals.{add-one}
use borrow.Author.Tests.{le-leb, lt-leb}
use Rattle.rfc4180.specs.Text.{ascii}
use Rattle.lines.specs.declared.output.Output.{Output}
use Rattle.lines.specs.declared.WriteError.{WriteError}
use Rattle.lines.specs.Putting.{Text, plain, number, State, state, left, put, put_all, Puts}
use Rattle.lines.specs.Laws.Putting.{put-stopped, put-fits, put-none, put_written, all-kept, then}
use Rattle.report.specs.Numbers.{starts_with, run_texts, texts_behind}

-- ---- texts

-- no bytes behind a text change nothing
empty-put : (out : State) → (out.wrote ≡ Ok tt → out.at ≤ length out.bytes) → put (plain []) out ≡ out
empty-put out inside = go out.wrote out.at out.bytes inside
  where
    go : (wrote : Result ⊤ WriteError) (at : ℕ) (bytes : List ℕ) → (wrote ≡ Ok tt → at ≤ length bytes)
        → put (plain []) (state wrote at bytes) ≡ state wrote at bytes
    go (Ok _) at bytes inside = put-fits at [] bytes (omega (arith, inside refl)) ∙ rw (add-zero at, put-none at bytes)
    go (Err error) at bytes inside = put-stopped (plain []) error at bytes

pub nothing-behind : {text : Text} {before after : Output} {result : Result ⊤ WriteError} → Puts (text ∷ plain [] ∷ []) before result after
    → Puts (text ∷ []) before result after
unfolding put_all
nothing-behind {text} {before} p = record { all = p.all ∙ empty-put (put text lent) inside; same = p.same }
  where
    lent : State
    lent = left (Ok tt) before

    inside : (put text lent).wrote ≡ Ok tt → (put text lent).at ≤ length (put text lent).bytes
    inside e = let w = put_written text lent e in omega (arith, w.room, w.ends, all-kept (text ∷ []) lent)

module _ (n times : ℕ) {before between after : Output} {first next : Result ⊤ WriteError} where
  pub run_once : times ≤ 1 → first ≡ Ok tt → Puts (plain (ascii " ") ∷ []) before first between
      → Puts (number n ∷ plain [] ∷ []) between next after → Puts (run_texts n times) before next after
  unfolding run_texts
  run_once l e p q = rw (le-leb times 1 l) (then e p (nothing-behind q))

  pub run_more : {last : Output} {result : Result ⊤ WriteError} → 1 < times → first ≡ Ok tt → Puts (plain (ascii " ") ∷ []) before first between → next ≡ Ok tt
      → Puts (number n ∷ plain (ascii "*") ∷ []) between next after → Puts (number times ∷ plain [] ∷ []) after result last
      → Puts (run_texts n times) before result last
  unfolding run_texts
  run_more l e p f q r = rw (lt-leb times 1 l) (then e p (then f q (nothing-behind r)))

-- ---- runs

module _ (list : List ℕ) (passed i : ℕ) where
  pub texts-end : length list ≤ i → texts_behind passed (drop i list) ≡ []
  unfolding texts_behind
  texts-end past = rw (drop_of_length-le list {i = i} past)

  module _ (inside : i < length list) where
    pub run_goes_on : starts_with (get_or list i 0) (drop (i + 1) list) ≡ true
        → texts_behind passed (drop i list) ≡ texts_behind (passed + 1) (drop (i + 1) list)
    unfolding texts_behind
    run_goes_on e = let next = rw (add-one i) at e in rw (drop-cons list i 0 inside, next, add-one i, add-one passed)

    pub run_ends : starts_with (get_or list i 0) (drop (i + 1) list) ≡ false
        → texts_behind passed (drop i list) ≡ run_texts (get_or list i 0) (passed + 1) ++ texts_behind 0 (drop (i + 1) list)
    unfolding texts_behind
    run_ends e = let next = rw (add-one i) at e in rw (drop-cons list i 0 inside, next, add-one i, add-one passed)
