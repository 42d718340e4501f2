-- Quiet spans on numbers, three by three: what the loop that checks them has at each turn.
-- Assumes nothing.
use Rattle.std.specs.Prelude.{◌≡◌, List, [], ◌∷◌, map, ℕ, ◌+◌, ◌≤◌, ◌<◌, length, take, drop, Result, Ok, Err, ⊤}
use Rattle.std.proofs.Math.Path.{refl}
use Rattle.std.proofs.Common.{sym, ◌∙◌, get_or}
use Rattle.std.proofs.lemmas.List.{take_more, drop_more, drop_all, map-append}
use Rattle.std.proofs.Math.Option.{Option}
use Rattle.planning.specs.declared.Refusal.{Refusal}
use Rattle.planning.specs.Numbers.{quiet_three, quiet_fault, check_quiet}
use Rattle.planning.specs.Quiet.{Quiet}
use Rattle.planning.specs.Refusals.{◌then◌, verdict_of}
use Rattle.checks.specs.Laws.Verdicts.{accepted-by, refused-first}

abbrev spans : List (List ℕ) → List Quiet
spans threes = map quiet_three threes

-- the first k spans pass, so those behind them decide
pub record SpansPass (engines : ℕ) (threes : List (List ℕ)) (k : ℕ) : Type 0 where
  pub same : check_quiet engines [] (spans threes) ≡ check_quiet engines (spans (take k threes)) (spans (drop k threes))

module _ (engines : ℕ) (threes : List (List ℕ)) where
  pub spans_begin : SpansPass engines threes 0
  spans_begin = record { same = refl }

  module _ {k : ℕ} (s : SpansPass engines threes k) where
    pub spans-end : length threes ≤ k → Ok tt ≡ verdict_of (check_quiet engines [] (spans threes))
    unfolding check_quiet verdict_of
    spans-end l = rw (s.same, drop_all k threes l)

    -- one span more
    module _ (l : k < length threes) where
      abbrev fault : Option Refusal
      fault = quiet_fault engines (spans (take k threes)) (quiet_three (get_or threes k []))

      at_place : check_quiet engines [] (spans threes) ≡ fault then check_quiet engines (spans (take (k + 1) threes)) (spans (drop (k + 1) threes))
      unfolding check_quiet
      at_place =
          s.same
          ∙ rw (drop_more threes k [] l, take_more threes k [] l, map-append quiet_three (take k threes) (get_or threes k [] ∷ []))

      module _ {verdict : Result ⊤ Refusal} (came : verdict ≡ verdict_of fault) where
        pub spans_pass : verdict ≡ Ok tt → SpansPass engines threes (k + 1)
        unfolding ◌then◌
        spans_pass e = record { same = at_place ∙ rw (accepted-by fault (sym e ∙ came)) }

        pub spans_fail : {refusal : Refusal} → verdict ≡ Err refusal → Err refusal ≡ verdict_of (check_quiet engines [] (spans threes))
        spans_fail e = rw at_place (refused-first fault _ _ (sym e ∙ came))
