-- Bytes and lines at the front of an output. Assumes nothing.
use Rattle.std.specs.Prelude.{◌≡◌, refl, ◌⊎◌, Bool, true, false, List, [], ◌∷◌, ◌++◌, ℕ, ◌+◌, ◌≤◌, ◌<◌, leb, length, drop, Result, Ok, Err, ⊤}
use Rattle.std.proofs.Common.{ap, ◌∙◌, inl, inr, ⊎_elim, zero-add, arith, leb-true, leb-false}
use Rattle.rfc4180.specs.Writer.{written_file, writable_file}
use Rattle.lines.specs.declared.output.Output.{Output}
use Rattle.lines.specs.declared.WriteError.{WriteError}
use Rattle.lines.specs.declared.WriteError.TheVariants.{TooLong}
use Rattle.lines.specs.Lines.{PutLines}
use Rattle.lines.specs.Putting.{plain, State, state, left, put_at, put_all, Puts}
use Rattle.lines.specs.Laws.Lines.{lines-stand}
use Rattle.lines.specs.Laws.Putting.{put-fits, put-long}

-- bytes in the place of the first ones
abbrev pub at_front : (bytes lent : List ℕ) → List ℕ
at_front bytes lent = bytes ++ drop (length bytes) lent

-- an output with those bytes at its front, and the next place behind them
abbrev pub behind : (bytes lent : List ℕ) → State
behind bytes lent = state (Ok tt) (length bytes) (at_front bytes lent)

put_front : (bytes lent : List ℕ) → state (Ok tt) (0 + length bytes) (put_at 0 bytes lent) ≡ behind bytes lent
unfolding put_at
put_front bytes lent = rw zero-add

-- an output that nothing was put into yet
pub begins : (before : Output) {lent : List ℕ} → before.at ≡ 0 → before.bytes.now ≡ lent → left (Ok tt) before ≡ state (Ok tt) 0 lent
begins before front is = rw (front, is)

-- and what a call leaves of it
module _ {before after : Output} {result : Result ⊤ WriteError} {lent : List ℕ} (front : before.at ≡ 0) (is : before.bytes.now ≡ lent) where
  -- lines that can be written and fit
  pub lines-at-front : {lines : List (List (List ℕ))} → writable_file lines ≡ true → length (written_file lines) ≤ length lent
      → PutLines lines before result after → left result after ≡ behind (written_file lines) lent
  lines-at-front {lines} writes room put =
      let fits : before.at + length (written_file lines) ≤ length before.bytes.now = rw (front, is) (omega arith) in
      rw (front, is) at (lines-stand lines writes fits put) ∙ put_front (written_file lines) lent

  -- bytes that are written fit, and others do not and change nothing
  module _ {bytes : List ℕ} (put : Puts (plain bytes ∷ []) before result after) where
    bytes_fit : length bytes ≤ length lent → left result after ≡ behind bytes lent
    unfolding put_all
    bytes_fit room = put.all ∙ ap (put_all (plain bytes ∷ [])) (begins before front is) ∙ put-fits 0 bytes lent (omega arith) ∙ put_front bytes lent

    bytes-long : length lent < length bytes → left result after ≡ state (Err TooLong) 0 lent
    unfolding put_all
    bytes-long over = put.all ∙ ap (put_all (plain bytes ∷ [])) (begins before front is) ∙ put-long 0 bytes lent (omega arith)

    by-room : (length bytes ≤ length lent) ⊎ (length lent < length bytes)
    by-room = go (leb (length bytes) (length lent)) refl
      where
        go : (t : Bool) → leb (length bytes) (length lent) ≡ t → (length bytes ≤ length lent) ⊎ (length lent < length bytes)
        go true e = inl (leb-true (length bytes) (length lent) e)
        go false e = inr (leb-false (length bytes) (length lent) e)

    pub bytes-at-front : result ≡ Ok tt → (length bytes ≤ length lent) × (after.at ≡ length bytes) × (after.bytes.now ≡ at_front bytes lent)
    bytes-at-front e =
        ⊎_elim
        (λ room. (room, ap (λ (o : State). o.at) (bytes_fit room), ap (λ (o : State). o.bytes) (bytes_fit room)))
        (λ over. let wrote = ap (λ (o : State). o.wrote) (bytes-long over) in let z : ◌≡◌ {A = ℕ} 0 1 = cc in absurd (omega arith))
        by-room

    pub bytes-kept : {error : WriteError} → result ≡ Err error → (length lent < length bytes) × (after.bytes.now ≡ lent)
    bytes-kept e =
        ⊎_elim
        (λ room. let wrote = ap (λ (o : State). o.wrote) (bytes_fit room) in let z : ◌≡◌ {A = ℕ} 0 1 = cc in absurd (omega arith))
        (λ over. (over, ap (λ (o : State). o.bytes) (bytes-long over)))
        by-room
