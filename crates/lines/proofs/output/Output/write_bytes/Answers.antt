-- By whether the bytes fit at their place.
use Rattle.std.proofs.Common.{◌≡◌, refl, sym, ◌∙◌, [], ◌∷◌, List, ℕ, ◌+◌, ◌≤◌, ◌<◌, length, arith, Ok, Err}
use Rattle.lines.specs.declared.output.Output.{Output}
use Rattle.lines.specs.declared.WriteError.TheVariants.{TooLong}
use Rattle.lines.specs.Putting.{plain, put_at, left, state, put_all, Writes}
use Rattle.lines.specs.Laws.Putting.{put-long, put-fits}
use Rattle.lines.specs.Laws.Reads.{bytes-written}
use Rattle.lines.proofs.output.Output.write_bytes.Goals as goal

module _ (bytes : List ℕ) (before : Output) where
  too_long : length before.bytes.now < before.at + length bytes → Writes (plain bytes ∷ []) (λ stands. stands ≡ bytes) before (Err TooLong) before
  unfolding put_all
  too_long over = bytes-written (record { all = sym (put-long before.at bytes before.bytes.now over); same = refl })

  stored : (after : Output) → before.at + length bytes ≤ length before.bytes.now
      → left (Ok tt) after ≡ state (Ok tt) (before.at + length bytes) (put_at before.at bytes before.bytes.now)
      → after.bytes.ghost_name ≡ before.bytes.ghost_name → Writes (plain bytes ∷ []) (λ stands. stands ≡ bytes) before (Ok tt) after
  unfolding put_all
  stored after room makes same =
      bytes-written (record { all = makes ∙ sym (put-fits before.at bytes before.bytes.now room); same = same })

pub returns-then-self-bytes : goal.returns-then-self-bytes
returns-then-self-bytes c = too_long _ _ (omega (arith, c.args.self.now.within))

pub returns : goal.returns
returns c = stored _ _ _ (omega (arith, c.args.self.now.within)) (rw c.store.ensures refl) refl
