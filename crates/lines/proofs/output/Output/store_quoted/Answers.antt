-- The opening quote, the bytes between the quotes and the closing quote are left at the start; each push takes the first of them.
use Rattle.std.proofs.Common.{◌≡◌, refl, true, List, [], ◌∷◌, ◌++◌, ℕ, ◌+◌, ◌≤◌, ◌<◌, ◌∙◌, arith, length, drop, get_or, set}
use Rattle.std.proofs.Math.ListN.{drop_of_length-le}
use Rattle.rfc4180.specs.Bytes.{quote}
use Rattle.rfc4180.specs.Writer.{doubled, written, needs_quotes}
use Rattle.rfc4180.proofs.Laws.Stores.{all-ahead, one_stored, place, laid}
use Rattle.lines.specs.declared.output.Output.{Output}
use Rattle.lines.specs.Putting.{put_at}
use Rattle.lines.specs.Laws.Values.{doubled-quote, doubled-other, written-quoted}
use Rattle.lines.proofs.output.Output.store_quoted.Invariants.{Left}
use Rattle.lines.proofs.output.Output.store_quoted.Goals as goal
use Rattle.lines.proofs.output.Output.store_quoted.Goals.{then-b-eq-QUOTE, else-b-eq-QUOTE}

module _ (value : List ℕ) (first : Output) where
  all-left : needs_quotes value ≡ true → first.at + length (written value) ≤ length first.bytes.now
      → Left value first (quote ∷ (doubled value ++ quote ∷ [])) first
  all-left e room = record { ahead = all-ahead _ _ _ (rw (written-quoted value e) at room); ends = refl; same = refl }

  -- the first of them is pushed
  pushed : {b : ℕ} {bytes : List ℕ} {out : Output} (after : Output) → Left value first (b ∷ bytes) out → after.at ≡ out.at + 1
      → after.bytes.now ≡ set out.bytes.now out.at b → after.bytes.ghost_name ≡ out.bytes.ghost_name → Left value first bytes after
  pushed after left onward stored same =
      record { ahead = rw (onward, stored) (one_stored left.ahead); ends = omega (arith, left.ends, onward); same = same ∙ left.same }

  module _ (i : ℕ) (out : Output) (within : i < length value) (left : Left value first (doubled (drop i value) ++ quote ∷ []) out) where
    -- a quote in the value is left twice
    quote-twice : get_or value i 0 ≡ quote → Left value first (quote ∷ ((get_or value i 0 ∷ doubled (drop (i + 1) value)) ++ quote ∷ [])) out
    quote-twice e = rw (doubled-quote value i within e) at left

    -- and any other byte once
    other_once : (get_or value i 0 ≡ quote → ⊥) → Left value first ((get_or value i 0 ∷ doubled (drop (i + 1) value)) ++ quote ∷ []) out
    other_once n = rw (doubled-other value i within n) at left

  -- behind the loop only the closing quote is left
  last_left : (i : ℕ) (out : Output) → length value ≤ i → Left value first (doubled (drop i value) ++ quote ∷ []) out → Left value first (quote ∷ []) out
  unfolding doubled
  last_left i out past left = rw (drop_of_length-le value {i = i} past) at left

  -- what the pushes have made of the output
  module _ (e : needs_quotes value ≡ true) {out : Output} (done : Left value first [] out) where
    all-passed : out.at ≡ first.at + length (written value)
    all-passed = rw (written-quoted value e) (omega (arith, done.ends))

    all-stored : first.at + length (written value) ≤ length first.bytes.now → out.bytes.now ≡ put_at first.at (written value) first.bytes.now
    unfolding put_at
    all-stored room = done.ahead.makes ∙ rw (← written-quoted value e) (laid (written value) first.bytes.now first.at room)

pub push-requires : goal.push-requires
push-requires c = place (all-left _ c.args.self.now c.requires.0 c.requires.1).ahead

pub loop-b-init : goal.loop-b-init
loop-b-init c = pushed _ _ _ (all-left _ _ c.requires.0 c.requires.1) c.push.ensures.onward c.push.ensures.stored c.push.ensures.same

pub push-requires-then-b-eq-QUOTE : goal.push-requires-then-b-eq-QUOTE
push-requires-then-b-eq-QUOTE c = place (quote-twice _ _ _ _ c.loop-b-test.true c.loop-b.invariant c.if-b-eq-QUOTE.true).ahead

pub push-requires-in-loop-b : goal.push-requires-in-loop-b
push-requires-in-loop-b c =
    elim c.if-b-eq-QUOTE.branch [
      | then-b-eq-QUOTE w ↦
          let twice = quote-twice _ _ _ _ c.loop-b-test.true c.loop-b.invariant w.if-b-eq-QUOTE.true in
          let p = w.push-then-b-eq-QUOTE.ensures in
          rw w.self-is (place (pushed _ _ w.push-then-b-eq-QUOTE.new.self twice p.onward p.stored p.same).ahead)
      | else-b-eq-QUOTE w ↦ rw w.self-is (place (other_once _ _ _ _ c.loop-b-test.true c.loop-b.invariant w.if-b-eq-QUOTE.false).ahead)
    ]

pub loop-b-preserved : goal.loop-b-preserved
loop-b-preserved c =
    let last = c.push-in-loop-b.ensures in
    elim c.if-b-eq-QUOTE.branch [
      | then-b-eq-QUOTE w ↦
          let twice = quote-twice _ _ _ _ c.loop-b-test.true c.loop-b.invariant w.if-b-eq-QUOTE.true in
          let p = w.push-then-b-eq-QUOTE.ensures in
          let byte = pushed _ _ w.push-then-b-eq-QUOTE.new.self twice p.onward p.stored p.same in
          pushed _ _ _ byte (rw w.self-is at last.onward) (rw w.self-is at last.stored) (rw w.self-is at last.same)
      | else-b-eq-QUOTE w ↦
          let once = other_once _ _ _ _ c.loop-b-test.true c.loop-b.invariant w.if-b-eq-QUOTE.false in
          pushed _ _ _ once (rw w.self-is at last.onward) (rw w.self-is at last.stored) (rw w.self-is at last.same)
    ]

pub push-requires-2 : goal.push-requires-2
push-requires-2 c =
    let past : length c.args.value.now ≤ c.loop-b.b-index = omega arith in
    place (last_left _ _ _ _ past c.loop-b.invariant).ahead

pub returns-clause-onward : goal.returns-clause-onward
returns-clause-onward c =
    let past : length c.args.value.now ≤ c.loop-b.b-index = omega arith in
    let p = c.push-2.ensures in
    all-passed _ _ c.requires.0 (pushed _ _ c.push-2.new.self (last_left _ _ _ _ past c.loop-b.invariant) p.onward p.stored p.same)

pub returns-clause-stored : goal.returns-clause-stored
returns-clause-stored c =
    let past : length c.args.value.now ≤ c.loop-b.b-index = omega arith in
    let p = c.push-2.ensures in
    all-stored _ _ c.requires.0 (pushed _ _ c.push-2.new.self (last_left _ _ _ _ past c.loop-b.invariant) p.onward p.stored p.same) c.requires.1

pub returns-clause-same : goal.returns-clause-same
returns-clause-same c = c.push-2.ensures.same ∙ c.loop-b.invariant.same
