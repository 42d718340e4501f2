-- By what is asked of the value's bytes, and whether the field fits. The length of a field in quotes is the law `length-written`.
use Rattle.std.proofs.Common.{◌≡◌, refl, sym, ◌∙◌, true, false, [], ◌∷◌, List, ℕ, ◌+◌, ◌≤◌, ◌<◌, length, arith, Result, Ok, Err}
use Rattle.std.proofs.Common.{count_by, ◌==◌, Bool, not, ◌&&◌}
use Rattle.std.specs.Prelude.{⊤}
use Rattle.std.specs.List.{list_all}
use Rattle.rfc4180.proofs.Laws.Writer.{length-written}
use Rattle.rfc4180.specs.Bytes.{quote, class_of}
use Rattle.rfc4180.specs.Writer.{is_allowed, asks_for_quotes, written, needs_quotes, writable, quote_count}
use Rattle.lines.specs.declared.output.Output.{Output}
use Rattle.lines.specs.declared.WriteError.{WriteError}
use Rattle.lines.specs.declared.WriteError.TheVariants.{Refused, TooLong}
use Rattle.lines.specs.Putting.{plain, field, put_at, put_all, Puts}
use Rattle.lines.specs.Laws.Lines.{field-text}
use Rattle.lines.specs.Laws.Putting.{put-refused, put-long, put-fits}
use Rattle.lines.specs.Laws.Values.{writable_all, plain_value, quoted_value, quote_count_by, written-plain}
use Rattle.lines.proofs.output.Output.write_value.Goals as goal

-- ---- what is put, by the value's case

module _ (value : List ℕ) (before : Output) where
  refused : writable value ≡ false → Puts (field value ∷ []) before (Err Refused) before
  unfolding field put_all
  refused e = record { all = rw e (sym (put-refused before.at before.bytes.now)); same = refl }

  module _ (writes : writable value ≡ true) where
    as-it-is : needs_quotes value ≡ false → {result : Result ⊤ WriteError} {after : Output} → Puts (plain value ∷ []) before result after
        → Puts (field value ∷ []) before result after
    as-it-is plainly put = rw (field-text value writes, written-plain value plainly) put

    too_long : length before.bytes.now < before.at + length (written value) → Puts (field value ∷ []) before (Err TooLong) before
    unfolding put_all
    too_long over = record { all = rw (field-text value writes) (sym (put-long before.at (written value) before.bytes.now over)); same = refl }

    stored : {after : Output} → before.at + length (written value) ≤ length before.bytes.now → after.at ≡ before.at + length (written value)
        → after.bytes.now ≡ put_at before.at (written value) before.bytes.now → after.bytes.ghost_name ≡ before.bytes.ghost_name
        → Puts (field value ∷ []) before (Ok tt) after
    unfolding put_all
    stored room ends makes same =
        record { all = rw (field-text value writes, ends, makes) (sym (put-fits before.at (written value) before.bytes.now room)); same = same }

-- ---- what is found of the value

module _ (value : List ℕ) where
  writes : {found t : Bool} → found ≡ list_all (λ b. is_allowed (class_of b)) value → found ≡ t → writable value ≡ t
  writes is e = writable_all value ∙ sym is ∙ e

  -- it can be written, and not as it is
  in-quotes : {allowed text : Bool} → allowed ≡ list_all (λ b. is_allowed (class_of b)) value → allowed ≡ true
      → text ≡ list_all (λ b. is_allowed (class_of b) && not (asks_for_quotes (class_of b))) value → text ≡ false
      → (writable value ≡ true) × (needs_quotes value ≡ true)
  in-quotes is e text bare = (writes is e, quoted_value value text bare (writes is e))

  quoted-length : {quotes : ℕ} → quotes ≡ count_by (λ b. b == quote) value → needs_quotes value ≡ true → length (written value) ≡ length value + quotes + 2
  quoted-length is e =
      let size : length (written value) ≡ length value + quote_count value + 2 = length-written value ∙ rw e in
      omega (arith, size, is, quote_count_by value)

-- ---- the goals

pub returns-then-is_plain : goal.returns-then-is_plain
returns-then-is_plain c =
    let plain = plain_value _ c.is_plain.ensures c.if-is_plain.true in
    as-it-is _ _ plain.0 plain.1 c.write_bytes.ensures.puts

pub returns-then-not-is_writable : goal.returns-then-not-is_writable
returns-then-not-is_writable c = refused _ _ (writes _ c.is_writable.ensures c.if-not-is_writable.true)

pub returns-then-self-n : goal.returns-then-self-n
returns-then-self-n c =
    let found = in-quotes _ c.is_writable.ensures c.if-not-is_writable.false c.is_plain.ensures c.if-is_plain.false in
    too_long _ _ found.0 (omega (arith, quoted-length c.args.value.now c.count_quotes.ensures.count found.1, c.args.self.now.within))

pub store_quoted-requires : goal.store_quoted-requires
store_quoted-requires c =
    let found = in-quotes _ c.is_writable.ensures c.if-not-is_writable.false c.is_plain.ensures c.if-is_plain.false in
    (found.1, omega (arith, quoted-length c.args.value.now c.count_quotes.ensures.count found.1, c.args.self.now.within))

pub returns : goal.returns
returns c =
    let found = in-quotes _ c.is_writable.ensures c.if-not-is_writable.false c.is_plain.ensures c.if-is_plain.false in
    let size = quoted-length c.args.value.now c.count_quotes.ensures.count found.1 in
    let quoted = c.store_quoted.ensures in
    stored _ _ found.0 (omega (arith, size, c.args.self.now.within)) quoted.onward quoted.stored quoted.same
