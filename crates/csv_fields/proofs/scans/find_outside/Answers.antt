-- Assumes nothing.
use Rattle.std.proofs.Common.{◌≡◌, sym, ap, ◌∙◌, ◌+◌, Bool, false, eqb, get_or, arith, ne_eqb, inl, inr}
use Rattle.std.proofs.Math.Bool.{◌&&◌}
use Rattle.rfc4180.specs.Records.{outside_after}
use Rattle.csv_fields.specs.Laws.Outside.{place_of, place-passed, place_here, place_end}
use Rattle.csv_fields.proofs.scans.find_outside.Goals as goal
use Rattle.csv_fields.proofs.scans.find_outside.Goals.{then-x-eq34, else-x-eq34}

pub loop-at-preserved : goal.loop-at-preserved
unfolding outside_after
loop-at-preserved c =
    let bytes = c.args.bytes.now in
    let at = c.loop-at.at in
    let x = get_or bytes at 0 in
    -- it is not here
    let elsewhere : (c.loop-at.outside && eqb x c.args.b) ≡ false =
    elim c.else-outside.either [ inl (outside, other) ↦ rw (outside, ne_eqb _ _ other) | inr inside ↦ rw inside ] in
    -- whether an even number of quotes has been met behind this byte
    let turned : outside_after c.loop-at.outside x ≡ c.if-x-eq34.outside =
    elim c.if-x-eq34.branch [
      | then-x-eq34 w ↦ rw w.if-x-eq34.true (sym w.outside-is)
      | else-x-eq34 w ↦ rw (ne_eqb _ _ w.if-x-eq34.false) (sym w.outside-is)
    ] in
    c.loop-at.invariant
    ∙ place-passed c.args.b c.loop-at.outside bytes at c.loop-at-test.true elsewhere
    ∙ ap (λ (outside : Bool). place_of c.args.b outside bytes (at + 1)) turned

pub returns-then-x-b : goal.returns-then-x-b
returns-then-x-b c =
    let loop = c.loop-at in
    record {
      place = sym (rw c.if-outside.true at loop.invariant ∙ place_here c.args.b c.args.bytes.now loop.at c.loop-at-test.true c.if-x-b.true);
      stops = λ h. c.if-x-b.true;
    }

pub returns-after-loop-at : goal.returns-after-loop-at
returns-after-loop-at c =
    let loop = c.loop-at in
    record {
      place = sym (loop.invariant ∙ place_end c.args.b loop.outside c.args.bytes.now loop.at c.loop-at-test.false);
      stops = λ h. absurd (omega arith);
    }
