-- A plan answered in lists of the call's own, with space for every print, and handed over where the print fits. Assumes nothing.
use Rattle.std.specs.Prelude.{◌≡◌, refl, List, [], ◌∷◌, ℕ, ◌≤◌, ◌<◌, length, take, true, false, Result, Ok, Err, is_err, ⊤}
use Rattle.std.proofs.Common.{sym, ap, ◌∙◌, arith, le-leb, true≢false}
use Rattle.std.proofs.Math.Seq.{take-append_seam}
use Rattle.std.proofs.lemmas.Bool.{lt-leb}
use Rattle.lines.specs.declared.output.Output.{Output}
use Rattle.lines.specs.declared.WriteError.{WriteError}
use Rattle.lines.specs.Laws.Front.{bytes-at-front, bytes-kept}
use Rattle.lines.specs.Putting.{plain, Puts}
use Rattle.planning.specs.declared.Answer.{Answer}
use Rattle.planning.specs.declared.Fault.TheVariants.{Space}
use Rattle.planning.specs.Modes.{planned, answer_of}
use Rattle.planning.specs.Tables.{over_front}
use Rattle.planfile.specs.FileCall.{printed, answer_by, on_exit}
use Rattle.planfile.specs.FilePlan.{FilePlan, unnamed}
use Rattle.planfile.proofs.Laws.PrintLength.{print-length}
use Rattle.planfile.specs.Print.{longest_print}
use Rattle.planfile.specs.Reading.{refused, accepted, ◌>>=◌, fault, require}
use Rattle.planreader.specs.declared.FilePlan.{FilePlan as ByValue}
use Rattle.planreader.specs.Plans.{plan_by, UsablePlan}
use Rattle.filecall.specs.HandOver.{with_space, Returned, Lent, lent_lists, HandedOver}

-- a result by its test
ok_of : {T E : Type 0} (r : Result T E) → is_err r ≡ false → (x : T) × (r ≡ Ok x)
ok_of (Ok x) h = (x, refl)
ok_of (Err e) h = absurd (true≢false h)

err_of : {T E : Type 0} (r : Result T E) → is_err r ≡ true → (e : E) × (r ≡ Err e)
err_of (Ok x) h = absurd (true≢false (sym h))
err_of (Err e) h = (e, refl)

-- equal answers have prints of one length
same-answer : {a b : Answer} {n m : ℕ} → ◌≡◌ {A = Returned} (Ok (a, n)) (Ok (b, m)) → (a ≡ b) × (n ≡ m)
same-answer {a} {b} {n} {m} e =
    let both : ◌≡◌ {A = Answer × ℕ} (a, n) (b, m) = cc in
    (ap (λ (p : Answer × ℕ). p.0) both, ap (λ (p : Answer × ℕ). p.1) both)

-- with space and without
pub with-space : (f : FilePlan) (output : List ℕ) → length (printed f) ≤ length output → with_space f output ≡ accepted f
unfolding with_space ◌>>=◌ require
with-space f output room = rw (le-leb (length (printed f)) (length output) room)

without_space : (f : FilePlan) (output : List ℕ) → length output < length (printed f) → with_space f output ≡ refused (record { fault = Space; place = 0 })
unfolding with_space ◌>>=◌ require fault
without_space f output over = rw (lt-leb (length (printed f)) (length output) over)

-- a plan answered in lists like those lent, and an output for every print
module _ {p : ByValue} (u : UsablePlan p) (table spare output : List ℕ) {blank : List ℕ} (room : longest_print ≤ length blank) {a : Answer} {n : ℕ} {own : Lent}
    (made : HandedOver (plan_by p) (Ok (a, n)) (lent_lists table spare blank) own) where
  abbrev f : FilePlan
  f = plan_by p

  short : length (printed f) ≤ longest_print
  short = print-length f u.engines_named u.deliveries_named u.in_range

  fits : with_space f blank ≡ accepted f
  fits = with-space f blank (omega (arith, short))

  told : (a ≡ answer_of (planned (unnamed f))) × (n ≡ length (printed f))
  unfolding answer_by
  told = same-answer (rw fits at made.result)

  -- its print is the front of what was made
  pub aside_made : (take n own.output ≡ printed f) × (n ≡ length (printed f)) × (n ≤ longest_print)
  unfolding on_exit over_front
  aside_made =
      let stands = rw fits at made.output in
      (rw (stands, told.1) (take-append_seam (printed f) _), told.1, omega (arith, told.1, short))

  module _ {before after : Output} {next : Result ⊤ WriteError} {out : List ℕ} (front : before.at ≡ 0) (is : before.bytes.now ≡ output)
      (put : Puts (plain (take n own.output) ∷ []) before next after) (holds : out ≡ after.bytes.now) where
    put-print : Puts (plain (printed f) ∷ []) before next after
    put-print = rw aside_made.0 at put

    -- where it fits, all is handed over
    pub aside_handed : is_err next ≡ false → HandedOver f (Ok (a, n)) (lent_lists table spare output) (lent_lists own.table own.spare out)
    unfolding answer_by on_exit over_front
    aside_handed h =
        let stands = bytes-at-front front is put-print (ok_of next h).1 in
        let free = with-space f output stands.0 in
        record {
          result = rw (free, told.0, told.1);
          table = rw free (rw fits at made.table);
          spare = rw free (rw fits at made.spare);
          output = rw free (holds ∙ stands.2);
        }

    -- where it does not, nothing is
    pub aside_kept : is_err next ≡ true
        → HandedOver f (Err (record { fault = Space; place = 0 })) (lent_lists table spare output) (lent_lists table spare out)
    unfolding answer_by on_exit
    aside_kept h =
        let kept = bytes-kept front is put-print (err_of next h).1 in
        let full = without_space f output kept.0 in
        record { result = rw full refl; table = rw full refl; spare = rw full refl; output = rw full (holds ∙ kept.1) }
