-- What a function returns where `ok_or(..)?` finds nothing or `map_err(..)?` a refusal, and what is found where it goes on. Assumes nothing.
use Rattle.std.specs.Prelude.{◌≡◌, ℕ, Option, None, Some, Result, Ok, Err}
use Rattle.std.specs.Option.{ok_or}
use Rattle.std.specs.Result.{IsErrAnd, MatchResult}
use Rattle.std.proofs.Common.{sym, ◌∙◌, ap, refl}
use Rattle.std.proofs.lemmas.Result.{err_from_is_err_and}
use Rattle.planning.specs.declared.Fault.{Fault}
use Rattle.planning.specs.declared.Refusal.{Refusal}

missing : {T : Type 0} (o : Option T) (e y : Fault) → Err y ≡ ok_or o e → (o ≡ None) × (y ≡ e)
missing None e y h = (refl, cc)
missing (Some x) e y h = cc

pub exit : {T U : Type 0} {o : Option T} {e y : Fault} (r : Result U Fault) → IsErrAnd r (λ z. z ≡ y) → Err y ≡ ok_or o e → (o ≡ None) × (r ≡ Err e)
exit {o = o} {e = e} {y = y} r fails h =
    let (z, is, same) = err_from_is_err_and r fails in
    let (none, fault) = missing o e y h in
    (none, is ∙ ap Err (same ∙ fault))

-- a fault as a refusal at a place
unfoldable pub at_place : {T : Type 0} → (place : ℕ) → Result T Fault → Result T Refusal
at_place place (Ok x) = Ok x
at_place place (Err what) = Err (record { fault = what; place = place })

-- what `map_err` made of it
pub placed : {T : Type 0} (place : ℕ) (o : Result T Fault) {r : Result T Refusal} {post : Fault → Refusal → Type 0}
    → MatchResult o (λ x. r ≡ Ok x) (λ e. IsErrAnd r (post e)) → ((e : Fault) (z : Refusal) → post e z → z ≡ record { fault = e; place = place })
    → r ≡ at_place place o
unfolding at_place
placed place (Ok x) cases makes = cases
placed place (Err e) {post = post} cases makes = let (z, is, told) = err_from_is_err_and _ cases in is ∙ ap Err (makes e z told)

pub placed-fault : {T : Type 0} (place : ℕ) (o : Result T Fault) {y : Refusal} → at_place place o ≡ Err y
    → (what : Fault) × (o ≡ Err what) × (y ≡ record { fault = what; place = place })
unfolding at_place
placed-fault place (Err what) {y} is = let same : record { fault = what; place = place } ≡ y = cc in (what, refl, sym same)
placed-fault place (Ok x) is = absurd (cc)

pub placed-value : {T : Type 0} (place : ℕ) (o : Result T Fault) {x : T} → at_place place o ≡ Ok x → o ≡ Ok x
unfolding at_place
placed-value place (Ok z) is = cc
placed-value place (Err what) is = absurd (cc)
