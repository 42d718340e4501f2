-- Answered in lists of its own, and handed over where the print fits. Assumes nothing.
use Rattle.std.specs.Prelude.{◌≡◌, refl, Result, Ok, Err, MatchResult, IsErrAnd, is_err, true, false, ⊤}
use Rattle.lines.specs.declared.WriteError.{WriteError}
use Rattle.planning.specs.declared.Refusal.{Refusal}
use Rattle.planning.specs.declared.Fault.TheVariants.{Space}
use Rattle.std.proofs.Common.{rules, subst, sym, ap, ◌∙◌, length, arith}
use Rattle.lines.specs.Laws.Putting.{passed_on}
use Rattle.filecall.specs.Laws.Aside.{aside_made, aside_handed, aside_kept}
use Rattle.filecall.proofs.call.aside.Goals as goal

abbrev no_space : Refusal
no_space = record { fault = Space; place = 0 }

-- what is mapped to the refusal by 9 was put, or was not
module _ (F : WriteError → Refusal → Type 0) (r : Result ⊤ WriteError) (m : Result ⊤ Refusal)
    (h : MatchResult r (λ x. m ≡ Ok x) (λ w. IsErrAnd m (F w))) where
  put : {x : ⊤} → m ≡ Ok x → is_err r ≡ false
  put e = by r h
    where
      by : (r : Result ⊤ WriteError) → MatchResult r (λ x. m ≡ Ok x) (λ w. IsErrAnd m (F w)) → is_err r ≡ false
      by (Ok n) k = refl
      by (Err w) k = absurd (search rules)

  not_put : {refusal : Refusal} → m ≡ Err refusal → ((w : WriteError) (r : Refusal) → F w r → r ≡ no_space)
      → (is_err r ≡ true) × (refusal ≡ no_space)
  not_put {refusal = refusal} e f = by r h
    where
      by : (r : Result ⊤ WriteError) → MatchResult r (λ x. m ≡ Ok x) (λ w. IsErrAnd m (F w)) → (is_err r ≡ true) × (refusal ≡ no_space)
      by (Ok n) k = absurd (search rules)
      by (Err w) k = (refl, f w _ (subst (λ z. IsErrAnd z (F w)) e k))

pub slice_bounds-made-end : goal.slice_bounds-made-end
slice_bounds-made-end c =
    let made = aside_made c.requires c.args.table.now c.args.spare.now c.args.output.now (omega arith) c.in_place-n.ensures in
    omega (arith, made.2)

pub slice_bounds-write_bytes-end : goal.slice_bounds-write_bytes-end
slice_bounds-write_bytes-end c =
    let made = aside_made c.requires c.args.table.now c.args.spare.now c.args.output.now (omega arith) c.in_place-n.ensures in
    made.1 ∙ sym (ap length made.0)

pub returns-in_err-map_err : goal.returns-in_err-map_err
returns-in_err-map_err c =
    let over = not_put _ c.write_bytes.result c.map_err.result c.map_err.ensures.cases c.in_err-map_err.was (λ w r h. search rules) in
    rw (passed_on _ c.from_residual.ensures.1, over.1)
    (aside_kept c.requires c.args.table.now c.args.spare.now c.args.output.now (omega arith) c.in_place-n.ensures
    c.new-out.ensures.front c.new-out.ensures.lent c.write_bytes.ensures.puts (search rules) over.0)

pub returns : goal.returns
returns c =
    aside_handed c.requires c.args.table.now c.args.spare.now c.args.output.now (omega arith) c.in_place-n.ensures
    c.new-out.ensures.front c.new-out.ensures.lent c.write_bytes.ensures.puts (search rules)
    (put _ c.write_bytes.result c.map_err.result c.map_err.ensures.cases c.in_ok-map_err.was)
