-- When a call with a file is accepted, and with which faults and places it is refused.
-- Assumes nothing.
use Rattle.std.specs.Prelude.{◌≡◌, refl, ◌≢◌, ◌↔◌, ◌⊎◌, Bool, true, false, ℕ, ◌≤◌, length}
use Rattle.std.proofs.Common.{sym, inl, inr, arith}
use Rattle.std.proofs.Math.Logic.Iff
use Rattle.planning.specs.declared.Fault.{Fault}
use Rattle.planning.specs.declared.Fault.TheVariants.{Size, Grammar, Fields, Kind, Name, Value, Count, NoEngine, Space, UnknownEngine, QuietSpan}
use Rattle.planning.specs.declared.Refusal.{Refusal}
use Rattle.planning.specs.Bounds.{most_cells, most_engines}
use Rattle.planning.proofs.Laws.Numbers.{eqb-iff, leb-iff}
use Rattle.planfile.specs.FileCall.{FileCall, printed, read_call}
use Rattle.planfile.specs.FilePlan.{FilePlan}
use Rattle.planfile.proofs.Laws.Holding.{accepted-holds, holds-accepted}
use Rattle.planfile.proofs.Laws.Refusals.{PlaceOf}
use Rattle.planfile.proofs.Laws.Tests.{accepted-iff, refused-not-accepted, bind_iff, require-iff}
use Rattle.planfile.specs.Promises.{FileAccepted, FaultInFile}
use Rattle.planfile.specs.Reading.{Read, refused, accepted, ◌>>=◌, fault, require, read_file}

-- a call is accepted where its file is, the lent lists have their lengths and the print has its space
call-iff : (call : FileCall) (f : FilePlan) → (read_call call ≡ accepted f)
    ↔ ((g : FilePlan) × (read_file call.file ≡ accepted g)
    × ((length call.table ≡ most_cells)
    × ((length call.spare ≡ most_engines) × ((length (printed g) ≤ length call.output) × (g ≡ f)))))
unfolding read_call
call-iff call f = simp (require-iff, bind_iff, eqb-iff, leb-iff, accepted-iff) Iff.rfl

pub accepted-call : (call : FileCall) {f : FilePlan} → read_call call ≡ accepted f → (ok : FileAccepted call) × (ok.plan ≡ f)
accepted-call call {f} e =
    let (g, read, (table, (spare, (output, same)))) = (call-iff call f).0 e in
    (record { plan = g; held = accepted-holds call.file g read; table = table; spare = spare; output = output }, same)

pub call-accepted : (call : FileCall) (ok : FileAccepted call) → read_call call ≡ accepted ok.plan
call-accepted call ok =
    (call-iff call ok.plan).1
    (ok.plan, holds-accepted call.file ok.plan ok.held, (ok.table, (ok.spare, (ok.output, refl))))

-- a refusal is the first reading's, or comes from what stands behind it
bind_refused : {A B P : Type 0} (m : Read A) (next : A → Read B) {refusal : Refusal} → ((a : A) → next a ≡ refused refusal → P)
    → ◌>>=◌ m next ≡ refused refusal → (m ≡ refused refusal) ⊎ ((a : A) × (m ≡ accepted a) × P)
unfolding ◌>>=◌
bind_refused (refused refusal) next behind e = inl (cc)
bind_refused (accepted value) next behind e = inr (value, refl, behind value e)

-- 9 at 0
abbrev no_space : Refusal
no_space = record { fault = Space; place = 0 }

-- a check of the space refuses by 9 alone, where what stands behind it does
space_refused : (t : Bool) (next : Unit {0} → Read FilePlan) {refusal : Refusal} → (next tt ≡ refused refusal → refusal ≡ no_space)
    → ◌>>=◌ (require t Space 0) next ≡ refused refusal → refusal ≡ no_space
unfolding ◌>>=◌ require fault
space_refused true next h e = h e
space_refused false next h e = cc

-- a call is refused by its file, or by 9 where its file is read
pub refused-call : (call : FileCall) {refusal : Refusal} → read_call call ≡ refused refusal
    → (read_file call.file ≡ refused refusal) ⊎ ((f : FilePlan) × (read_file call.file ≡ accepted f) × (refusal ≡ no_space))
unfolding read_call
refused-call call =
    bind_refused (read_file call.file) _ λ f.
    space_refused _ _ (space_refused _ _ (space_refused _ _ (λ e. absurd (refused-not-accepted (sym e)))))

-- ---- faults and places

-- a file's fault has its place, and is not the want of space
pub file-fault : (count place : ℕ) (what : Fault) → PlaceOf count what place → FaultInFile count what place × (what ≢ Space)
unfolding FaultInFile
file-fault count place Size p = (p, λ e. let z : ◌≡◌ {A = ℕ} 0 1 = cc in omega arith)
file-fault count place Grammar p = (p, λ e. let z : ◌≡◌ {A = ℕ} 0 1 = cc in omega arith)
file-fault count place Fields p = (p, λ e. let z : ◌≡◌ {A = ℕ} 0 1 = cc in omega arith)
file-fault count place Kind p = (p, λ e. let z : ◌≡◌ {A = ℕ} 0 1 = cc in omega arith)
file-fault count place Name p = (p, λ e. let z : ◌≡◌ {A = ℕ} 0 1 = cc in omega arith)
file-fault count place Value p = (p, λ e. let z : ◌≡◌ {A = ℕ} 0 1 = cc in omega arith)
file-fault count place Count p = (p, λ e. let z : ◌≡◌ {A = ℕ} 0 1 = cc in omega arith)
file-fault count place NoEngine p = (p, λ e. let z : ◌≡◌ {A = ℕ} 0 1 = cc in omega arith)
file-fault count place Space p = absurd p
file-fault count place UnknownEngine p = (p, λ e. let z : ◌≡◌ {A = ℕ} 0 1 = cc in omega arith)
file-fault count place QuietSpan p = (p, λ e. let z : ◌≡◌ {A = ℕ} 0 1 = cc in omega arith)

-- its place is at most the count of records
pub fault-place : (count place : ℕ) (what : Fault) → FaultInFile count what place → place ≤ count
unfolding FaultInFile
fault-place count place Size p = omega arith
fault-place count place Grammar p = p.most
fault-place count place Fields p = p.most
fault-place count place Kind p = p.most
fault-place count place Name p = p.most
fault-place count place Value p = p.most
fault-place count place Count p = p.most
fault-place count place NoEngine p = omega arith
fault-place count place Space p = omega arith
fault-place count place UnknownEngine p = p.most
fault-place count place QuietSpan p = p.most
