-- Texts put in a loop. Assumes nothing.
use Rattle.std.specs.Prelude.{◌≡◌, refl, List, ◌++◌, Result, Ok, Err, IsErrAnd, ⊤}
use Rattle.std.proofs.Common.{sym, ap, ◌∙◌}
use Rattle.lines.specs.declared.output.Output.{Output}
use Rattle.lines.specs.declared.WriteError.{WriteError}
use Rattle.lines.specs.Putting.{Text, left, put_all, Puts}
use Rattle.lines.specs.Laws.Putting.{all_append, then-error}

-- texts that are still to be put: with them the output becomes what all the texts make of it as it was at first
pub record TextsLeft (texts : List Text) (out : Output) (all : List Text) (first : Output) : Type 0 where
  pub makes : put_all texts (left (Ok tt) out) ≡ put_all all (left (Ok tt) first)
  pub same : out.bytes.ghost_name ≡ first.bytes.ghost_name

pub all_left : {texts : List Text} {out : Output} → TextsLeft texts out texts out
all_left = record { makes = refl; same = refl }

-- the next of them are put
pub next-put : {texts others rest all : List Text} {out after first : Output} {result : Result ⊤ WriteError} → TextsLeft rest out all first
    → rest ≡ texts ++ others → result ≡ Ok tt → Puts texts out result after → TextsLeft others after all first
next-put {texts} {others} {out = out} still parts e put =
    let made = rw e at put.all in
    record {
      makes =
          ap (put_all others) made ∙ sym (all_append texts others (left (Ok tt) out))
          ∙ ap (λ (texts : List Text). put_all texts (left (Ok tt) out)) (sym parts) ∙ still.makes;
      same = put.same ∙ still.same;
    }

-- the last of them are put
pub last-put : {texts all : List Text} {out after first : Output} {result : Result ⊤ WriteError} → TextsLeft texts out all first
    → Puts texts out result after → Puts all first result after
last-put still put = record { all = put.all ∙ still.makes; same = put.same ∙ still.same }

-- an error at the next of them ends all
pub put-error : (others : List Text) {texts rest all : List Text} {out after first : Output} {error : WriteError} {given result : Result ⊤ WriteError}
    → TextsLeft rest out all first → rest ≡ texts ++ others → given ≡ Err error → Puts texts out given after
    → IsErrAnd result (λ passed. passed ≡ error) → Puts all first result after
put-error others still parts e put h = last-put still (rw parts (then-error others e put h))
