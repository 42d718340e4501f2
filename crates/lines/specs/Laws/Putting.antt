-- Texts put into an output: how far it is written, what it keeps, and what stands in it behind a chain of them. Assumes nothing.
use Rattle.std.specs.Prelude.{◌≡◌, Bool, true, leb, take, Result, Ok, Err, IsErrAnd, ⊤}
use Rattle.std.proofs.Math.Path.{refl, ap}
use Rattle.std.proofs.Common.{sym, subst, ◌∙◌, add-zero, take-append-drop, length-drop, length-take-le, drop_at, drop-drop, le-leb, leb-true}
use Rattle.std.proofs.Math.Bool.{false}
use mathlib.Core.List.{List, [], ◌∷◌, ◌++◌, append-nil, append_assoc}
use Rattle.std.proofs.Math.Option.{none, some}
use Prim.Native.Nat.{ℕ, ◌+◌, ◌-◌, ◌≤◌, ◌<◌}
use Rattle.std.proofs.Math.Nat.{add_assoc}
use native.Mathlib.Omega.{arith}
use Rattle.std.proofs.Math.ListN.{length, drop, length-append}
use Rattle.std.proofs.Math.Seq.{take_at, drop-append-add}
use Rattle.std.proofs.lemmas.Bool.{lt-leb}
use Rattle.lines.specs.declared.output.Output.{Output}
use Rattle.lines.specs.declared.WriteError.{WriteError}
use Rattle.lines.specs.declared.WriteError.TheVariants.{Refused, TooLong}
use Rattle.lines.specs.Putting.{Text, State, state, left, put_at, put_if, put_next, put, put_all, between, Puts, Writes}

-- ---- bytes at a place

-- no bytes change nothing
pub put-none : (at : ℕ) (lent : List ℕ) → put_at at [] lent ≡ lent
unfolding put_at
put-none at lent = rw (add-zero, take-append-drop)

module _ (at : ℕ) (bytes lent : List ℕ) (room : at + length bytes ≤ length lent) where
  before : length (take at lent ++ bytes) ≡ at + length bytes
  before = length-append (take at lent) bytes ∙ ap (λ n. n + length bytes) (length-take-le at lent (omega arith))

  -- the output is as long as it was
  pub put-length : length (put_at at bytes lent) ≡ length lent
  unfolding put_at
  put-length = rw (← append_assoc, length-append, before, length-drop) (omega arith)

  -- they stand at their place
  pub put-stands : (to : ℕ) → to ≡ at + length bytes → between at to (put_at at bytes lent) ≡ bytes
  unfolding put_at
  put-stands to e =
      let size : length bytes ≡ to - at = omega arith in
      ap (take (to - at)) (drop_at (take at lent) _ at (length-take-le at lent (omega arith))) ∙ take_at bytes _ (to - at) size

  -- other bytes right behind them: all of them
  pub put-behind : (more : List ℕ) → put_at (at + length bytes) more (put_at at bytes lent) ≡ put_at at (bytes ++ more) lent
  unfolding put_at
  put-behind more =
      rw (front, back, append_assoc (take at lent) bytes _, append_assoc bytes more _, length-append bytes more, ← add_assoc at (length bytes) (length more))
    where
      behind : List ℕ
      behind = drop (at + length bytes) lent

      whole : take at lent ++ (bytes ++ behind) ≡ (take at lent ++ bytes) ++ behind
      whole = sym (append_assoc (take at lent) bytes behind)

      front : take (at + length bytes) (take at lent ++ (bytes ++ behind)) ≡ take at lent ++ bytes
      front = rw whole (take_at (take at lent ++ bytes) behind (at + length bytes) before)

      back : drop (at + length bytes + length more) (take at lent ++ (bytes ++ behind)) ≡ drop (at + length bytes + length more) lent
      back =
          rw whole (ap (λ n. drop (n + length more) ((take at lent ++ bytes) ++ behind)) (sym before)
          ∙ drop-append-add (take at lent ++ bytes) behind (length more) ∙ drop-drop (length more) (at + length bytes) lent)

-- ---- one text

-- behind an error nothing is put
pub put-stopped : (text : Text) (error : WriteError) (at : ℕ) (lent : List ℕ) → put text (state (Err error) at lent) ≡ state (Err error) at lent
unfolding put put_next
put-stopped text error at lent = refl

-- a value that cannot be written
pub put-refused : (at : ℕ) (lent : List ℕ) → put none (state (Ok tt) at lent) ≡ state (Err Refused) at lent
unfolding put put_next
put-refused at lent = refl

-- bytes that fit, and bytes that do not
pub put-fits : (at : ℕ) (bytes lent : List ℕ) → at + length bytes ≤ length lent
    → put (some bytes) (state (Ok tt) at lent) ≡ state (Ok tt) (at + length bytes) (put_at at bytes lent)
unfolding put put_next put_if
put-fits at bytes lent room = rw (le-leb (at + length bytes) (length lent) room)

pub put-long : (at : ℕ) (bytes lent : List ℕ) → length lent < at + length bytes
    → put (some bytes) (state (Ok tt) at lent) ≡ state (Err TooLong) at lent
unfolding put put_next put_if
put-long at bytes lent over = rw (lt-leb (at + length bytes) (length lent) over)

-- a text that is written: its bytes, and that they fit where it was put
pub record Written (text : Text) (out : State) (to : ℕ) : Type 0 where
  pub bytes : List ℕ
  pub starts : out.wrote ≡ Ok tt
  pub is : text ≡ some bytes
  pub room : out.at + length bytes ≤ length out.bytes
  pub ends : to ≡ out.at + length bytes

wrote-by : (fits : Bool) (at : ℕ) (bytes lent : List ℕ) → (put_if fits at bytes lent).wrote ≡ Ok tt
    → (fits ≡ true) × ((put_if fits at bytes lent).at ≡ at + length bytes)
unfolding put_if
wrote-by true at bytes lent e = (refl, refl)
wrote-by false at bytes lent e = let z : ◌≡◌ {A = ℕ} 0 1 = cc in absurd (omega arith)

written_next : (text : Text) (wrote : Result ⊤ WriteError) (at : ℕ) (lent : List ℕ) → (put_next text wrote at lent).wrote ≡ Ok tt
    → Written text (state wrote at lent) (put_next text wrote at lent).at
unfolding put_next
written_next text (Err error) at lent e = let z : ◌≡◌ {A = ℕ} 0 1 = cc in absurd (omega arith)
written_next none (Ok _) at lent e = let z : ◌≡◌ {A = ℕ} 0 1 = cc in absurd (omega arith)
written_next (some bytes) (Ok _) at lent e =
    let (fits, ends) = wrote-by (leb (at + length bytes) (length lent)) at bytes lent e in
    record { bytes = bytes; starts = refl; is = refl; room = leb-true (at + length bytes) (length lent) fits; ends = ends }

pub put_written : (text : Text) (out : State) → (put text out).wrote ≡ Ok tt → Written text out (put text out).at
unfolding put
put_written text out e = written_next text out.wrote out.at out.bytes e

-- ---- texts one behind the other

pub all_append : (texts others : List Text) (out : State) → put_all (texts ++ others) out ≡ put_all others (put_all texts out)
unfolding put_all
all_append [] others out = refl
all_append (text ∷ texts) others out = all_append texts others (put text out)

-- behind an error no text is put
all-stopped : (texts : List Text) (error : WriteError) (at : ℕ) (lent : List ℕ) → put_all texts (state (Err error) at lent) ≡ state (Err error) at lent
unfolding put_all
all-stopped [] error at lent = refl
all-stopped (text ∷ texts) error at lent = ap (put_all texts) (put-stopped text error at lent) ∙ all-stopped texts error at lent

-- what some texts and then others make of an output
pub no_text : {out : Output} → Puts [] out (Ok tt) out
unfolding put_all
no_text = record { all = refl; same = refl }

pub then : {texts others : List Text} {before between after : Output} {first result : Result ⊤ WriteError} → first ≡ Ok tt
    → Puts texts before first between → Puts others between result after → Puts (texts ++ others) before result after
then {texts} {others} {before} e p q =
    let put = rw e at p.all in
    record { all = q.all ∙ ap (put_all others) put ∙ sym (all_append texts others (left (Ok tt) before)); same = q.same ∙ p.same }

-- an error at some texts, passed on by a `?`, ends those behind them too
pub passed_on : {T E : Type 0} {error : E} (result : Result T E) → IsErrAnd result (λ given. given ≡ error) → result ≡ Err error
passed_on (Ok x) h = absurd h
passed_on (Err given) h = rw h

pub then-error : (others : List Text) {texts : List Text} {before after : Output} {error : WriteError} {first result : Result ⊤ WriteError}
    → first ≡ Err error → Puts texts before first after → IsErrAnd result (λ given. given ≡ error) → Puts (texts ++ others) before result after
then-error others {texts} {before} {after} {error} {result = result} e p h =
    let put = rw e at p.all in
    let stays = all-stopped others error after.at after.bytes.now in
    rw (passed_on result h) (record {
      all = sym stays ∙ ap (put_all others) put ∙ sym (all_append texts others (left (Ok tt) before));
      same = p.same;
    })

-- the output is as long as it was
put-kept : (text : Text) (wrote : Result ⊤ WriteError) (at : ℕ) (lent : List ℕ) → length (put_next text wrote at lent).bytes ≡ length lent
unfolding put_next
put-kept text (Err error) at lent = refl
put-kept none (Ok _) at lent = refl
put-kept (some bytes) (Ok _) at lent = go (leb (at + length bytes) (length lent)) refl
  where
    go : (fits : Bool) → leb (at + length bytes) (length lent) ≡ fits → length (put_if fits at bytes lent).bytes ≡ length lent
    go true e = unfold put_if in put-length at bytes lent (leb-true (at + length bytes) (length lent) e)
    go false e = unfold put_if in refl

pub all-kept : (texts : List Text) (out : State) → length (put_all texts out).bytes ≡ length out.bytes
unfolding put_all put
all-kept [] out = refl
all-kept (text ∷ texts) out = all-kept texts (put text out) ∙ put-kept text out.wrote out.at out.bytes

-- texts that can be written, and their bytes one behind the other
pub data Joined : List Text → List ℕ → Type 0 where
  joined-none : Joined [] []
  joined-more : {bytes others : List ℕ} {texts : List Text} → Joined texts others → Joined (some bytes ∷ texts) (bytes ++ others)

pub joined-text : {text : Text} {bytes others : List ℕ} {texts : List Text} → text ≡ some bytes → Joined texts others → Joined (text ∷ texts) (bytes ++ others)
joined-text e j = rw e (joined-more j)

pub joined-append : {texts others : List Text} {bytes more : List ℕ} → Joined texts bytes → Joined others more → Joined (texts ++ others) (bytes ++ more)
joined-append joined-none j = j
joined-append {more = more} (joined-more {bytes = bytes} {others = others} i) j = rw (append_assoc bytes others more) (joined-more (joined-append i j))

-- where they all fit, they stand there
pub all-put : {texts : List Text} {bytes : List ℕ} → Joined texts bytes → (at : ℕ) (lent : List ℕ) → at + length bytes ≤ length lent
    → put_all texts (state (Ok tt) at lent) ≡ state (Ok tt) (at + length bytes) (put_at at bytes lent)
unfolding put_all
all-put joined-none at lent room = rw (add-zero at, put-none at lent)
all-put (joined-more {bytes = bytes} {others = others} {texts = texts} j) at lent room =
    let first : at + length bytes ≤ length lent = omega (arith, length-append bytes others) in
    let rest : at + length bytes + length others ≤ length (put_at at bytes lent) =
    omega (arith, length-append bytes others, put-length at bytes lent first) in
    ap (put_all texts) (put-fits at bytes lent first) ∙ all-put j (at + length bytes) (put_at at bytes lent) rest
    ∙ rw (put-behind at bytes lent first others, length-append bytes others, add_assoc at (length bytes) (length others))

-- texts that are written: their bytes, and that they fit where they were put
pub record AllWritten (texts : List Text) (out : State) (to : ℕ) : Type 0 where
  pub bytes : List ℕ
  pub starts : out.wrote ≡ Ok tt
  pub joins : Joined texts bytes
  pub room : out.at + length bytes ≤ length out.bytes
  pub ends : to ≡ out.at + length bytes

pub all-written : (text : Text) (texts : List Text) (out : State) → (put_all (text ∷ texts) out).wrote ≡ Ok tt
    → AllWritten (text ∷ texts) out (put_all (text ∷ texts) out).at
unfolding put_all
all-written text [] out e =
    let w = put_written text out e in
    record {
      bytes = w.bytes ++ [];
      starts = w.starts;
      joins = joined-text w.is joined-none;
      room = rw (append-nil w.bytes) w.room;
      ends = rw (append-nil w.bytes) w.ends;
    }
all-written text (next ∷ texts) out e =
    let others = all-written next texts (put text out) e in
    let w = put_written text out others.starts in
    let kept = all-kept (text ∷ []) out in
    record {
      bytes = w.bytes ++ others.bytes;
      starts = w.starts;
      joins = joined-text w.is others.joins;
      room = omega (arith, length-append w.bytes others.bytes, others.room, w.ends, kept);
      ends = omega (arith, length-append w.bytes others.bytes, others.ends, w.ends);
    }

-- so they stand from the place before up to the place behind
module _ {text : Text} {texts : List Text} {before after : Output} {result : Result ⊤ WriteError} (put : Puts (text ∷ texts) before result after) where
  pub writes : (Reads : List ℕ → Type 0) → ((bytes : List ℕ) → Joined (text ∷ texts) bytes → Reads bytes)
      → Writes (text ∷ texts) Reads before result after
  writes Reads meant = record { puts = put; reads = read }
    where
      read : result ≡ Ok tt → Reads (between before.at after.at after.bytes.now)
      read e =
          let w = all-written text texts (left (Ok tt) before) (sym (ap (λ (o : State). o.wrote) put.all) ∙ e) in
          let ends = ap (λ (o : State). o.at) put.all ∙ w.ends in
          let makes = ap (λ (o : State). o.bytes) (put.all ∙ all-put w.joins before.at before.bytes.now w.room) in
          let stands = ap (between before.at after.at) makes ∙ put-stands before.at w.bytes before.bytes.now w.room after.at ends in
          subst Reads (sym stands) (meant w.bytes w.joins)
