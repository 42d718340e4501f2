-- The plan of a file on the numbers that the allocation takes, and the answer to it handed over. Assumes nothing.
use Rattle.std.specs.Prelude.{◌≡◌, ℕ, zero, suc, ◌*◌, ◌≤◌, ◌<◌, take, get_or, Result, Ok, ⊤}
use Rattle.std.proofs.Math.Path.{refl, sym, ap, ap₂}
use Rattle.std.proofs.Common.{◌∙◌, arith, take-append-drop, length-take-le}
use mathlib.Core.List.{List, [], ◌∷◌, ◌++◌, map, zip_with}
use Rattle.std.proofs.Math.ListN.{length, drop}
use borrow.Author.Tests.{le-leb}
use Rattle.lines.specs.declared.output.Output.{Output}
use Rattle.lines.specs.declared.WriteError.{WriteError}
use Rattle.lines.specs.Laws.Front.{behind, lines-at-front}
use Rattle.lines.specs.Lines.{PutLines}
use Rattle.lines.specs.Putting.{State, left}
use Rattle.planning.specs.declared.Answer.{Answer}
use Rattle.planning.specs.declared.Refusal.{Refusal}
use Rattle.planning.proofs.Laws.Modes.{planned-searched}
use Rattle.planning.proofs.Laws.Numbers.{unrefused-iff}
use Rattle.planning.proofs.Laws.OnExit.{over-whole}
use Rattle.planning.proofs.Laws.Soundness.{plan-length, length-spares}
use Rattle.planning.proofs.Laws.Tables.{length-listed, listed_same, listed-take, map-listed}
use Rattle.planning.specs.Modes.{planned, answer_of, spares, table_by, spares_by, table_after, spares_after}
use Rattle.planning.specs.Numbers.{Call, Accepted, plan_of, engines_of, deliveries_of, call_on}
use Rattle.planning.specs.Numbers.{answered_by, allocation, unless_refused, table_on_exit, spare_on_exit}
use Rattle.planning.specs.Plan.{Plan}
use Rattle.planning.specs.Search.{found, none, stopped}
use Rattle.planning.specs.Search as search
use Rattle.planning.specs.Tables.{over_front, listed, at}
use Rattle.planfile.specs.FileCall.{answer_by, on_exit, printed}
use Rattle.planfile.specs.FilePlan.{NamedEngine, NamedDelivery, unnamed, engine_of, delivery_of}
use Rattle.planfile.proofs.Laws.Holding.{engine-count, delivery-count}
use Rattle.planfile.proofs.Laws.Print.{print-writable}
use Rattle.planfile.proofs.Laws.PrintLength.{print-length}
use Rattle.planfile.specs.Print.{lines_of, answer_lines, print_of, longest_print}
use Rattle.planfile.specs.Reading.{◌>>=◌, require}
use Rattle.planreader.specs.declared.FilePlan.{FilePlan as ByValue}
use Rattle.filecall.specs.HandOver.{Answers, with_space, lent_lists, HandedOver}
use Rattle.planreader.specs.declared.items.Items.{Items}
use Rattle.planreader.specs.Laws.Quiet.{length-numbers}
use Rattle.planreader.specs.Plans.{names_in, items_in, Holding, numbers_in, quiet_in, plan_by, UsablePlan}
use Rattle.filecall.specs.Laws.Printing.{print-by-names}
use Rattle.filecall.specs.Printing.{print_lines}

-- ---- the numbers of a plan

-- two columns paired, from the front
paired : {A : Type 0} (pair : ℕ → ℕ → A) (n : ℕ) (firsts seconds : List ℕ) → n ≤ length firsts → n ≤ length seconds
    → zip_with pair (take n firsts) (take n seconds) ≡ listed n (λ k. pair (at firsts k) (at seconds k))
unfolding listed zip_with
paired pair zero firsts seconds l m = refl
paired pair (suc n) [] seconds l m = absurd (omega arith)
paired pair (suc n) (a ∷ firsts) [] l m = absurd (omega arith)
paired pair (suc n) (a ∷ firsts) (b ∷ seconds) l m = ap (λ (items : List _). pair a b ∷ items) (paired pair n firsts seconds (omega arith) (omega arith))

-- the items of columns without their names
unnamed_items : {A B : Type 0} (make : List ℕ → ℕ → ℕ → A) (content : A → B) (pair : ℕ → ℕ → B)
    → ((text : List ℕ) (a b : ℕ) → content (make text a b) ≡ pair a b)
    → {most : ℕ} (c : Items most) → Holding c → zip_with pair (take c.count c.firsts) (take c.count c.seconds) ≡ map content (items_in make c)
unfolding items_in
unnamed_items make content pair same c h =
    paired pair c.count c.firsts c.seconds (omega (arith, h.room, h.firsts)) (omega (arith, h.room, h.seconds))
    ∙ sym (map-listed content c.count _ ∙ listed_same c.count _ _ (λ k l. same _ _ _))

-- one number of each item is the front of its column
column_back : {A : Type 0} (make : List ℕ → ℕ → ℕ → A) (number : A → ℕ) {most : ℕ} (c : Items most) (column : List ℕ)
    → ((k : ℕ) → k < c.count → number (make (get_or c.names k []) (at c.firsts k) (at c.seconds k)) ≡ at column k)
    → c.count ≤ length column → map number (items_in make c) ≡ take c.count column
unfolding items_in
column_back make number c column is l = map-listed number c.count _ ∙ listed_same c.count _ _ is ∙ listed-take c.count column l

module _ {p : ByValue} (u : UsablePlan p) (table spare : List ℕ) where
  -- the call on the plan's numbers
  abbrev pub call_by : Call
  call_by =
      call_on p.mode p.minutes p.allowance (take p.engines.count p.engines.firsts) (take p.engines.count p.engines.seconds)
      (take p.deliveries.count p.deliveries.firsts) (take p.deliveries.count p.deliveries.seconds) (numbers_in p.spans p.quiet) table spare

  -- by the numbers of its quiet spans
  pub call-numbers : (quiet : List ℕ) → quiet ≡ numbers_in p.spans p.quiet → call_on p.mode p.minutes p.allowance
      (take p.engines.count p.engines.firsts) (take p.engines.count p.engines.seconds)
      (take p.deliveries.count p.deliveries.firsts) (take p.deliveries.count p.deliveries.seconds) quiet table spare ≡ call_by
  call-numbers quiet e = rw e refl

  watts-back : map (λ (i : NamedEngine). i.watts) (plan_by p).engines ≡ take p.engines.count p.engines.firsts
  watts-back = column_back engine_of _ p.engines p.engines.firsts (λ k l. refl) (omega (arith, u.engines.room, u.engines.firsts))

  fuels-back : map (λ (i : NamedEngine). i.fuel) (plan_by p).engines ≡ take p.engines.count p.engines.seconds
  fuels-back = column_back engine_of _ p.engines p.engines.seconds (λ k l. refl) (omega (arith, u.engines.room, u.engines.seconds))

  call-plan : plan_of call_by ≡ unnamed (plan_by p)
  unfolding plan_of deliveries_of unnamed
  call-plan =
      ap₂ (λ es ds. record { mode = p.mode; minutes = p.minutes; allowance = p.allowance; engines = es; deliveries = ds })
      (ap₂ (λ ws fs. engines_of ws fs (quiet_in p.spans p.quiet)) (sym watts-back) (sym fuels-back))
      (unnamed_items delivery_of (λ (i : NamedDelivery). i.delivery) _ (λ t a b. refl) p.deliveries u.deliveries)

  column_lengths : (length (take p.engines.count p.engines.firsts) ≡ p.engines.count)
      × (length (take p.engines.count p.engines.seconds) ≡ p.engines.count)
      × (length (take p.deliveries.count p.deliveries.firsts) ≡ p.deliveries.count)
      × (length (take p.deliveries.count p.deliveries.seconds) ≡ p.deliveries.count)
  column_lengths = (
    length-take-le p.engines.count p.engines.firsts (omega (arith, u.engines.room, u.engines.firsts)),
    length-take-le p.engines.count p.engines.seconds (omega (arith, u.engines.room, u.engines.seconds)),
    length-take-le p.deliveries.count p.deliveries.firsts (omega (arith, u.deliveries.room, u.deliveries.firsts)),
    length-take-le p.deliveries.count p.deliveries.seconds (omega (arith, u.deliveries.room, u.deliveries.seconds)),
  )

  quiet-length : length (numbers_in p.spans p.quiet) ≡ 3 * p.spans
  quiet-length = length-numbers p.spans p.quiet u.quiet.threes (omega (arith, u.quiet.room, u.quiet.whole))

  module _ (cells : length table ≡ p.deliveries.count * p.engines.count) (count : length spare ≡ p.engines.count) where
    call-accepted : Accepted call_by
    call-accepted =
        record {
          engine_lists = column_lengths.0 ∙ sym column_lengths.1;
          delivery_lists = column_lengths.2 ∙ sym column_lengths.3;
          quiet_threes = omega (arith, quiet-length);
          quiet_engines = rw column_lengths.0 u.quiet.known;
          in_range = rw call-plan u.in_range;
          table = rw (column_lengths.0, column_lengths.2) cells;
          spare = rw column_lengths.0 count;
        }

    -- it is answered, as the plan is
    pub call-answered : (allocation call_by ≡ Ok (answer_of (planned (unnamed (plan_by p)))))
        × (table_on_exit call_by ≡ table_after (unnamed (plan_by p)) table)
        × (spare_on_exit call_by ≡ spares_after (unnamed (plan_by p)) spare)
    unfolding allocation answered_by table_on_exit spare_on_exit unless_refused
    call-answered =
        let free = (unrefused-iff call_by).1 call-accepted in
        (rw (free, call-plan), rw (free, call-plan), rw (free, call-plan))

    pub plan-answered : {a : Result Answer Refusal} {answer : Answer} {pieces own : List ℕ} → a ≡ allocation call_by → pieces ≡ table_on_exit call_by
        → own ≡ spare_on_exit call_by → a ≡ Ok answer → Answers p answer table spare pieces own
    plan-answered is drawn spared said =
        record {
          usable = u;
          answer = let same : Ok _ ≡ Ok _ = sym said ∙ is ∙ call-answered.0 in cc;
          cells = cells;
          table = drawn ∙ call-answered.1;
          count = count;
          spare = spared ∙ call-answered.2;
        }

-- ---- a plan by value

-- the first names, one by one
names-taken : (n : ℕ) (names : List (List ℕ)) → n ≤ length names → listed n (λ k. get_or names k []) ≡ take n names
unfolding listed
names-taken zero names l = refl
names-taken (suc n) [] l = absurd (omega arith)
names-taken (suc n) (name ∷ names) l = ap (λ (rest : List (List ℕ)). name ∷ rest) (names-taken n names (omega arith))

-- the names in columns are those of the items
item_names : {A : Type 0} (make : List ℕ → ℕ → ℕ → A) (name : A → List ℕ) → ((text : List ℕ) (a b : ℕ) → name (make text a b) ≡ text)
    → {most : ℕ} (c : Items most) → map name (items_in make c) ≡ listed c.count (λ k. get_or c.names k [])
unfolding items_in
item_names make name made c = map-listed name c.count _ ∙ listed_same c.count _ _ (λ k l. made _ _ _)

-- which in whole columns are the first ones
names_held : {most : ℕ} (c : Items most) → Holding c → listed c.count (λ k. get_or c.names k []) ≡ names_in c
names_held c h = names-taken c.count c.names (omega (arith, h.room, h.names))

-- as many names as are counted
pub names-count : {most : ℕ} {c : Items most} → Holding c → length (names_in c) ≡ c.count
names-count {c = c} h = length-take-le c.count c.names (omega (arith, h.room, h.names))

module _ {p : ByValue} (u : UsablePlan p) where
  -- as many engines and deliveries as are counted
  plan-counts : (length (unnamed (plan_by p)).engines ≡ p.engines.count) × (length (unnamed (plan_by p)).deliveries ≡ p.deliveries.count)
  unfolding items_in
  plan-counts = (engine-count (plan_by p) ∙ length-listed p.engines.count _, delivery-count (plan_by p) ∙ length-listed p.deliveries.count _)

  -- of which there is one at least
  pub some-engine : 0 < p.engines.count
  some-engine = omega (arith, u.in_range.engine_count.least, plan-counts.0)

  -- what is found has a cell for every delivery and engine
  found-cells : {tries : ℕ} {table : List ℕ} → (planned (unnamed (plan_by p))).result ≡ found tries table → length table ≡ p.deliveries.count * p.engines.count
  found-cells e =
      let plan = unnamed (plan_by p) in
      rw (plan-counts.0, plan-counts.1) at (plan-length plan (planned plan).minutes u.in_range.deliveries (sym (planned-searched plan).result ∙ e))

-- ---- a plan that is answered

module _ {p : ByValue} {answer : Answer} {own_table own_spare pieces spared : List ℕ} (a : Answers p answer own_table own_spare pieces spared) where
  abbrev plan : Plan
  plan = unnamed (plan_by p)

  -- in tables of its own lengths stands just what is found
  own-table : {tries : ℕ} {table : List ℕ} → (planned plan).result ≡ found tries table → pieces ≡ table
  unfolding table_after table_by
  own-table {table = table} e = a.table ∙ rw e (over-whole table own_table (found-cells a.usable e ∙ sym a.cells))

  own-spare : {tries : ℕ} {table : List ℕ} → (planned plan).result ≡ found tries table → spared ≡ spares plan (planned plan).minutes table
  unfolding spares_after spares_by spares
  own-spare {table = table} e =
      a.spare ∙ rw e (over-whole _ own_spare (length-listed (length plan.engines) _ ∙ (plan-counts a.usable).0 ∙ sym a.count))

  -- and they keep their lengths
  pub own-cells : length pieces ≡ p.deliveries.count * p.engines.count
  unfolding table_after table_by
  own-cells = go (planned plan).result refl
    where
      go : (r : search.Result) → (planned plan).result ≡ r → length pieces ≡ p.deliveries.count * p.engines.count
      go (found tries table) e = ap length (own-table e) ∙ found-cells a.usable e
      go (none tries) e = rw (a.table, e) a.cells
      go (stopped tries) e = rw (a.table, e) a.cells

  -- the lines by names and pieces are those of the plan's print
  lines_are : print_lines answer (names_in p.deliveries) (names_in p.engines) pieces
      ≡ answer_lines (planned plan).minutes (planned plan).result (lines_of (plan_by p) (planned plan).result)
  lines_are =
      rw (
        a.answer,
        ← (item_names delivery_of (λ (i : NamedDelivery). i.name) (λ t a b. refl) p.deliveries ∙ names_held p.deliveries a.usable.deliveries),
        ← (item_names engine_of (λ (i : NamedEngine). i.name) (λ t a b. refl) p.engines ∙ names_held p.engines a.usable.engines),
      )
      (print-by-names (plan_by p) (planned plan) pieces (λ tries table e. own-table e))

  -- so the lines put into an output that holds every print stand at its front
  print-short : length (printed (plan_by p)) ≤ longest_print
  unfolding printed print_of
  print-short = let u = a.usable in print-length (plan_by p) u.engines_named u.deliveries_named u.in_range

  module _ {before after : Output} {result : Result ⊤ WriteError} {lent : List ℕ} (front : before.at ≡ 0) (is : before.bytes.now ≡ lent)
      (room : longest_print ≤ length lent) (put : PutLines (print_lines answer (names_in p.deliveries) (names_in p.engines) pieces) before result after) where
    print-stands : left result after ≡ behind (printed (plan_by p)) lent
    unfolding printed print_of
    print-stands =
        let u = a.usable in
        let writes = print-writable (plan_by p) u.engines_named u.deliveries_named (planned plan) in
        lines-at-front front is writes (omega (arith, print-short)) (rw lines_are at put)

    pub print-fits : result ≡ Ok tt
    print-fits = ap (λ (o : State). o.wrote) print-stands

-- ---- the answer handed over

-- found for the front of a list, it is what is found for all of it
module _ {p : ByValue} {answer : Answer} (table spare : List ℕ) {pieces spared : List ℕ}
    (a : Answers p answer (take (p.deliveries.count * p.engines.count) table) (take p.engines.count spare) pieces spared) where
  table-handed : pieces ++ drop (p.deliveries.count * p.engines.count) table ≡ table_after (unnamed (plan_by p)) table
  unfolding table_after table_by over_front
  table-handed = go (planned (unnamed (plan_by p))).result refl
    where
      go : (r : search.Result) → (planned (unnamed (plan_by p))).result ≡ r → pieces ++ drop (p.deliveries.count * p.engines.count) table ≡ table_by r table
      go (found tries new) e = rw (own-table a e, found-cells a.usable e)
      go (none tries) e = rw (a.table, e) (take-append-drop (p.deliveries.count * p.engines.count) table)
      go (stopped tries) e = rw (a.table, e) (take-append-drop (p.deliveries.count * p.engines.count) table)

  spare-handed : spared ++ drop p.engines.count spare ≡ spares_after (unnamed (plan_by p)) spare
  unfolding spares_after spares_by over_front
  spare-handed = go (planned (unnamed (plan_by p))).result refl
    where
      plan : Plan
      plan = unnamed (plan_by p)

      go : (r : search.Result) → (planned plan).result ≡ r → spared ++ drop p.engines.count spare ≡ spares_by plan (planned plan).minutes r spare
      go (found tries table) e = rw (own-spare a e, length-spares plan (planned plan).minutes table, (plan-counts a.usable).0)
      go (none tries) e = rw (a.spare, e) (take-append-drop p.engines.count spare)
      go (stopped tries) e = rw (a.spare, e) (take-append-drop p.engines.count spare)

  -- with its print, which fits
  pub handed : {n : ℕ} {before after : Output} {result : Result ⊤ WriteError} {lent out : List ℕ} → before.at ≡ 0 → before.bytes.now ≡ lent
      → longest_print ≤ length lent → PutLines (print_lines answer (names_in p.deliveries) (names_in p.engines) pieces) before result after
      → n ≡ after.at → out ≡ after.bytes.now
      → HandedOver (plan_by p) (Ok (answer, n)) (lent_lists table spare lent)
      (lent_lists (pieces ++ drop (p.deliveries.count * p.engines.count) table) (spared ++ drop p.engines.count spare) out)
  unfolding with_space ◌>>=◌ require answer_by on_exit over_front
  handed {lent = lent} front is room put ends holds =
      let stands = print-stands a front is room put in
      let size = ends ∙ ap (λ (o : State). o.at) stands in
      let fits = le-leb (length (printed (plan_by p))) (length lent) (omega (arith, print-short a)) in
      record {
        result = rw (fits, size, a.answer);
        table = rw fits table-handed;
        spare = rw fits spare-handed;
        output = rw fits (holds ∙ ap (λ (o : State). o.bytes) stands);
      }
