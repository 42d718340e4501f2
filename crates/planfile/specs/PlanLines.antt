-- The file that is written of a plan (document 01, "The file"): its lines by the values of their fields, and its bytes.
-- Assumes nothing.
use Rattle.std.specs.Prelude.{ℕ, ◌-◌, List, [], ◌∷◌, ◌++◌, map}
use Rattle.rfc4180.specs.Text.{ascii}
use Rattle.rfc4180.specs.Writer.{written_file}
use Rattle.planning.specs.Quiet.{Quiet}
use Rattle.planfile.specs.FilePlan.{FilePlan, NamedEngine, NamedDelivery, engine_names, name_at}
use Rattle.planfile.specs.Holding.{mode_word}
use Rattle.planfile.specs.Numerals.{decimal}
use Rattle.planfile.specs.Print.{Line}

-- "`plan,MODE,MINUTES,TRIES` is record 1"
unfoldable pub plan_line : FilePlan → Line
plan_line f = ascii "plan" ∷ mode_word f.mode ∷ decimal f.minutes ∷ decimal f.allowance ∷ []

-- "`engine,NAME,WATTS,FUEL`"
unfoldable pub engine_line : NamedEngine → Line
engine_line e = ascii "engine" ∷ e.name ∷ decimal e.watts ∷ decimal e.fuel ∷ []

-- "`quiet,ENGINE,FROM,TO`" (document 02, K1), ENGINE by its name among these
unfoldable pub quiet_line : (names : List (List ℕ)) → Quiet → Line
quiet_line names q = ascii "quiet" ∷ name_at names (q.engine - 1) ∷ decimal q.span.from ∷ decimal q.span.to ∷ []

-- "`delivery,NAME,ENERGY,LIMIT`"
unfoldable pub delivery_line : NamedDelivery → Line
delivery_line d = ascii "delivery" ∷ d.name ∷ decimal d.delivery.energy ∷ decimal d.delivery.limit ∷ []

-- of the orders that "in any mixture" leaves open: all engines, then all quiet spans, then all deliveries
unfoldable pub item_lines : FilePlan → List Line
unfolding engine_line quiet_line delivery_line
item_lines f = map engine_line f.engines ++ (map (quiet_line (engine_names f)) f.quiet ++ map delivery_line f.deliveries)

-- "Records of exactly four fields, no header line. Records end in CR LF": the last one too
unfoldable pub plan_file : FilePlan → List ℕ
unfolding plan_line item_lines
plan_file f = written_file (plan_line f ∷ item_lines f)
