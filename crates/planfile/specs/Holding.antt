-- What it is for bytes to hold a plan (document 01, "The file"; document 02, K1), apart from any reader: no order of checks in it.
-- Assumes nothing.
use Rattle.std.specs.Prelude.{◌≡◌, ℕ, suc, ◌<◌, List, [], ◌∷◌, ◌++◌, map, length}
use Rattle.rfc4180.specs.Grammar.{File}
use Rattle.rfc4180.specs.Text.{ascii}
use Rattle.planning.specs.declared.Mode.{Mode}
use Rattle.planning.specs.declared.Mode.TheVariants.{Fixed, Shortest}
use Rattle.planning.specs.Plan.{All, Within, InRange}
use Rattle.planning.specs.Quiet.{Span, Quiet}
use Rattle.planfile.specs.Bounds.{most_bytes, most_name_bytes, least_name_byte, most_name_byte}
use Rattle.planfile.specs.FilePlan.{FilePlan, NamedEngine, NamedDelivery, unnamed, engine_names, delivery_names, name_at}
use Rattle.planfile.specs.Numerals.{Numeral}

-- "MODE is `fixed` or `shortest`."
unfoldable pub mode_word : Mode → List ℕ
mode_word Fixed = ascii "fixed"
mode_word Shortest = ascii "shortest"

-- "`plan,MODE,MINUTES,TRIES` is record 1 and stands only there.": the values of its fields
pub data PlanRecord : List (List ℕ) → Mode → (minutes allowance : ℕ) → Type 0 where
  plan-record : {mode : Mode} {minutes allowance : ℕ} {m t : List ℕ}
      → Numeral m minutes
      → Numeral t allowance
      → PlanRecord (ascii "plan" ∷ mode_word mode ∷ m ∷ t ∷ []) mode minutes allowance

-- the other records, each of "exactly four fields": "`engine,NAME,WATTS,FUEL`", "`delivery,NAME,ENERGY,LIMIT`" and "`quiet,ENGINE,FROM,TO`", "in any
-- mixture", with the engines, the quiet spans and the deliveries among them in file order; each record stands behind those earlier in the file, and
-- a quiet span's engine is one of those
pub data Mixture : List (List (List ℕ)) → List NamedEngine → List Quiet → List NamedDelivery → Type 0 where
  mixture-none : Mixture [] [] [] []
  mixture-engine : {records : List (List (List ℕ))} {engines : List NamedEngine} {quiet : List Quiet} {deliveries : List NamedDelivery} {w f : List ℕ}
      → Mixture records engines quiet deliveries
      → (e : NamedEngine)
      → Numeral w e.watts
      → Numeral f e.fuel
      → Mixture (records ++ (ascii "engine" ∷ e.name ∷ w ∷ f ∷ []) ∷ []) (engines ++ e ∷ []) quiet deliveries
  mixture-quiet : {records : List (List (List ℕ))} {engines : List NamedEngine} {quiet : List Quiet} {deliveries : List NamedDelivery} {f t : List ℕ}
      → Mixture records engines quiet deliveries
      → (i : ℕ)
      → i < length engines
      → (s : Span)
      → Numeral f s.from
      → Numeral t s.to
      → Mixture (records ++ (ascii "quiet" ∷ name_at (map (λ (e : NamedEngine). e.name) engines) i ∷ f ∷ t ∷ []) ∷ [])
      engines (quiet ++ record { engine = suc i; span = s } ∷ []) deliveries
  mixture-delivery : {records : List (List (List ℕ))} {engines : List NamedEngine} {quiet : List Quiet} {deliveries : List NamedDelivery} {e l : List ℕ}
      → Mixture records engines quiet deliveries
      → (d : NamedDelivery)
      → Numeral e d.delivery.energy
      → Numeral l d.delivery.limit
      → Mixture (records ++ (ascii "delivery" ∷ d.name ∷ e ∷ l ∷ []) ∷ []) engines quiet (deliveries ++ d ∷ [])

-- "A name has 1 to 16 bytes, each hex 20 to 7E"
pub record SoundName (name : List ℕ) : Type 0 where
  pub size : Within 1 most_name_bytes (length name)
  pub bytes : All (Within least_name_byte most_name_byte) name

-- "used once": no name stands twice in a list, compared by value
abbrev pub Unlike : List (List ℕ) → Type 0
Unlike [] = Unit {0}
Unlike (name ∷ names) = All (λ other. name ≡ other → ⊥) names × Unlike names

-- the bytes hold the plan f
pub record Holds (bytes : List ℕ) (f : FilePlan) : Type 0 where
  -- not "empty or above 32,768 bytes"
  pub size : Within 1 most_bytes (length bytes)
  -- "Records end in CR LF; the last one may lack it. Quoted fields mean what RFC 4180 says": the values of all fields
  pub first : List (List ℕ)
  pub others : List (List (List ℕ))
  pub file : File bytes (first ∷ others)
  -- the records' contents, each of "exactly four fields"
  pub plan_record : PlanRecord first f.mode f.minutes f.allowance
  pub mixture : Mixture others f.engines f.quiet f.deliveries
  -- names
  pub engines_named : All SoundName (engine_names f)
  pub deliveries_named : All SoundName (delivery_names f)
  pub engines_unlike : Unlike (engine_names f)
  pub deliveries_unlike : Unlike (delivery_names f)
  -- counts and ranges
  pub in_range : InRange (unnamed f)
