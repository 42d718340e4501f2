-- A plan with its whole answer, as the definitions evaluate it.
-- Assumes nothing.
use Rattle.std.specs.Prelude.{ℕ, List, [], map}
use Rattle.planning.specs.declared.Answer.{Answer}
use Rattle.planning.specs.declared.Mode.{Mode}
use Rattle.planning.specs.Capacity.{capacity, capacities}
use Rattle.planning.specs.Modes.{search_at, planned_at, by_outcome, while_above, bisect, shortest, planned_in, planned, spares, table_by, table_after}
use Rattle.planning.specs.Modes.{spares_by, spares_after, outcome_of, tries_of, answer_of}
use Rattle.planning.specs.Tables.{listed, piece_in, over_front, cell}
use Rattle.planning.specs.Plan.{Plan, Engine, Delivery}
use Rattle.planning.specs.Quiet.{lies, runs, running}
use Rattle.planning.specs.Search.{total, comes_first, bulkier, replaces, with_delivery, bulkiest_of, smaller, smallest_of, smallest, step_by, step_with}
use Rattle.planning.specs.Search.{step_of, can_lay, after_laying, can_cut, after_cutting, drawn, undrawn, straight_fill, with_piece, or_else, permitted}
use Rattle.planning.specs.Search.{permission, one_engine, each_engine, perform, size, search_within, search_from, unless_too_much, searched}
use Rattle.planning.specs.Sum.{sum, sgn, positives}

-- an engine with watts and fuel that is never quiet, a delivery with energy and limit
unfoldable pub engine : ℕ → ℕ → Engine
engine w f = record { watts = w; fuel = f; quiet = [] }

unfoldable pub delivery : ℕ → ℕ → Delivery
delivery e l = record { energy = e; limit = l }

unfoldable pub plan : Mode → (minutes allowance : ℕ) → List Engine → List Delivery → Plan
plan m t a es ds = record { mode = m; minutes = t; allowance = a; engines = es; deliveries = ds }

-- a plan with its answer, and what an empty piece table and an empty spare list then hold: all that found writes
pub record Example : Type 0 where
  pub given : Plan
  pub answer : Answer
  pub table : List ℕ
  pub spare : List ℕ

-- what the definitions make of a plan
unfoldable pub evaluated : Plan → Example
unfolding sum sgn positives lies runs running capacity capacities total comes_first bulkier replaces with_delivery bulkiest_of smaller smallest_of
    smallest step_by step_with step_of can_lay after_laying can_cut after_cutting drawn undrawn straight_fill cell with_piece or_else permitted
    permission one_engine each_engine perform size search_within search_from unless_too_much searched search_at planned_at by_outcome while_above
    bisect shortest planned_in planned listed piece_in spares over_front table_by table_after spares_by spares_after outcome_of tries_of answer_of
evaluated p = record { given = p; answer = answer_of (planned p); table = table_after p []; spare = spares_after p [] }

-- each example of a list is what the definitions make of its plan
unfoldable pub evaluated_all : List Example → List Example
unfolding evaluated
evaluated_all examples = map (λ (e : Example). evaluated e.given) examples
