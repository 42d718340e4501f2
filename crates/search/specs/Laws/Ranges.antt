-- What the ranges of a search give: step A's answer, and what the other steps begin with.
-- Assumes nothing.
use Rattle.std.specs.Prelude.{◌≡◌, refl, ◌⊎◌, List, ℕ, ◌≤◌, ◌<◌, ltb, length, take, sum, zero, suc}
use Rattle.std.proofs.Common.{ap, ◌∙◌, add-one, take_all, inl, inr, lt-ltb, le-ltb, arith}
use Rattle.std.proofs.Math.ListN.{get_or-eq_default}
use Rattle.planning.specs.Bounds.{most_engines, most_fuel}
use Rattle.planning.proofs.Laws.Finite.Decisions.{le-or-lt}
use Rattle.planning.specs.Search.{none, total, up_to, searched, unless_too_much, search_from}
use Rattle.planning.specs.Sum.{sum as sum_of}
use Rattle.planning.specs.Tables.{at, padded}
use Rattle.std.proofs.lemmas.List.Sums.{sum_by_more}
use Rattle.search.specs.declared.cycle.Run.{Run}
use Rattle.search.specs.declared.Task.{Task}
use Rattle.search.specs.Layout.{document, UnderWay}
use Rattle.planning.proofs.Laws.Padded.{length-padded}
use Rattle.search.specs.Laws.Start.{first_state, Begins, first-deliveries, first-engines, first-sized, first-state}
use Rattle.search.specs.Promises.{AllWithin, InSearchRange, deliveries_of, search_of}
use Rattle.search.specs.Sets.{has}

-- the sum of a list as the code computes it
pub total-sum : (xs : List ℕ) → total xs ≡ sum xs
unfolding total sum_of
total-sum xs = front (length xs) (omega arith) ∙ ap sum (take_all (length xs) xs (omega arith))
  where
    front : (i : ℕ) → i ≤ length xs → sum_of i (at xs) ≡ sum (take i xs)
    front zero l = refl
    front (suc i) l = omega (arith, front i (omega arith), rw add-one at (sum_by_more (λ (n : ℕ). n) xs i 0 l))

-- past its end a list has 0, so what its numbers are at most holds everywhere
most_everywhere : (low high : ℕ) (xs : List ℕ) → AllWithin low high xs → (i : ℕ) → at xs i ≤ high
most_everywhere low high xs all i = go (le-or-lt (length xs) i)
  where
    go : (length xs ≤ i) ⊎ (i < length xs) → at xs i ≤ high
    go (inl l) = omega (arith, get_or-eq_default xs 0 l)
    go (inr l) = (all i l).most

module _ {task : Task} {cells : ℕ} (range : InSearchRange task cells) where
  -- step A
  pub too_much : total task.capacities.now < total task.energies.now → search_of task ≡ none 0
  unfolding searched unless_too_much
  too_much l = rw (lt-ltb (total task.capacities.now) (total task.energies.now) l)

  -- the other steps, from the first state
  module _ {amount : List ℕ} (left opened : ℕ) (a : amount ≡ padded most_engines task.capacities.now)
      (lefts : (p : ℕ) → has left p ≡ ltb p (deliveries_of task)) (opens : (i : ℕ) → has opened i ≡ ltb 0 (at task.capacities.now i)) where
    begins : Begins most_engines task.capacities.now task.energies.now task.limits.now left opened
    begins =
        record {
          paired = range.counts.paired;
          engine_count = range.counts.engine_count;
          most = most_everywhere 0 most_fuel task.capacities.now range.capacities;
          energies = range.energies;
          limits = range.limits;
          deliveries = lefts;
          engines = opens;
        }

    -- whatever the allowance
    pub begun : {run : Run} (granted : ℕ)
        → run.task.now ≡ record task { allowance = granted } → length run.table.now ≡ cells → run.tries ≡ 0
        → UnderWay run (first_state most_engines amount left opened)
    begun granted is_task long at_first =
        rw a
        (record {
          kept =
              rw is_task
              (record {
                deliveries = first-deliveries begins;
                engines = first-engines begins;
                lengths =
                    record {
                      amounts = length-padded most_engines task.capacities.now range.counts.engine_count;
                      energies = range.counts.delivery_count;
                      limits = range.counts.paired;
                    };
              });
          sized = rw is_task (first-sized begins);
          room =
              rw (is_task, long)
              (record {
                engine_count = range.counts.engine_count;
                delivery_count = range.counts.delivery_count;
                table = range.counts.table;
              });
          allowed = omega (arith, at_first);
        })

    pub searched-from : total task.energies.now ≤ total task.capacities.now
        → search_of task ≡ search_from (up_to task.allowance) (document task (first_state most_engines amount left opened)) 0
    unfolding searched unless_too_much
    searched-from enough = rw (le-ltb (total task.capacities.now) (total task.energies.now) enough, a, first-state begins)
