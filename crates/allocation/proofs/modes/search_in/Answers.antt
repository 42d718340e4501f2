-- The task that is searched is the plan's: it is in range, and its search is the plan's (specs/Laws/Searches).
use Rattle.std.proofs.Common.{refl}
use Rattle.allocation.specs.Laws.Searches.{search-begins, search_ends}
use Rattle.allocation.proofs.modes.search_in.Goals as goal

pub unwrap-requires : goal.unwrap-requires
unwrap-requires c =
    search-begins c.requires.usable _ c.capacities-capacities.ensures _ c.requires.cells
    (record { capacities = refl; energies = refl; limits = refl; allowance = refl }) c.search.ensures

pub returns : goal.returns
returns c =
    search_ends c.requires.usable _ c.capacities-capacities.ensures _ c.requires.cells
    (record { capacities = refl; energies = refl; limits = refl; allowance = refl }) c.search.ensures c.unwrap.ensures
