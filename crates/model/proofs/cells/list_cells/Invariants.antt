-- `model::cells::list_cells` meets its contract: the cells of the sources passed are placed, by Gathering.
use Rattle.reach.specs.Reached.{opens_in, sources_in}
use Rattle.model.proofs.Gathering.{Gathered}
use Rattle.model.proofs.cells.list_cells.Given as goal

abbrev pub invariant-loop-source : goal.invariant-loop-source
invariant-loop-source l = Gathered (opens_in l.tables) (sources_in l.tables) l.tables.counts.arrays l.array l.cells l.source-index
