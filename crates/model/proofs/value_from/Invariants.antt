-- `model::value_from` meets its contract: what is left to search answers for all sources, by Holding.
use Rattle.reach.specs.Reached.{sources_in}
use Rattle.model.proofs.Holding.{LeftFrom}
use Rattle.model.proofs.value_from.Given as goal

abbrev pub invariant-loop-source : goal.invariant-loop-source
invariant-loop-source l = LeftFrom (sources_in l.tables) l.row l.index l.source-index
