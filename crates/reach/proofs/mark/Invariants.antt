-- A source has a link exactly if its index value was met, and then its row, its link and its pairs are right. The words can be turned to any index value: they are those of all
-- that may be open, and then of what is open to the last that was met.
-- Assumes nothing.
use Rattle.reach.specs.Reached.{opens_in, sources_in, rows_in, links_in}
use Rattle.reach.specs.Steps.{Turnable}
use Rattle.reach.proofs.Links.{Met}
use Rattle.reach.proofs.mark.Given as goal

abbrev pub invariant-loop-first : goal.invariant-loop-first
invariant-loop-first l =
    record {
      met : Met (opens_in l.tables) (sources_in l.tables) l.tables.counts.arrays (rows_in l.marks) (links_in l.marks) l.first l.pairs;
      turnable : Turnable l.tables.values l.tables.truths l.tables.edges l.tables.counts.edges l.value l.neighbours;
    }
