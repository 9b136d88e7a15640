-- The words join what the open edges of the rows so far join.
-- Assumes nothing.
use Rattle.std.proofs.Common.{take}
use Rattle.paper.specs.Lists.{concat_map}
use Rattle.terms.specs.Graph.{open_in}
use Rattle.reach.specs.Steps.{Adjacent}
use Rattle.reach.proofs.adjacency.Given as goal

abbrev pub invariant-loop-row : goal.invariant-loop-row
invariant-loop-row l = Adjacent (concat_map (open_in l.tables.values l.tables.truths l.x) (take l.row-index l.tables.edges)) l.words
