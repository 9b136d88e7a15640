-- `Steps::sort_edges` meets its contract: after k rows the words join what the open edges of the first k rows join, writes and others apart.
use Rattle.std.proofs.Common.{take}
use Rattle.paper.specs.Lists.{concat_map}
use Rattle.terms.specs.Graph.{open_in}
use Rattle.costs.specs.Levels.{Sorted}
use Rattle.costs.proofs.Steps.sort_edges.Given as goal

abbrev pub invariant-loop-row : goal.invariant-loop-row
invariant-loop-row l =
    Sorted (concat_map (open_in l.tables.values l.tables.truths l.x) (take l.row-index l.tables.edges)) l.self.cheap l.self.writes
