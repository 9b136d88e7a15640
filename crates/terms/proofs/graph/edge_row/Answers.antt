-- `terms::graph::edge_row` meets its contract: the sum is the definition's.
-- Assumes nothing.
use borrow.Author.Rules.{rules}
use Rattle.terms.specs.Tables.{edge_row}
use Rattle.terms.proofs.graph.edge_row.Goals as goal

pub returns : goal.returns
unfolding edge_row
returns c = search rules
