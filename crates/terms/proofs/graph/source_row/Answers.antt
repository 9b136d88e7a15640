-- `terms::graph::source_row` meets its contract: the sum is the definition's.
-- Assumes nothing.
use borrow.Author.Rules.{rules}
use Rattle.terms.specs.Tables.{source_row}
use Rattle.terms.proofs.graph.source_row.Goals as goal

pub returns : goal.returns
unfolding source_row
returns c = search rules
