-- `terms::read_row` meets its contract: the sum is the definition's.
-- Assumes nothing.
use borrow.Author.Rules.{rules}
use Rattle.terms.specs.Tables.{read_row}
use Rattle.terms.proofs.read_row.Goals as goal

pub returns : goal.returns
unfolding read_row
returns c = search rules
