-- `Tables::shuts` meets its contract, test by test.
-- Assumes nothing.
use Rattle.std.proofs.Common.{sym, ◌∙◌}
use borrow.Author.Tests.{eq-eqb, ne_eqb}
use Rattle.terms.specs.Graph.{shut_to}
use Rattle.terms.proofs.Tables.shuts.Goals as goal

pub returns-then-opener_of-eq-DIFFERS : goal.returns-then-opener_of-eq-DIFFERS
unfolding shut_to
returns-then-opener_of-eq-DIFFERS c = rw (eq-eqb _ 0 (sym c.opener_of.ensures ∙ c.if-opener_of-eq-DIFFERS.true), c.number_of-number.ensures)

pub returns-else-opener_of-eq-DIFFERS : goal.returns-else-opener_of-eq-DIFFERS
unfolding shut_to
returns-else-opener_of-eq-DIFFERS c = let other = rw c.opener_of.ensures at c.if-opener_of-eq-DIFFERS.false in rw (c.opener_of.ensures, ne_eqb _ 0 other)
