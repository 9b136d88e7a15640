-- `Tables::open` meets its contract: a row that is shut joins nothing, and any other what it may.
-- Assumes nothing.
use Rattle.std.proofs.Common.{sym, ◌∙◌}
use Rattle.terms.proofs.Ways.{shut_none, may_open_lem}
use Rattle.terms.proofs.Tables.open.Goals as goal

pub returns-then-shuts : goal.returns-then-shuts
returns-then-shuts c = sym (shut_none _ _ _ _ (sym c.shuts.ensures ∙ c.if-shuts.true))

pub returns : goal.returns
returns c = c.may_open.ensures ∙ sym (may_open_lem _ _ _ _ (sym c.shuts.ensures ∙ c.if-shuts.false))
