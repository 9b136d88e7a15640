-- `reach::share_or_spread` meets its contract: the bit tested is the origin's in the last row.
-- Assumes nothing.
use Rattle.std.proofs.Common.{inl, inr, refl, sym, ◌∙◌}
use borrow.Author.Tests.{eqb-true}
use Rattle.reach.proofs.share_or_spread.Goals as goal

pub returns-then-stands_in : goal.returns-then-stands_in
returns-then-stands_in c = inl (eqb-true _ 1 (sym c.stands_in.ensures ∙ c.if-stands_in.true), refl)

pub returns-else-stands_in : goal.returns-else-stands_in
returns-else-stands_in c = inr c.spread_from.ensures
