-- `reach::turn_row` meets its contract, test by test: only a write's row is shut, and its ends are array terms.
-- Assumes nothing.
use Rattle.std.proofs.Common.{[], sym, ◌∙◌}
use Rattle.terms.proofs.Ways.{shut_write}
use Rattle.reach.proofs.Turns.{write_ends}
use Rattle.reach.proofs.turn_row.Goals as goal

pub set_edge-requires : goal.set_edge-requires
set_edge-requires c =
    rw (c.left_of-left.ensures, c.right_of-right.ensures)
    (write_ends c.args.row c.requires (shut_write c.args.tables.now.values [] _ c.args.x (sym c.shuts.ensures ∙ c.if-shuts.true)))

pub set_edge-requires-then-shuts-2 : goal.set_edge-requires-then-shuts-2
set_edge-requires-then-shuts-2 c =
    rw (c.left_of-left.ensures, c.right_of-right.ensures)
    (write_ends c.args.row c.requires (shut_write c.args.tables.now.values [] _ c.args.before (sym c.shuts-else-shuts.ensures ∙ c.if-shuts-2.true)))

pub returns-then-shuts : goal.returns-then-shuts
returns-then-shuts c = rw (sym c.shuts.ensures ∙ c.if-shuts.true, ← c.left_of-left.ensures, ← c.right_of-right.ensures) c.set_edge.ensures
