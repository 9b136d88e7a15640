-- `reach::turn` meets its contract: row by row the words leave the edges of the one index value for those of the other; no row's bits are another's, unless the words are made anew.
-- Assumes nothing.
use Rattle.std.proofs.Common.{arith}
use Rattle.reach.proofs.Words.{lent_given, lent_row, lent_row_ends, lent_end}
use Rattle.reach.proofs.Turns.{turn_row, turn_ended}
use Rattle.reach.proofs.turn.Goals as goal

pub loop-row-init : goal.loop-row-init
loop-row-init c = c.requires.2 c.args.x

pub turn_row-requires : goal.turn_row-requires
turn_row-requires c = lent_row_ends c.requires.0 c.loop-row-test.true

pub loop-row-preserved : goal.loop-row-preserved
loop-row-preserved c =
    let t = c.args.tables.now in
    let h = c.loop-row in
    turn_row t.values t.truths t.edges t.counts.edges c.args.before c.args.x h.row-index c.requires.0 (lent_given c.requires.0 c.loop-row-test.true) (c.requires.1 c.if-again.false)
    h.words _ h.invariant (rw (lent_row c.requires.0 c.loop-row-test.true) at c.turn_row.ensures)

pub returns : goal.returns
returns c =
    let t = c.args.tables.now in
    let ended = lent_end c.requires.0 c.loop-row.auto.row-index-end c.loop-row-test.false in
    turn_ended t.values t.truths t.edges t.counts.edges c.loop-row.words (omega (arith, c.requires.0.few, c.requires.0.long)) c.args.before c.args.x (rw ended at c.loop-row.invariant)
