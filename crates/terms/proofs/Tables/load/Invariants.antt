-- `Tables::load` at the head of its loop: the tables hold a query, and what is left of the bytes, loaded after it, is what the whole comes to.
-- Assumes nothing.
use Rattle.std.proofs.Common.{length, ◌-◌}
use Rattle.terms.proofs.Turn.{Head}
use Rattle.terms.proofs.Tables.load.Given as goal

abbrev pub invariant-loop-field : goal.invariant-loop-field
invariant-loop-field l = Head l.query l.self l.at

abbrev pub decreases-loop-field : goal.decreases-loop-field
decreases-loop-field l = length l.query - l.at
