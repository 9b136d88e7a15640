-- Row by row the words leave the edges of the one index value for those of the other.
-- Assumes nothing.
use Rattle.reach.specs.Steps.{edges_at, may_at, shut_at, Turning}
use Rattle.reach.proofs.turn.Given as goal

abbrev pub invariant-loop-row : goal.invariant-loop-row
invariant-loop-row l =
    Turning (edges_at l.tables.values l.tables.truths l.tables.edges l.x) (may_at l.tables.truths l.tables.edges) (shut_at l.tables.values l.tables.edges l.before) l.tables.counts.edges l.row-index l.words
