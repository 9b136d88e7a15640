-- All that is met is on a way from the origin, all that is marked is met and so are its neighbours, and each is counted. The measure is what is not marked.
-- Assumes nothing.
use Rattle.std.proofs.Common.{◌-◌}
use Rattle.reach.specs.Steps.{marks}
use Rattle.reach.proofs.Spreading.{Frontier}
use Rattle.reach.proofs.spread_from.Given as goal

abbrev pub invariant-loop-row : goal.invariant-loop-row
invariant-loop-row l = Frontier l.neighbours l.origin l.met l.row l.marked

abbrev pub decreases-loop-row : goal.decreases-loop-row
decreases-loop-row l = 48 - marks l.row
