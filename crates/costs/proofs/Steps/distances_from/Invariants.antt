-- `Steps::distances_from` meets its contract: at each turn what is seen is settled at its least distance, and what lies beyond is ahead or
-- waits. Each turn puts a level or takes one that waits, and there are at most 48 of each; the measure is what is left of both.
use Rattle.std.proofs.Common.{◌+◌, ◌-◌}
use Rattle.costs.proofs.Settling.{Searching}
use Rattle.costs.proofs.Steps.distances_from.Given as goal

abbrev pub invariant-loop-taken : goal.invariant-loop-taken
invariant-loop-taken l =
    Searching l.self.cheap l.self.writes l.origin l.row l.waiting.levels l.waiting.distances l.seen l.ahead l.distance l.put l.taken

abbrev pub decreases-loop-taken : goal.decreases-loop-taken
decreases-loop-taken l = 96 - (l.put + l.taken)
