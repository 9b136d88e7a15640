-- `Steps::put_level` meets its contract: the lowest that is left is an array term, and is done, by Levels.
-- Assumes nothing.
use Rattle.std.proofs.Common.{◌≡◌, length, arith}
use Rattle.costs.proofs.Levels.{lowest_inside, partly_on}
use Rattle.costs.proofs.Steps.put_level.Goals as goal

pub bounds-row-a : goal.bounds-row-a
bounds-row-a c = lowest_inside c.loop-left.invariant c.loop-left-test.true

pub bounds-self-a : goal.bounds-self-a
bounds-self-a c = lowest_inside c.loop-left.invariant c.loop-left-test.true

pub bounds-self-a-in-loop-left : goal.bounds-self-a-in-loop-left
bounds-self-a-in-loop-left c = lowest_inside c.loop-left.invariant c.loop-left-test.true

pub loop-left-preserved : goal.loop-left-preserved
loop-left-preserved c = let h = c.loop-left in let long : length h.row ≡ 48 = omega arith in partly_on c.loop-left.invariant c.loop-left-test.true long c.requires.narrow
