-- The words join what the rows so far may join, and where no bit was found that was there before, no two of these join the same.
-- Assumes nothing.
use Rattle.reach.specs.Steps.{Gathered}
use Rattle.reach.proofs.gather.Given as goal

abbrev pub invariant-loop-row : goal.invariant-loop-row
invariant-loop-row l = Gathered l.tables.truths l.tables.edges l.row-index l.words l.again
