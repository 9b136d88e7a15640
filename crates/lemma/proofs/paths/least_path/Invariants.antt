-- The loop of `lemma::paths::least_path`: the edges walked so far, with the path from where we are, are the whole path, and so there are fewer
-- than there are array terms.
use Rattle.std.proofs.Common.{◌-◌}
use Rattle.lemma.specs.Steps.{table_in}
use Rattle.lemma.proofs.Stepping.{Walking}
use Rattle.lemma.proofs.paths.least_path.Given as goal

abbrev pub invariant-loop-a : goal.invariant-loop-a
invariant-loop-a l = Walking (table_in l.tables) l.x l.tables.counts.arrays l.goal l.from l.a l.steps l.path

abbrev pub decreases-loop-a : goal.decreases-loop-a
decreases-loop-a l = l.tables.counts.arrays - l.steps
