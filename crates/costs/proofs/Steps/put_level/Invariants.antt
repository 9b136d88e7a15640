-- `Steps::put_level` meets its contract: what is done of the level has the entry, and what lies beyond it is met. The measure is what is left.
use Rattle.costs.proofs.Levels.{Partly}
use Rattle.costs.proofs.Steps.put_level.Given as goal

abbrev pub invariant-loop-left : goal.invariant-loop-left
invariant-loop-left l = Partly l.self.cheap l.self.writes l.level l.left l.entry l.initial.row l.row l.beyond.cheap l.beyond.written

abbrev pub decreases-loop-left : goal.decreases-loop-left
decreases-loop-left l = l.left
