-- `lines::print_lemma` meets its contract: the bytes left fall with each turn.
use Rattle.std.proofs.Common.{length}
use Rattle.lines.proofs.print_lemma.Given as goal

abbrev pub decreases-loop-literal : goal.decreases-loop-literal
decreases-loop-literal g l = length l.left
