-- The loops of `lemma::pairs::first_pair`: while source s is tried, all before t conflict with it in nothing, as the links pass over only
-- sources of another index value. A source that is marked conflicts with none, or is like s, which is the same once s has been tried.
use Rattle.std.proofs.Common.{◌-◌}
use Rattle.reach.specs.Reached.{sources_in, rows_in}
use Rattle.lemma.proofs.Pairing.{Searching, Trying}
use Rattle.lemma.proofs.pairs.first_pair.Given as goal

abbrev pub invariant-loop-s : goal.invariant-loop-s
invariant-loop-s l = Searching (sources_in l.tables) (rows_in l.marks) l.clear l.s

abbrev pub invariant-loop-t : goal.invariant-loop-t
invariant-loop-t l = Trying (sources_in l.tables) (rows_in l.marks) l.clear l.s l.t

abbrev pub decreases-loop-t : goal.decreases-loop-t
decreases-loop-t l = l.count - l.t
