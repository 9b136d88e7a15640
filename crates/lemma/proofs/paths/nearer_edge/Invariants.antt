-- The loop of `lemma::paths::nearer_edge`: no row so far leads nearer.
use Rattle.std.proofs.Common.{ℕ, ◌<◌, ◌≡◌, false}
use Rattle.lemma.specs.Steps.{table_in, nearer_by}
use Rattle.lemma.proofs.paths.nearer_edge.Given as goal

abbrev pub invariant-loop-k : goal.invariant-loop-k
invariant-loop-k l = (j : ℕ) → j < l.k → nearer_by (table_in l.tables) l.distances l.x l.a l.goal j ≡ false
