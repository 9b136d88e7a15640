-- `costs::put_distances` meets its contract: the rows up to the loop's have the distances from their array terms, and the others are those
-- that were lent.
use Rattle.std.proofs.Common.{◌≡◌, ◌<◌, ◌≤◌, ℕ, length, [], slice_index_or}
use Rattle.costs.specs.Levels.{DistancesFrom}
use Rattle.costs.proofs.put_distances.Given as goal

abbrev pub invariant-loop-a : goal.invariant-loop-a
invariant-loop-a l = record {
  long : length l.table ≡ 48;
  made : (j : ℕ) → j < l.a → DistancesFrom l.steps.cheap l.steps.writes j (slice_index_or l.table j []);
  rest : (j : ℕ) → l.a ≤ j → slice_index_or l.table j [] ≡ slice_index_or l.initial.table j [];
}
