-- `checker::listing::list` meets its contract: the cells passed are copied over the first places of both runs.
use Rattle.checker.proofs.Copies.{Copied}
use Rattle.checker.proofs.listing.list.Given as goal

abbrev pub invariant-loop-k : goal.invariant-loop-k
invariant-loop-k l = record {
  indices : Copied (λ cell. cell.index) l.initial.indices l.cells l.indices l.k;
  contents : Copied (λ cell. cell.value) l.initial.contents l.cells l.contents l.k;
}
