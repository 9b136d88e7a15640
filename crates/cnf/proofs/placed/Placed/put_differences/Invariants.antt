-- To store the d that are left is to store all.
use Rattle.cnf.specs.Parts.{differences}
use Rattle.cnf.proofs.Runs.{Left}
use Rattle.cnf.proofs.Pieces.{differences_from}
use Rattle.cnf.proofs.placed.Placed.put_differences.Given as goal

abbrev pub invariant-loop-k : goal.invariant-loop-k
invariant-loop-k l = Left l.initial.run (differences l.sizes l.self.fresh) l.run (differences_from l.sizes l.self.fresh l.k)
