-- To store the numbers that are left is to store all.
use Prim.Native.Nat.{◌+◌}
use mathlib.Core.Path.{◌≡◌}
use lib.ListN.{drop}
use Rattle.cnf.proofs.Runs.{Left}
use Rattle.cnf.proofs.numbers.Run.put.Given as goal

abbrev pub invariant-loop-number : goal.invariant-loop-number
invariant-loop-number l = Left l.initial.self l.piece l.self (drop l.number-index l.piece) × (l.self.at ≡ l.initial.self.at + l.number-index)
