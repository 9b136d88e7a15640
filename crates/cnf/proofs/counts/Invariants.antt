-- What was counted, with what is counted of the literals that are left, is the whole.
use Prim.Native.Nat.{◌*◌, ◌≤◌}
use Rattle.cnf.proofs.Tally.{Tallied}
use Rattle.cnf.proofs.counts.Given as goal

abbrev pub invariant-loop-literal : goal.invariant-loop-literal
invariant-loop-literal l =
    Tallied l.width l.literals l.clauses l.fresh l.booleans l.literal-index
    × (l.clauses ≤ 128 * l.literal-index) × (l.fresh ≤ 64 * l.literal-index) × (l.booleans ≤ l.literal-index)
