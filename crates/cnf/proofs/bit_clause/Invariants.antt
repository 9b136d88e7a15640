-- Clause n is clause `left` of those of the literals that are left.
use Prim.Native.Nat.{◌*◌, ◌≤◌}
use Rattle.cnf.proofs.Nth.{Sought}
use Rattle.cnf.proofs.bit_clause.Given as goal

abbrev pub invariant-loop-literal : goal.invariant-loop-literal
invariant-loop-literal l = Sought l.sizes.width l.literals l.n l.fresh l.literal-index l.left × (l.fresh ≤ 64 * l.literal-index)
