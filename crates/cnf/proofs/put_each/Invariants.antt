-- To store that part of the literals that are left, with the fresh variables counted so far, is to store it of all; and no literal has more
-- than 64 fresh variables.
use Prim.Native.Nat.{◌*◌, ◌≤◌}
use lib.ListN.{drop}
use Rattle.cnf.specs.Parts.{all_of}
use Rattle.cnf.proofs.Runs.{Left}
use Rattle.cnf.proofs.Whole.{parts_from}
use Rattle.cnf.proofs.put_each.Given as goal

abbrev pub invariant-loop-literal : goal.invariant-loop-literal
invariant-loop-literal l =
    Left l.initial.run (all_of l.sizes l.fn.part l.literals) l.run (parts_from l.sizes l.fn.part l.fresh (drop l.literal-index l.literals))
    × (l.fresh ≤ 64 * l.literal-index)
