-- Each turn stores the part of one literal.
use native.Mathlib.Omega.{arith}
use Rattle.cnf.proofs.Runs.{further, left_as}
use Rattle.cnf.proofs.Whole.{parts_step}
use Rattle.cnf.proofs.put_each.Goals as goal

pub loop-literal-preserved : goal.loop-literal-preserved
loop-literal-preserved c =
    let sizes = c.args.sizes in
    let fresh = c.loop-literal.fresh in
    let left = left_as (parts_step sizes c.args.part fresh c.args.literals.now c.loop-literal.literal-index c.loop-literal-test.true) c.loop-literal.invariant.0 in
    (rw (c.freshes-fresh.ensures.0 fresh) (further _ left c.put_part.ensures), omega arith)
