-- Each turn stores one bit's d.
use mathlib.Core.List.{[], ◌∷◌}
use mathlib.Core.Path.{ap}
use lib.IntN.{ℤ}
use Rattle.cnf.proofs.Runs.{further, wrote_as, left_as}
use Rattle.cnf.proofs.Pieces.{as_it_is, differences_step}
use Rattle.cnf.proofs.placed.Placed.put_differences.Goals as goal

pub loop-k-preserved : goal.loop-k-preserved
loop-k-preserved c =
    further _ (left_as (differences_step c.args.sizes c.args.self.fresh c.loop-k.k c.loop-k-test.true) c.loop-k.invariant)
    (wrote_as (ap (λ (x : ℤ). x ∷ []) (as_it_is _ c.fresh_variable.ensures)) c.put.ensures)
