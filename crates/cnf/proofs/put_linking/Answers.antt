-- The links by rank, one after the other, and 0 are the linking clause.
use native.Mathlib.Omega.{arith}
use mathlib.Core.List.{[], ◌∷◌}
use lib.IntN.{pos}
use Rattle.cnf.proofs.Runs.{begun, further, done, left_as}
use Rattle.cnf.proofs.Whole.{linking_parts, linking_fit}
use Rattle.cnf.proofs.put_linking.Goals as goal

pub put_each-requires : goal.put_each-requires
put_each-requires c = (omega arith, omega (arith, c.requires.1, linking_fit c.args.sizes c.args.literals.now))

pub put_each-requires-2 : goal.put_each-requires-2
put_each-requires-2 c = (omega arith, omega (arith, c.requires.1, linking_fit c.args.sizes c.args.literals.now))

pub put_each-requires-3 : goal.put_each-requires-3
put_each-requires-3 c = (omega arith, omega (arith, c.requires.1, linking_fit c.args.sizes c.args.literals.now))

pub put-requires : goal.put-requires
put-requires c = omega (arith, c.requires.1, linking_fit c.args.sizes c.args.literals.now)

pub returns : goal.returns
returns c =
    let begin = left_as (linking_parts c.args.sizes c.args.literals.now) (begun c.args.run.now _) in
    done (further (pos 0 ∷ []) (further _ (further _ (further _ begin c.put_each.ensures) c.put_each-2.ensures) c.put_each-3.ensures) c.put.ensures)
