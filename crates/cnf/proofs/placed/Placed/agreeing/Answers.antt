-- The numbers are those of the variables.
use Rattle.cnf.proofs.Pieces.{as_it_is, reversed}
use Rattle.cnf.proofs.placed.Placed.agreeing.Goals as goal

pub returns : goal.returns
returns c =
    let v = as_it_is _ c.variable-v.ensures in
    let w = as_it_is _ c.variable-w.ensures in
    let not_v = reversed _ c.variable-v.ensures in
    let not_w = reversed _ c.variable-w.ensures in
    let not_e = reversed _ c.fresh_variable-e.ensures in
    cc
