-- Each case of the answer reports what it is, and the answer is the paper's (Tells).
-- Assumes nothing.
use Rattle.zunidelo.proofs.Tells.{look_tells}
use Rattle.zunidelo.proofs.zunidelo_lookup.Goals as goal

pub returns-in-Err : goal.returns-in-Err
returns-in-Err c = rw c.number.ensures (look_tells _ _ _ c.in-Err.is c.lookup.ensures)

pub returns-in-Ok : goal.returns-in-Ok
returns-in-Ok c = look_tells _ _ _ c.in-Ok.is c.lookup.ensures
