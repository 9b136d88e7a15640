-- Each case of the answer reports what it is, and the answer is the paper's (Tells).
-- Assumes nothing.
use Rattle.zunidelo.proofs.Tells.{write_tells}
use Rattle.zunidelo.proofs.zunidelo_clauses.Goals as goal

pub returns-in-Err : goal.returns-in-Err
returns-in-Err c = rw c.number.ensures (write_tells _ _ _ _ _ c.in-Err.is c.clauses.ensures)

pub returns-in-Ok : goal.returns-in-Ok
returns-in-Ok c = write_tells _ _ _ _ _ c.in-Ok.is c.clauses.ensures
