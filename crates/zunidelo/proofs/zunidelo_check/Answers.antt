-- Each case of the answer reports what it is, and the answer is the paper's (Tells).
-- Assumes nothing.
use Rattle.std.proofs.Common.{Ok, ap, ◌∙◌}
use Rattle.zunidelo.proofs.Tells.{check_tells}
use Rattle.zunidelo.proofs.zunidelo_check.Goals as goal

pub returns-in-Err : goal.returns-in-Err
returns-in-Err c = rw c.number.ensures (check_tells _ _ _ _ _ c.in-Err.is c.check.ensures)

pub returns-in-Ok-Consistent : goal.returns-in-Ok-Consistent
returns-in-Ok-Consistent c = check_tells _ _ _ _ _ (c.in-Ok-Consistent.is ∙ ap Ok c.in-Ok-Consistent.field-0-is) c.check.ensures

pub returns-in-Ok-Conflict : goal.returns-in-Ok-Conflict
returns-in-Ok-Conflict c = check_tells _ _ _ _ _ (c.in-Ok-Conflict.is ∙ ap Ok c.in-Ok-Conflict.field-0-is) c.check.ensures
