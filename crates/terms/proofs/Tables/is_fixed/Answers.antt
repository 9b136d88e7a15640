-- `Tables::is_fixed` meets its contract: what stands for the read of a base term is the mark of a fixed number.
-- Assumes nothing.
use Rattle.std.proofs.Common.{refl}
use Rattle.terms.proofs.Tables.is_fixed.Goals as goal

pub returns : goal.returns
returns c = refl
