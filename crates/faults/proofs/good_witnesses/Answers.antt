-- `faults::good_witnesses` meets its contract: the three tests of the two reads are the paper's.
-- Assumes nothing.
use Rattle.std.proofs.Common.{refl}
use Rattle.faults.proofs.good_witnesses.Goals as goal

pub returns : goal.returns
returns c = refl
