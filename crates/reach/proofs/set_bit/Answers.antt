-- `reach::set_bit` meets its contract: no bit is shifted out.
-- Assumes nothing.
use Rattle.std.proofs.Common.{arith}
use Rattle.reach.proofs.Bits.{one_shifted}
use Rattle.reach.proofs.set_bit.Goals as goal
use Rattle.reach.proofs.set_bit.Goals.{then-on, else-on}

pub returns : goal.returns
returns c =
    elim c.if-on.branch [
      | then-on w ↦ rw (w.words-is, w.if-on.true, one_shifted c.args.b (omega arith))
      | else-on w ↦ rw (w.words-is, w.if-on.false, one_shifted c.args.b (omega arith))
    ]
