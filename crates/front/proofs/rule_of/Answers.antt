-- `front::rule_of` meets its contract: marks and notes that were just made can be ruled on.
-- Assumes nothing.
use Rattle.std.proofs.Common.{arith}
use Rattle.front.proofs.Lending.{unruled}
use Rattle.front.proofs.rule_of.Goals as goal

pub whole_as_slice-rule : goal.whole_as_slice-rule
whole_as_slice-rule g c = omega (arith, c.requires.size)

pub rule-requires : goal.rule-requires
rule-requires g c = unruled c.requires.within _ c.requires.room
