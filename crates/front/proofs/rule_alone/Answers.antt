-- `front::rule_alone` meets its contract: no more sources than marks.
-- Assumes nothing.
use Rattle.front.proofs.rule_alone.Goals as goal

pub rule_of-requires-else-tables-le-FEW-clause-room : goal.rule_of-requires-else-tables-le-FEW-clause-room
rule_of-requires-else-tables-le-FEW-clause-room c = c.requires.1
