-- `Literals::push_once` meets its contract: what the test finds is whether the literal stands there. Assumes nothing.
use Rattle.std.proofs.Common.{◌∙◌}
use Rattle.lemma.proofs.Same.{stands_is}
use Rattle.lemma.proofs.rows.Literals.push_once.Goals as goal

pub returns-then-not-stands : goal.returns-then-not-stands
returns-then-not-stands c = rw (stands_is c.args.literal c.rows.ensures c.contains-stands.ensures.value ∙ c.if-not-stands.true) c.push.ensures

pub returns-else-not-stands : goal.returns-else-not-stands
returns-else-not-stands c = rw (stands_is c.args.literal c.rows.ensures c.contains-stands.ensures.value ∙ c.if-not-stands.false)
