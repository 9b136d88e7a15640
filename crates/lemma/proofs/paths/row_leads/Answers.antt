-- `lemma::paths::row_leads` meets its contract: a row that cannot join the array term does not lead nearer.
-- Assumes nothing.
use mathlib.Core.Path.{sym, ◌∙◌}
use Rattle.lemma.proofs.Nearer.{row_off}
use Rattle.lemma.proofs.paths.row_leads.Goals as goal

pub returns-then-not-touches : goal.returns-then-not-touches
returns-then-not-touches c = sym (row_off _ _ _ _ _ _ _ (sym c.touches.ensures ∙ c.if-not-touches.true))
