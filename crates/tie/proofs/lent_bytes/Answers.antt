-- An element of a slice of bytes is below 256, wherever it stands.
-- Assumes nothing.
use Rattle.meaning.proofs.Built.{are_bytes}
use Rattle.tie.proofs.lent_bytes.Goals as goal

pub returns : goal.returns
returns c = (are_bytes _ (λ i. (c.type_inv.query i).fits), c.many.ensures)
