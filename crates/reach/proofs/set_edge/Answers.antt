-- `reach::set_edge` meets its contract: it sets one bit, and then the other.
-- Assumes nothing.
use Prim.Native.Nat.{ℕ}
use mathlib.Core.List.{List}
use mathlib.Core.Path.{ap, ◌∙◌}
use Rattle.reach.specs.Steps.{bit_set}
use Rattle.reach.proofs.set_edge.Goals as goal

pub returns : goal.returns
returns c =
    c.set_bit-2.ensures ∙ ap (λ (l : List ℕ). bit_set c.args.on l c.args.right c.args.left) c.set_bit.ensures
