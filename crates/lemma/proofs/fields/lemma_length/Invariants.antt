-- `lemma::fields::lemma_length` meets its contract. The invariant: the total is the length of the bytes of the literals passed.
-- Assumes nothing.
use Rattle.std.proofs.Common.{◌≡◌, ◌*◌, ◌≤◌, length}
use Rattle.lemma.proofs.Spelling.{bytes_to}
use Rattle.lemma.proofs.fields.lemma_length.Given as goal

abbrev pub invariant-loop-literal : goal.invariant-loop-literal
invariant-loop-literal l = record {
  small : l.total ≤ 7 * l.literal-index;
  so_far : l.total ≡ length (bytes_to l.literals l.literal-index);
}
