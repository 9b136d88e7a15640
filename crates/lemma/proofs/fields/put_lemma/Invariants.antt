-- `lemma::fields::put_lemma` meets its contract. The invariant: the bytes of the literals passed are stored from the start on, and `at` is their
-- length. Assumes nothing.
use Rattle.std.proofs.Common.{◌≡◌, length}
use Rattle.std.proofs.lemmas.List.Edits.{sets}
use Rattle.lemma.proofs.Spelling.{bytes_to}
use Rattle.lemma.proofs.fields.put_lemma.Given as goal

abbrev pub invariant-loop-literal : goal.invariant-loop-literal
invariant-loop-literal l = record {
  passed : l.at ≡ length (bytes_to l.literals l.literal-index);
  stored : l.answer ≡ sets l.initial.answer 0 (bytes_to l.literals l.literal-index);
}
