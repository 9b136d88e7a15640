-- `lemma::literal::literals_of` meets its contract. The invariant, `Writing`: what stands, with what the rest of the path adds, are the hypotheses.
-- Assumes nothing.
use Rattle.std.proofs.Common.{◌/◌, ◌%◌}
use Rattle.lemma.specs.Steps.{table_in}
use Rattle.lemma.proofs.Listing.{Writing}
use Rattle.lemma.proofs.literal.literals_of.Given as goal

abbrev pub invariant-loop-k : goal.invariant-loop-k
invariant-loop-k l = Writing (table_in l.tables) l.x l.path (l.one / 256 % 256) (l.other / 256 % 256) l.k-index l.literals
