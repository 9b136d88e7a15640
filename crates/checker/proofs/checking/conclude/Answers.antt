-- `checker::checking::conclude` meets its contract: with no pair consistent, with one its lemma's bytes, or 10 where there is no room for them; each by
-- its law of Writes. Assumes nothing.
use Rattle.std.proofs.Common.{arith, ap}
use Rattle.lemma.specs.Pairs.{found_of}
use Rattle.front.proofs.Facts.{paired}
use Rattle.checker.proofs.Writes.{checks_quiet, checks_short, checks_conflict}
use Rattle.checker.proofs.checking.conclude.Goals as goal

pub returns-in_default : goal.returns-in_default
returns-in_default c = λ bytes known. checks_quiet known (ap found_of c.in_default.is) _

pub pair_literals-requires : goal.pair_literals-requires
pair_literals-requires c = paired c.requires.1 _ (ap found_of c.in-Some.is)

pub returns-then-answer-length : goal.returns-then-answer-length
returns-then-answer-length c = λ bytes known.
    let long = rw c.rows.ensures at c.lemma_length-length.ensures in
    rw c.whole.ensures (checks_short known _ (ap found_of c.in-Some.is) c.pair_literals.ensures _ (omega (arith, c.if-answer-length.true, long)))

pub returns : goal.returns
returns c = λ bytes known.
    let long = rw c.rows.ensures at c.lemma_length-length.ensures in
    let put = rw c.rows-2.ensures at c.put_lemma-length.ensures in
    checks_conflict known _ (ap found_of c.in-Some.is) c.pair_literals.ensures _ _ _ (omega (arith, c.if-answer-length.false, long)) put.0 put.1
