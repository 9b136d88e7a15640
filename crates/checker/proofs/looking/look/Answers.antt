-- `checker::looking::look` meets its contract: 12, then 11 twice, then the value, each by its law of Looks.
-- Assumes nothing.
use Rattle.std.proofs.Common.{ap}
use Rattle.reach.proofs.Paper.{within}
use Rattle.lemma.specs.Pairs.{found_of}
use Rattle.checker.proofs.Looks.{looks_clash, looks_nowhere, looks_past, looks_up}
use Rattle.checker.proofs.looking.look.Goals as goal

pub returns-in-Some : goal.returns-in-Some
returns-in-Some c = λ bytes known. rw c.whole.ensures (looks_clash known _ _ _ (ap found_of c.in-Some.is))

pub returns-then-tables-array : goal.returns-then-tables-array
returns-then-tables-array c = λ bytes known. rw c.whole-then-tables-array.ensures (looks_nowhere known _ _ (ap found_of c.in_default.is) c.if-tables-array.true)

pub returns-then-index-ge-NUMBERS : goal.returns-then-index-ge-NUMBERS
returns-then-index-ge-NUMBERS c = λ bytes known. rw c.whole-then-index-ge-NUMBERS.ensures (looks_past known _ _ (ap found_of c.in_default.is) c.if-tables-array.false c.if-index-ge-NUMBERS.true)

pub value_at-requires-clause-within : goal.value_at-requires-clause-within
value_at-requires-clause-within c = let known = c.requires.1 in within known.holds known.graph

pub returns : goal.returns
returns c = λ bytes known. looks_up known _ _ (ap found_of c.in_default.is) _ c.if-tables-array.false c.if-index-ge-NUMBERS.false c.value_at.ensures
