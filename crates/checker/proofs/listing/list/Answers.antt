-- `checker::listing::list` meets its contract: 12, 11, 10 of either run, then the cells, each by its law of Looks.
-- Assumes nothing.
use Rattle.std.proofs.Common.{◌≡◌, ◌≤◌, length, ap, arith}
use Rattle.reach.proofs.Paper.{within}
use Rattle.lemma.specs.Pairs.{found_of}
use Rattle.checker.proofs.Looks.{lists_clash, lists_nowhere, lists_short, lists_cells}
use Rattle.checker.proofs.Copies.{copied_more, copied_all}
use Rattle.checker.proofs.listing.list.Goals as goal

pub returns-in-Some : goal.returns-in-Some
returns-in-Some c = λ bytes known. rw c.whole.ensures (lists_clash known _ _ _ _ (ap found_of c.in-Some.is))

pub returns-then-tables-array : goal.returns-then-tables-array
returns-then-tables-array c = λ bytes known. rw c.whole-then-tables-array.ensures (lists_nowhere known _ _ _ (ap found_of c.in_default.is) c.if-tables-array.true)

pub list_cells-requires-clause-within : goal.list_cells-requires-clause-within
list_cells-requires-clause-within c = let known = c.requires.1 in within known.holds known.graph

pub returns-then-indices-cells : goal.returns-then-indices-cells
returns-then-indices-cells c = λ bytes known.
    rw c.whole-then-indices-cells.ensures
    (lists_short known _ _ _ (ap found_of c.in_default.is) c.if-tables-array.false _ (rw c.as_slice-cells.ensures c.list_cells.ensures) c.then-indices-cells.either)

pub loop-k-preserved : goal.loop-k-preserved
loop-k-preserved c =
    let indices_room : length c.as_slice-cells.result.now ≤ length c.args.indices.now = omega (arith, c.if-indices-cells.false) in
    let contents_room : length c.as_slice-cells.result.now ≤ length c.args.contents.now = omega (arith, c.if-contents-cells.false) in
    record {
      indices = copied_more _ _ _ c.loop-k.invariant.indices c.loop-k-test.true indices_room _;
      contents = copied_more _ _ _ c.loop-k.invariant.contents c.loop-k-test.true contents_room _;
    }

pub returns : goal.returns
returns c = λ bytes known.
    let all : c.loop-k.k ≡ length c.as_slice-cells.result.now = omega arith in
    lists_cells known _ _ _ (ap found_of c.in_default.is) c.if-tables-array.false _ (rw c.as_slice-cells.ensures c.list_cells.ensures) _ _ c.if-indices-cells.false c.if-contents-cells.false
    (copied_all _ _ _ c.loop-k.invariant.indices all)
    (copied_all _ _ _ c.loop-k.invariant.contents all)
