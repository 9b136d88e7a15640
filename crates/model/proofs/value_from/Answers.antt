-- `model::value_from` meets its contract: the first source that holds the cell gives the value, by Holding.
-- Assumes nothing.
use Rattle.std.proofs.Common.{◌≤◌, length, sym, arith}
use Rattle.reach.specs.Reached.{sources_in}
use Rattle.model.proofs.Holding.{source_below, source_row, left_first, left_found}
use Rattle.model.proofs.value_from.Goals as goal

pub loop-source-init : goal.loop-source-init
loop-source-init c = left_first _ _ _

pub returns-then-holds : goal.returns-then-holds
returns-then-holds c =
    let t = c.args.tables.now in
    let k = c.loop-source.source-index in
    let few : t.counts.sources ≤ length t.sources = omega arith in
    let row_is = source_row t few c.loop-source-test.true in
    let holds = sym (rw (c.index_value-value.ensures, c.origin_of.ensures, row_is) at c.if-holds.ensures) in
    rw (c.assigned_value.ensures, row_is)
    (left_found (sources_in t) c.args.row c.args.index k (source_below t few c.loop-source-test.true) holds c.loop-source.invariant)
