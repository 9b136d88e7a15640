-- `model::cells::list_cells` meets its contract: a source reaches the array term exactly if its origin stands in the row of what the array term
-- reaches, and its cell is placed then.
-- Assumes nothing.
use Rattle.std.proofs.Common.{◌≤◌, length, sym, ◌∙◌, arith}
use Rattle.reach.specs.Reached.{opens_in, sources_in}
use Rattle.reach.proofs.Words.{lent_ends}
use Rattle.model.proofs.Holding.{source_below, source_row, listed_by}
use Rattle.model.proofs.Gathering.{gathered_none, gathered_past, gathered_next}
use Rattle.model.proofs.cells.list_cells.Goals as goal
use Rattle.model.proofs.cells.list_cells.Goals.{then-stands_in, else-stands_in}

pub loop-source-init : goal.loop-source-init
loop-source-init c = rw c.clear.ensures (gathered_none _ _ _ _)

pub loop-source-preserved : goal.loop-source-preserved
loop-source-preserved c =
    let t = c.args.tables.now in
    let k = c.loop-source.source-index in
    let few : t.counts.sources ≤ length t.sources = omega arith in
    let row_is = source_row t few c.loop-source-test.true in
    let below = source_below t few c.loop-source-test.true in
    let within = c.requires.within in
    let index_is = rw row_is at c.index_value-index.ensures in
    let origin_is = rw row_is at c.origin_of.ensures in
    let listed = listed_by (opens_in t) (sources_in t) t.counts.arrays c.args.array k (lent_ends within.lent t.values t.truths) c.requires.inside (within.origin k below) _ index_is origin_is c.reached_from-row.ensures in
    elim c.if-stands_in.branch [
      | then-stands_in w ↦
          rw w.cells-is (gathered_next c.loop-source.invariant below (listed ∙ sym c.stands_in.ensures ∙ w.if-stands_in.true) (rw (index_is, w.assigned_value.ensures, row_is) at w.place.ensures))
      | else-stands_in w ↦
          rw w.cells-is (gathered_past c.loop-source.invariant below (listed ∙ sym c.stands_in.ensures ∙ w.if-stands_in.false))
    ]
