-- `reach::adjacency` meets its contract: an open row's edge is put, and any other row joins nothing.
-- Assumes nothing.
use Rattle.std.proofs.Common.{sym, ◌∙◌, ap}
use Rattle.terms.specs.Graph.{open_in, edge_found}
use Rattle.reach.proofs.Words.{no_edges, found_none, row_none, row_one, lent_inside, lent_row, lent_found, lent_end}
use Rattle.reach.proofs.adjacency.Goals as goal
use Rattle.reach.proofs.adjacency.Goals.{in-Some, in_default}

pub loop-row-init : goal.loop-row-init
loop-row-init c = rw c.requires.1 no_edges

pub set_edge-requires : goal.set_edge-requires
set_edge-requires c = lent_found c.requires.0 c.loop-row-test.true _ _ _ (edge_found c.in-Some.edge) c.in-Some.ensures

pub loop-row-preserved : goal.loop-row-preserved
loop-row-preserved c =
    let h = c.loop-row in
    let t = c.args.tables.now in
    let f = open_in t.values t.truths c.args.x in
    let inside = lent_inside c.requires.0 c.loop-row-test.true in
    let row = ap f (lent_row c.requires.0 c.loop-row-test.true) in
    elim c.match-open.branch [
      | in-Some w ↦
          rw (w.words-is, w.set_edge.ensures)
          (row_one f t.edges h.row-index h.words h.invariant inside (edge_found w.in-Some.edge) (w.in-Some.ensures ∙ row) (lent_found c.requires.0 c.loop-row-test.true _ _ _ (edge_found w.in-Some.edge) w.in-Some.ensures))
      | in_default w ↦ rw w.words-is (row_none f t.edges h.row-index h.words h.invariant inside (sym (found_none _ w.in_default.not-Some) ∙ c.open.ensures ∙ row))
    ]

pub returns : goal.returns
returns c = let ended = lent_end c.requires.0 c.loop-row.auto.row-index-end c.loop-row-test.false in rw ended at c.loop-row.invariant
