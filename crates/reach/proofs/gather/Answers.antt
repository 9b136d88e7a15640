-- `reach::gather` meets its contract: where the bit of an edge that is put was not there before, no earlier row joins its ends.
-- Assumes nothing.
use Rattle.std.proofs.Common.{sym, ◌∙◌, ap, arith}
use Rattle.std.proofs.lemmas.Bool.{false≢true, eqb-false}
use Rattle.terms.specs.Graph.{may_open, edge_found}
use Rattle.reach.proofs.Words.{no_edges, found_none, lent_inside, lent_row, lent_found, lent_end}
use Rattle.reach.proofs.Turns.{gathered_none, gathered_one}
use Rattle.reach.proofs.gather.Goals as goal
use Rattle.reach.proofs.gather.Goals.{in-Some, in_default, then-stands_in, else-stands_in}

pub loop-row-init : goal.loop-row-init
loop-row-init c = record { adjacent = rw c.requires.1 no_edges; apart = λ none i j a b before below. absurd (omega arith) }

pub offset_bounds-words-edge : goal.offset_bounds-words-edge
offset_bounds-words-edge c =
    let ends = lent_found c.requires.0 c.loop-row-test.true _ _ _ (edge_found c.in-Some.edge) c.in-Some.ensures in
    omega (arith, ends.0)

pub bounds-words-edge : goal.bounds-words-edge
bounds-words-edge c = (lent_found c.requires.0 c.loop-row-test.true _ _ _ (edge_found c.in-Some.edge) c.in-Some.ensures).0

pub stands_in-requires : goal.stands_in-requires
stands_in-requires c = (lent_found c.requires.0 c.loop-row-test.true _ _ _ (edge_found c.in-Some.edge) c.in-Some.ensures).1

pub set_edge-requires : goal.set_edge-requires
set_edge-requires c = lent_found c.requires.0 c.loop-row-test.true _ _ _ (edge_found c.in-Some.edge) c.in-Some.ensures

pub loop-row-preserved : goal.loop-row-preserved
loop-row-preserved c =
    let h = c.loop-row in
    let t = c.args.tables.now in
    let inside = lent_inside c.requires.0 c.loop-row-test.true in
    let row = ap (may_open t.truths) (lent_row c.requires.0 c.loop-row-test.true) in
    elim c.match-may_open.branch [
      | in-Some w ↦
          let put = gathered_one t.truths t.edges h.row-index h.again h.words h.invariant inside (edge_found w.in-Some.edge) (w.in-Some.ensures ∙ row) (lent_found c.requires.0 c.loop-row-test.true _ _ _ (edge_found w.in-Some.edge) w.in-Some.ensures) in
          rw (w.words-is, w.set_edge.ensures)
          (put c.match-may_open.again
          (λ none.
          elim w.if-stands_in.branch [
            | then-stands_in v ↦ absurd (false≢true (sym none ∙ w.again-is ∙ v.again-is))
            | else-stands_in v ↦ (cc, let other = eqb-false _ 1 (sym w.stands_in.ensures ∙ v.if-stands_in.false) in omega (arith, other))
          ]))
      | in_default w ↦ rw (w.words-is, w.again-is) (gathered_none t.truths t.edges h.row-index h.again h.words h.invariant inside (sym (found_none _ w.in_default.not-Some) ∙ c.may_open.ensures ∙ row))
    ]

pub returns : goal.returns
returns c = let ended = lent_end c.requires.0 c.loop-row.auto.row-index-end c.loop-row-test.false in rw ended at c.loop-row.invariant
