-- `Tables::put` meets its contract: a write puts the row of its source and of its edge, and a conditional that of its edges.
-- Assumes nothing.
use Rattle.terms.proofs.Tables.put.Goals as goal

pub returns-in-Write : goal.returns-in-Write
returns-in-Write c = rw (c.in-Write.is, c.put_edge.ensures, c.put_source.ensures, c.edge_row.ensures, c.source_row.ensures)

pub returns-in-Conditional : goal.returns-in-Conditional
returns-in-Conditional c = rw (c.in-Conditional.is, c.put_edge-in-Conditional.ensures, c.edge_row-in-Conditional.ensures)
