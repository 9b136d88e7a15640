-- `lemma::fixed::leave_out` meets its contract: the closure is the paper's test of what stays, row by row. Assumes nothing.
use Rattle.std.proofs.Common.{rules}
use Rattle.lemma.proofs.Left.{row_stays, rows_kept}
use Rattle.lemma.proofs.fixed.leave_out.Goals as goal

pub returns : goal.returns
returns c =
    let reads = c.args.tables.now.reads in
    rw (c.retain.ensures (row_stays reads) (λ row b called. search rules)) (rows_kept reads c.args.literals.now)
