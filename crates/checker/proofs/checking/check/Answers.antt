-- `checker::checking::check` meets its contract: a refused query by the loader's refusal, an accepted one by what is ruled on its tables.
-- Assumes nothing.
use Rattle.std.proofs.lemmas.Result.{err_from_is_err_and}
use Rattle.front.proofs.Facts.{refused, judged}
use Rattle.checker.proofs.Writes.{check_refused_lem}
use Rattle.checker.proofs.checking.check.Goals as goal

pub returns-in_err-ruling : goal.returns-in_err-ruling
returns-in_err-ruling c =
    let p = err_from_is_err_and c.from_residual.result c.from_residual.ensures.1 in
    rw (p.1, p.2) (check_refused_lem _ _ _ (refused c.judge.ensures c.in_err-ruling.was))

pub conclude-requires : goal.conclude-requires
conclude-requires c = (_, judged c.judge.ensures c.in_ok-ruling.was)

pub returns : goal.returns
returns c = c.conclude.ensures _ (judged c.judge.ensures c.in_ok-ruling.was)
