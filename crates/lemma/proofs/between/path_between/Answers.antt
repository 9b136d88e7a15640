-- `lemma::between::path_between` meets its contract: from the goal itself the path has no step, and from elsewhere it is found by the
-- table of distances. Assumes nothing.
use Rattle.lemma.proofs.Opened.{asked, at_home}
use Rattle.lemma.proofs.between.path_between.Goals as goal

pub returns-then-from-goal : goal.returns-then-from-goal
returns-then-from-goal c =
    let pre = c.requires in
    at_home _ _ _ _ _ pre.lent _ _ _ pre.from_in pre.reached _ pre.room c.if-from-goal.true

pub least_path-requires : goal.least_path-requires
least_path-requires c =
    let pre = c.requires in
    (asked _ _ _ _ _ pre.lent _ _ _ pre.from_in pre.reached _ pre.goal_in c.put_distances.ensures.rows, pre.room)
