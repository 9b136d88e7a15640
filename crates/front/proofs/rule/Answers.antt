-- `front::rule` meets its contract: what is marked can be searched, and the two answers are the ruling.
-- Assumes nothing.
use Rattle.front.proofs.Lending.{searchable}
use Rattle.front.proofs.rule.Goals as goal

pub first_pair-found-requires : goal.first_pair-found-requires
first_pair-found-requires c = searchable c.args.marks.now c.mark-pairs.new.marks c.requires c.mark-pairs.ensures c.mark-pairs.auto.marks

pub returns : goal.returns
returns c =
    let marked = c.mark-pairs.ensures in
    record { words = _; rows = marked.rows; pairs = marked.pairs; found = c.first_pair-found.ensures }
