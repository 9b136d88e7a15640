-- `lemma::between::literals_between` meets its contract: what its calls take off the two rows is what the rows say, and the path over the rows of
-- edges is the path over the edges that they open; of the literals along it those are left that stay. Assumes nothing.
use Rattle.std.proofs.Common.{ap, ◌∙◌, arith}
use Rattle.paper.specs.Lists.{keep}
use Rattle.lemma.specs.Literals.{literals_for}
use Rattle.lemma.specs.Fixed.{stays_by}
use Rattle.lemma.specs.Between.{path_over}
use Rattle.lemma.proofs.Opened.{path_same}
use Rattle.lemma.proofs.between.literals_between.Goals as goal

pub returns : goal.returns
returns c =
    let path = c.path_between-steps in
    let goal = c.origin_of-goal in
    let from = c.origin_of-from in
    let x = c.index_value-x in
    let args = c.args in
    let t = args.tables.now in
    record {
      same =
          c.leave_out.ensures.same
          ∙ ap (keep (stays_by t.reads))
          (c.literals_of.ensures.same
          ∙ ap (literals_for args.one args.other)
          (path.ensures.walked
          ∙ path_same t.values t.truths t.edges t.counts.edges t.counts.arrays c.requires.lent x.result from.result goal.result
          ∙ (λ i. path_over t.values t.truths t.edges t.counts.edges t.counts.arrays (x.ensures i) (from.ensures i) (goal.ensures i))));
      most = omega (arith, c.leave_out.ensures.most, c.literals_of.ensures.most);
    }
