-- By the laws of `meaning` the numbers follow from the other counts.
use native.Mathlib.Omega.{arith}
use mathlib.Core.Path.{◌≡◌}
use mathlib.Core.Bool.{cond}
use lib.Dec.{eqb}
use borrow.Author.Rules.{rules}
use Rattle.cnf.specs.Parts.{rank_number}
use Rattle.cnf.proofs.Tally.{tally_none, tally_more, totals}
use Rattle.cnf.proofs.counts.Goals as goal

pub loop-literal-init : goal.loop-literal-init
loop-literal-init c = (tally_none c.args.width c.args.literals.now, omega arith, omega arith, omega arith)

pub returns-clause-clauses : goal.returns-clause-clauses
returns-clause-clauses c = (totals c.args.width c.args.literals.now _ _ _ _ c.loop-literal-test.false c.loop-literal.invariant.0).0

pub returns-clause-numbers : goal.returns-clause-numbers
returns-clause-numbers c = (totals c.args.width c.args.literals.now _ _ _ _ c.loop-literal-test.false c.loop-literal.invariant.0).1.1

pub loop-literal-preserved : goal.loop-literal-preserved
loop-literal-preserved c =
    let width = c.args.width in
    let step = c.loop-literal in
    let before = step.invariant in
    let boolean : c.from-booleans.result ≡ cond (eqb (rank_number c.rank_of.result) 0) 1 0 = search rules in (
      tally_more width c.args.literals.now step.clauses step.fresh step.booleans step.literal-index _ _ _ c.loop-literal-test.true before.0
          (c.clause_count-clauses.ensures.0 step.fresh) (c.freshes-fresh.ensures.0 step.fresh) (rw (c.rank_of.ensures width step.fresh) at boolean),
      omega (arith, c.clause_count-clauses.ensures.1),
      omega (arith, c.freshes-fresh.ensures.1),
      search rules,
    )
