-- The clause is one of the literal's own, or stands further on, or is the linking clause.
use Prim.Native.Nat.{◌/◌, ◌%◌}
use native.Mathlib.Omega.{arith}
use mathlib.Core.List.{List, []}
use mathlib.Core.Path.{ap, ◌∙◌}
use lib.IntN.{ℤ}
use lib.ListN.{get_or}
use Rattle.lemma.specs.declared.rows.Literal.TheVariants.{Equal}
use Rattle.cnf.proofs.Pieces.{side_at}
use Rattle.cnf.proofs.Nth.{own_clause, sought_first, sought_later, clause_here, clause_last}
use Rattle.cnf.proofs.bit_clause.Goals as goal

pub loop-literal-init : goal.loop-literal-init
loop-literal-init c = (sought_first _ _ _ c.requires.1, omega arith)

pub bit_clauses-two-requires : goal.bit_clauses-two-requires
bit_clauses-two-requires c =
    let width = c.args.sizes.width in
    let fresh = c.loop-literal.fresh in
    let own = rw (c.clause_count-clauses.ensures.0 fresh) at c.if-left-clauses.true in
    (own_clause width fresh _ _ own).1

pub returns-then-left-clauses : goal.returns-then-left-clauses
returns-then-left-clauses c =
    let sizes = c.args.sizes in
    let rows = c.args.literals.now in
    let fresh = c.loop-literal.fresh in
    let k = c.loop-literal.literal-index in
    let left = c.loop-literal.left in
    let literal = get_or rows k (Equal 0 0) in
    let own = rw (c.clause_count-clauses.ensures.0 fresh) at c.if-left-clauses.true in
    ap (λ (two : List (List ℤ)). get_or two (left % 2) []) c.bit_clauses-two.ensures
    ∙ side_at sizes literal fresh (left / 2) (left % 2) (omega arith)
    ∙ clause_here sizes rows c.args.n fresh k left c.loop-literal-test.true c.loop-literal.invariant.0 own

pub loop-literal-preserved : goal.loop-literal-preserved
loop-literal-preserved c =
    let fresh = c.loop-literal.fresh in (
      sought_later c.args.sizes.width c.args.literals.now c.args.n fresh c.loop-literal.literal-index c.loop-literal.left c.loop-literal-test.true c.loop-literal.invariant.0 _ _
          (c.clause_count-clauses.ensures.0 fresh) c.if-left-clauses.false (c.freshes-fresh.ensures.0 fresh),
      omega arith,
    )

pub returns : goal.returns
returns c = clause_last c.args.sizes c.args.literals.now c.args.n _ _ _ c.loop-literal.invariant.0 c.loop-literal-test.false
