-- The literal says whose clauses they are.
use Rattle.std.proofs.Common.{inl, inr}
use Rattle.cnf.proofs.Pieces.{as_it_is, reversed}
use Rattle.cnf.proofs.placed.Placed.bit_clauses.Goals as goal

pub returns-in-Equal : goal.returns-in-Equal
returns-in-Equal c =
    let i = as_it_is _ c.variable-i.ensures in
    let j = as_it_is _ c.variable-j.ensures in
    let not_i = reversed _ c.variable-i.ensures in
    let not_j = reversed _ c.variable-j.ensures in
    let not_d = reversed _ c.fresh_variable-d.ensures in
    rw c.in-Equal.is (cc)

pub returns-in-Differ : goal.returns-in-Differ
returns-in-Differ c = elim c.in-Differ.is [ inl is ↦ rw is c.agreeing-in-Differ.ensures | inr is ↦ rw is c.agreeing-in-Differ.ensures ]

pub returns-in-IsTrue : goal.returns-in-IsTrue
returns-in-IsTrue c = elim c.in-IsTrue.is [ inl is ↦ rw is c.agreeing.ensures | inr is ↦ rw is c.agreeing.ensures ]
