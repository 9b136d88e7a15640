-- `Cells::place` meets its contract: what the search answers, and the cell put at that place, come to the paper's `place`, by Placing.
-- Assumes nothing.
use Rattle.std.proofs.Common.{Ok, Err, sym, rules, arith}
use Rattle.std.proofs.lemmas.List.Sorted.{answers_always}
use Rattle.model.proofs.Placing.{found}
use Rattle.model.proofs.cells.Cells.place.Goals as goal

pub invariant_of-self : goal.invariant_of-self
invariant_of-self c =
    let facts = c.in-Err.ensures in
    let by_index = facts.position (λ other. other.index) (answers_always _ _ _ (λ f a r g called. search rules)) in
    let room = rw (← c.self.view_is) at c.requires in
    let known = found c.args.cell c.self.inside.cells _ (omega (arith, c.self.invariant.0)) c.self.invariant.1 (Err c.in-Err.at) facts.bound by_index (omega (arith, room)) in
    (omega (arith, room), rw c.copy_within.ensures.after known.1)

pub returns-in-Err : goal.returns-in-Err
returns-in-Err c =
    let facts = c.in-Err.ensures in
    let by_index = facts.position (λ other. other.index) (answers_always _ _ _ (λ f a r g called. search rules)) in
    let room = rw (← c.self.view_is) at c.requires in
    let known = found c.args.cell c.self.inside.cells _ (omega (arith, c.self.invariant.0)) c.self.invariant.1 (Err c.in-Err.at) facts.bound by_index (omega (arith, room)) in
    rw (← c.self.view_is, c.copy_within.ensures.after) (sym known.0)

pub returns-in_default : goal.returns-in_default
returns-in_default c =
    let facts = c.in_default.ensures in
    let by_index = facts.position (λ other. other.index) (answers_always _ _ _ (λ f a r g called. search rules)) in
    rw (← c.self.view_is) (sym (found c.args.cell c.self.inside.cells _ (omega (arith, c.self.invariant.0)) c.self.invariant.1 (Ok c.in_default.field-0) facts.bound by_index))
