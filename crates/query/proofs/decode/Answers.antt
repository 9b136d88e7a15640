-- `query::decode` meets its contract: the first of the head's tests that is met says what stands at the place.
-- Assumes nothing.
use Rattle.std.proofs.Common.{◌≡◌, ℕ, ap, arith, drop, rules, Err}
use Rattle.std.proofs.lemmas.Grind.{common_steps}
use Rattle.std.proofs.Math.Option.{some}
use Rattle.paper.specs.Lists.{first_met}
use Rattle.paper.specs.Fields.{kind_of, tag_at, head_tests, parts, cut}
use Rattle.paper.specs.Reasons.{number_of}
use Rattle.query.specs.Standing.{field, Carries, paper_kind}
use Rattle.query.proofs.Heads.{number_of_above, at_refusal, at_field}
use Rattle.query.proofs.decode.Goals as goal

pub returns-in_err-kind : goal.returns-in_err-kind
returns-in_err-kind c =
    let a = c.args in
    let refusal = c.in_err-kind.field-0.0 in
    let offset : refusal.offset ≡ a.at = search rules in
    let met : number_of refusal.reason ≡ first_met (head_tests a.width (drop a.at a.query.now)) = grind (arith, common_steps) in
    let stands = at_refusal a.width a.query.now a.at c.if-query-at.false (omega (arith, met, number_of_above refusal.reason)) in
    let given : c.from_residual.result ≡ Err refusal = grind (arith, common_steps) in
    rw given (cc)

pub returns : goal.returns
returns c =
    let a = c.args in
    let kind = c.in_ok-kind.kind in
    let none_met : first_met (head_tests a.width (drop a.at a.query.now)) ≡ 0 = grind (arith, common_steps) in
    let is : kind_of (tag_at (drop a.at a.query.now)) ≡ some (paper_kind kind) = grind (arith, common_steps) in
    let carried : Carries a.width kind (drop 3 (drop a.at a.query.now)) c.field_of-field.result = grind (arith, common_steps) in
    let stands = at_field a.width a.query.now a.at c.if-query-at.false none_met (paper_kind kind) is in
    let field_to = λ (next : ℕ). field (paper_kind kind) (cut a.width (parts (paper_kind kind)) (drop 3 (drop a.at a.query.now))) next in
    rw (stands, carried.same_kind, carried.numbers) (ap field_to (omega (arith, c.own_length.ensures)))
