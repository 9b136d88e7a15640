-- `front::judge` meets its contract: what is loaded is held by the tables, and the tables of an accepted query can be ruled on.
-- Assumes nothing.
use Rattle.std.proofs.Common.{ℕ, ◌<◌, get_or, sym, ◌∙◌, ap}
use Rattle.std.specs.Prelude.{Result}
use Rattle.paper.specs.declared.Refusal.{Refusal}
use Rattle.terms.specs.Loads.{loaded_as}
use Rattle.reach.proofs.Paper.{within, has_graph, rows_suffice}
use Rattle.front.proofs.judge.Goals as goal

pub rule_alone-requires : goal.rule_alone-requires
rule_alone-requires c =
    let loads = c.load.ensures in
    let small : (i : ℕ) → get_or c.args.query.now i 0 < 256 = λ i. (c.type_inv.query i).fits in
    (within loads.holds (has_graph loads c.in_ok-load.was small), rows_suffice loads c.in_ok-load.was small)

pub returns : goal.returns
returns c =
    let loads = c.load.ensures in
    let small : (i : ℕ) → get_or c.args.query.now i 0 < 256 = λ i. (c.type_inv.query i).fits in
    record { query = loads.query; holds = loads.holds; loaded = ap (λ (r : Result (Unit {0}) Refusal). loaded_as r loads.query) (sym c.in_ok-load.was) ∙ loads.loaded; accepted = (has_graph loads c.in_ok-load.was small, c.rule_alone.ensures) }
