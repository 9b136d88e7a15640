-- `lemma::paths::nearer_edge` meets its contract: the first row that leads nearer is the one that is asked for.
-- Assumes nothing.
use Rattle.std.proofs.Common.{◌<◌, sym, ap, ◌∙◌, arith, below_more}
use mathlib.Core.Option.{some}
use lib.Seq.{get_or-take}
use Rattle.lemma.specs.Steps.{table_in}
use Rattle.lemma.proofs.Nearer.{leads_by, leads_not, chosen_first, chosen_none}
use Rattle.lemma.proofs.paths.nearer_edge.Goals as goal

pub returns-in-Some : goal.returns-in-Some
returns-in-Some c =
    let e = table_in c.args.tables.now in
    let distances = c.args.distances.now in
    let k = c.loop-k.k in
    let inside : k < e.count = omega arith in
    let found = rw (get_or-take e.count e.rows k 0 inside) at c.in-Some.ensures in
    let leads = leads_by e distances c.args.x c.args.a c.args.goal k found in
    sym (chosen_first e distances c.args.x c.args.a c.args.goal k inside c.loop-k.invariant leads.0 ∙ ap (λ edge. some (k, edge)) leads.1)

pub loop-k-preserved : goal.loop-k-preserved
loop-k-preserved c =
    let e = table_in c.args.tables.now in
    let k = c.loop-k.k in
    let inside : k < e.count = omega arith in
    let nothing = rw (get_or-take e.count e.rows k 0 inside) at c.in_default.ensures in
    below_more _ _ c.loop-k.invariant (leads_not e c.args.distances.now c.args.x c.args.a c.args.goal k nothing)

pub returns : goal.returns
returns c = sym (chosen_none (table_in c.args.tables.now) _ _ _ _ (λ j below. c.loop-k.invariant j (omega arith)))
