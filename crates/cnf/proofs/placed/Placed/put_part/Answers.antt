-- A literal that is no Boolean has its clauses bit by bit.
use mathlib.Core.List.{List}
use mathlib.Core.Path.{sym, ap}
use borrow.Author.Rules.{rules}
use Rattle.paper.specs.Lists.{concat_map}
use Rattle.paper.specs.Clauses.{Clause}
use Rattle.cnf.specs.Parts.{closed, Compares}
use Rattle.cnf.proofs.Runs.{wrote_as}
use Rattle.cnf.proofs.Pieces.{by_bits}
use Rattle.cnf.proofs.placed.Placed.put_part.Goals as goal

pub returns-then-ne : goal.returns-then-ne
returns-then-ne c =
    let compares : Compares c.args.self.literal = search rules in
    let bits = sym (by_bits c.args.sizes.width c.args.self.fresh c.args.self.literal compares) in
    rw c.in-Clauses.is (wrote_as (ap (λ (clauses : List Clause). concat_map (closed c.args.sizes) clauses) bits) c.put_bits.ensures)
