-- Each literal's clauses and the linking clause are the run, stored from its start.
use native.Mathlib.Omega.{arith}
use mathlib.Core.List.{append-nil}
use mathlib.Core.Path.{sym}
use borrow.Author.Rules.{rules}
use Rattle.cnf.specs.declared.numbers.Sizes.{Sizes}
use Rattle.cnf.proofs.Runs.{begun, further, done, left_as, from_start}
use Rattle.cnf.proofs.Whole.{run_parts, clauses_fit}
use Rattle.cnf.proofs.put_clauses.Goals as goal

pub put_each-requires : goal.put_each-requires
put_each-requires c =
    let sizes : Sizes = record { width = c.args.width; bases = c.args.bases; booleans = c.args.booleans; small = (c.requires.3, c.requires.1, c.requires.2) } in
    (c.requires.0, omega (arith, c.requires.4, clauses_fit sizes c.args.literals.now))

pub put_linking-requires : goal.put_linking-requires
put_linking-requires c =
    let sizes : Sizes = record { width = c.args.width; bases = c.args.bases; booleans = c.args.booleans; small = (c.requires.3, c.requires.1, c.requires.2) } in
    (c.requires.0, omega (arith, c.requires.4, clauses_fit sizes c.args.literals.now))

pub returns : goal.returns
returns c =
    let sizes : Sizes = record { width = c.args.width; bases = c.args.bases; booleans = c.args.booleans; small = (c.requires.3, c.requires.1, c.requires.2) } in
    let begin = left_as (run_parts sizes c.args.literals.now) (begun _ _) in
    let wrote = done (further _ (left_as (sym (append-nil _)) (further _ begin c.put_each.ensures)) c.put_linking.ensures) in
    let both = from_start c.args.numbers.now c.put_linking.new.run.numbers.now _ c.put_linking.new.run.at wrote.put c.requires.4 in
    record { written = search rules; count = both.1 }
