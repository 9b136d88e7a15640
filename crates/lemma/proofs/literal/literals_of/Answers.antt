-- `lemma::literal::literals_of` meets its contract: each edge of the path is open, and its literal is added exactly if it does not stand there yet.
-- Assumes nothing.
use Rattle.std.proofs.Common.{◌/◌, ◌%◌, ◌≡◌, true, get_or, [], ◌∷◌, sym, ◌∙◌, arith, length-append}
use mathlib.Core.Bool.{false≢true}
use Rattle.std.proofs.lemmas.List.Elements.{All-get_or}
use Rattle.lemma.specs.Steps.{table_in, open_at}
use Rattle.lemma.specs.declared.rows.Literal.TheVariants.{Conclusion}
use Rattle.lemma.proofs.Guarded.{guard_is, guard_small, none_shut}
use Rattle.lemma.proofs.Listing.{writing_start, writing_on, writing_end}
use Rattle.lemma.proofs.literal.literals_of.Goals as goal

pub loop-k-init : goal.loop-k-init
loop-k-init c =
    let args = c.args in
    writing_start (table_in args.tables.now) args.x args.path.now (args.one / 256 % 256) (args.other / 256 % 256) c.opening.new.literals
    (rw (c.index_of-index.ensures, c.index_of.ensures) at c.opening.ensures)

pub edge_literal-requires : goal.edge_literal-requires
edge_literal-requires c =
    let args = c.args in
    guard_small (table_in args.tables.now) args.x (get_or args.path.now c.loop-k.k-index 0) c.in-Some.edge c.in-Some.ensures

pub unreachable-requires : goal.unreachable-requires
unreachable-requires c =
    let args = c.args in
    let e = table_in args.tables.now in
    let k = get_or args.path.now c.loop-k.k-index 0 in
    false≢true (sym (none_shut e args.x k c.in_default.ensures) ∙ All-get_or (λ k. open_at e args.x k ≡ true) args.path.now c.loop-k.k-index 0 (omega arith) c.requires.open_each)

pub loop-k-preserved : goal.loop-k-preserved
loop-k-preserved c =
    let args = c.args in
    let e = table_in args.tables.now in
    let path = args.path.now in
    let k = get_or path c.loop-k.k-index 0 in
    let says = rw (guard_is e args.x k c.in-Some.edge c.in-Some.ensures, c.index_of-index.ensures) at c.edge_literal.ensures in
    rw c.push_once.ensures
    (writing_on e args.x path (args.one / 256 % 256) (args.other / 256 % 256) c.requires c.loop-k.k-index (omega arith) c.loop-k.literals c.edge_literal.result says c.loop-k.invariant)

pub returns : goal.returns
returns c =
    let args = c.args in
    let last = Conclusion (args.one / 65536 % 256) (args.other / 65536 % 256) in
    rw (c.push.ensures, c.value_of.ensures, c.value_of-2.ensures) (record {
      same = writing_end (table_in args.tables.now) args.x args.path.now (args.one / 256 % 256) (args.other / 256 % 256) c.requires c.loop-k.k-index (omega arith) c.loop-k.literals c.loop-k.invariant last;
      most = omega (arith, c.loop-k.invariant.most, c.requires.short, length-append c.loop-k.literals (last ∷ []));
    })
