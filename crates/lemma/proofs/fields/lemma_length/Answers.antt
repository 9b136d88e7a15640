-- `lemma::fields::lemma_length` meets its contract: each literal adds the length of its field. Assumes nothing.
use Rattle.std.proofs.Common.{◌<◌, length, get_or, sym, ap, ◌∙◌, arith}
use Rattle.lemma.specs.declared.rows.Literal.TheVariants.{Equal}
use Rattle.lemma.proofs.Spelling.{field_most, to_none, to_all, to_length}
use Rattle.lemma.proofs.fields.lemma_length.Goals as goal

pub loop-literal-init : goal.loop-literal-init
loop-literal-init c = record { small = omega arith; so_far = ap length (sym (to_none c.args.literals.now)) }

pub loop-literal-preserved : goal.loop-literal-preserved
loop-literal-preserved c =
    let rows = c.args.literals.now in
    let k = c.loop-literal.literal-index in
    let inside : k < length rows = omega arith in
    let small = field_most (get_or rows k (Equal 0 0)) in
    record { small = omega (arith, small); so_far = omega (arith, to_length rows k inside) }

pub returns : goal.returns
returns c = c.loop-literal.invariant.so_far ∙ ap length (to_all c.args.literals.now c.loop-literal.literal-index (omega arith))
