-- `lemma::fields::put_lemma` meets its contract: each literal's bytes are stored behind those before it, and there is room for them. Assumes nothing.
use Rattle.std.proofs.Common.{ℕ, ◌+◌, ◌<◌, List, length, get_or, sym, ap, ◌∙◌, arith}
use Rattle.std.proofs.lemmas.List.Edits.{sets}
use lib.Seq.{length-sets}
use Rattle.lemma.specs.declared.rows.Literal.TheVariants.{Equal}
use Rattle.lemma.specs.Rows.{bytes_in}
use Rattle.lemma.proofs.Spelling.{bytes_to, to_none, to_all, to_length, to_fits, stored_on, stored_all}
use Rattle.lemma.proofs.fields.put_lemma.Goals as goal

pub loop-literal-init : goal.loop-literal-init
loop-literal-init c =
    let rows = c.args.literals.now in
    record { passed = ap length (sym (to_none rows)); stored = ap (sets c.args.answer.now 0) (sym (to_none rows)) }

pub put_literal-at-requires : goal.put_literal-at-requires
put_literal-at-requires c =
    let rows = c.args.literals.now in
    let k = c.loop-literal.literal-index in
    let inside : k < length rows = omega arith in
    let whole = ap length c.loop-literal.invariant.stored ∙ length-sets c.args.answer.now 0 (bytes_to rows k) in
    omega (arith, whole, to_fits rows k inside)

pub loop-literal-preserved : goal.loop-literal-preserved
loop-literal-preserved c =
    let rows = c.args.literals.now in
    let answer = c.args.answer.now in
    let k = c.loop-literal.literal-index in
    let inside : k < length rows = omega arith in
    let before = c.loop-literal.invariant in
    let put = c.put_literal-at.ensures in
    let bytes = bytes_in (get_or rows k (Equal 0 0)) in
    record {
      passed = put.0 ∙ ap (λ (n : ℕ). n + length bytes) before.passed ∙ sym (to_length rows k inside);
      stored =
          put.1
          ∙ ap (λ (b : List ℕ). sets b c.loop-literal.at bytes) before.stored
          ∙ ap (λ (n : ℕ). sets (sets answer 0 (bytes_to rows k)) n bytes) before.passed
          ∙ stored_on rows k inside answer;
    }

pub returns : goal.returns
returns c =
    let rows = c.args.literals.now in
    let k = c.loop-literal.literal-index in
    let before = c.loop-literal.invariant in
    (before.passed ∙ ap length (to_all rows k (omega arith)), before.stored ∙ stored_all rows c.args.answer.now k (omega arith) c.requires.1)
