-- `Literals::retain` meets its contract: a row that passes is moved to the first free place, and any other passed over. Assumes nothing.
use Rattle.std.proofs.Common.{◌<◌, length, sym, ◌∙◌, arith}
use Rattle.std.proofs.lemmas.List.{get_or_default}
use Rattle.std.proofs.lemmas.List.Filters.{FiltersInPlace-more_set, FiltersInPlace-more_no}
use Rattle.lemma.specs.declared.rows.Literal.TheVariants.{Equal}
use Rattle.lemma.proofs.rows.Literals.retain.Goals as goal

pub loop-k-preserved : goal.loop-k-preserved
loop-k-preserved g c =
    let before = c.loop-k.invariant in
    let rows = c.loop-k.self-inside.rows in
    let k = c.loop-k.k in
    let within : k < length rows = omega arith in
    elim c.if-stays.branch [
      | goal.then-stays w ↦
          rw (w.self-inside-is, w.kept-is)
          (record { behind = omega (arith, before.behind); count = before.count; kept = λ test says. FiltersInPlace-more_set (before.kept test says) within (sym (says _ _ c.stays.ensures) ∙ w.if-stays.true) (get_or_default rows k (Equal 0 0) _ within) })
      | goal.else-stays w ↦
          rw (w.self-inside-is, w.kept-is)
          (record { behind = omega (arith, before.behind); count = before.count; kept = λ test says. FiltersInPlace-more_no (before.kept test says) within (sym (says _ _ c.stays.ensures) ∙ w.if-stays.false) (get_or_default rows k (Equal 0 0) _ within) })
    ]
