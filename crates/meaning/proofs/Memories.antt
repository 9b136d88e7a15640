-- An interpretation goes by its memories at the given array terms and at the indices below 2^w alone.
-- Assumes nothing.
use Prim.Native.Nat.{ℕ, ◌<◌, ◌^◌}
use mathlib.Core.Path.{◌≡◌, sym, ◌∙◌, subst}
use mathlib.Core.Bool.{Bool, true, false, cond}
use mathlib.Core.List.{List}
use Rattle.paper.specs.Fields.{base, array}
use Rattle.paper.specs.Terms.{Term, given, Assignment, series}
use Rattle.paper.specs.Interpretations.{Memories, Agree, Means, Interpretation}
use Rattle.meaning.proofs.Placed.{Below, own_number}
use Rattle.meaning.proofs.Given.{Numbered}

module _ (w : ℕ) (terms : List Term) (numbered : Numbered terms) (g : Assignment) (one other : Memories)
    (same : (a x : ℕ) → a < given array terms → x < 2 ^ w → one a x ≡ other a x)
    (small : (b : ℕ) → b < given base terms → g.value b < 2 ^ w) where
  agree_same : (left right : ℕ) → left < given array terms → right < given array terms → Agree w one left right → Agree w other left right
  agree_same left right left_in right_in_lem agree x inside = sym (same left x left_in inside) ∙ agree x inside ∙ same right x right_in_lem inside

  agree_back : (left right : ℕ) → left < given array terms → right < given array terms → Agree w other left right → Agree w one left right
  agree_back left right left_in right_in_lem agree x inside = same left x left_in inside ∙ agree x inside ∙ sym (same right x right_in_lem inside)

  means_same : (term : Term) → Below (λ s. given s terms) term → own_number term < given (series term) terms → Means w g one term → Means w g other term
  means_same (Term.free_base own) names inside means = tt
  means_same (Term.free_boolean own) names inside means = tt
  means_same (Term.variable own) names inside means = tt
  means_same (Term.write own beneath index value) names inside means = (
    sym (same own (g.value index) inside (small index names.1)) ∙ means.0,
    λ x x_in differs. sym (same own x inside x_in) ∙ means.1 x x_in differs ∙ same beneath x names.0 x_in,
  )
  means_same (Term.conditional own chooser if_true if_false) names inside means =
      agree_same own (cond (g.truth chooser) if_true if_false) inside (branch (g.truth chooser)) means
    where
      branch : (b : Bool) → cond b if_true if_false < given array terms
      branch true = names.1
      branch false = names.2
  means_same (Term.read own from index) names inside means = means ∙ same from (g.value index) names.0 (small index names.1)
  means_same (Term.equality own left right left_witness right_witness) names inside means =
      ((λ holds. agree_same left right names.0 names.1 (means.0 holds)), (λ agree. means.1 (agree_back left right names.0 names.1 agree)))
  means_same (Term.fixed own value) names inside means = means

  pub interprets_same : Interpretation w terms g one → Interpretation w terms g other
  interprets_same valid =
      record {
        values = valid.values;
        cells = λ a x a_in x_in. subst (λ (cell : ℕ). cell < 2 ^ w) (same a x a_in x_in) (valid.cells a x a_in x_in);
        holds = λ term here. means_same term (numbered.names term here) (numbered.own term here) (valid.holds term here);
      }
