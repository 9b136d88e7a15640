-- A lemma holds in every interpretation: for any walk between the origins of two sources, over any edges of the terms. So how the path
-- is chosen is of no concern here.
-- Assumes nothing.
use Prim.Native.Nat.{ℕ, ◌<◌, ◌^◌}
use mathlib.Core.Path.{◌≡◌, refl, sym, ap, ◌∙◌, subst}
use mathlib.Core.Logic.{◌⊎◌, inl, inr}
use mathlib.Core.Bool.{Bool, true, false, cond, not}
use mathlib.Core.List.Memᴰ
use mathlib.Core.List.{List, [], ◌∷◌, ◌++◌}
use borrow.Author.Tests.{eqb-true, eqb-false, eq-eqb}
use lib.Dec.{eqb}
use Rattle.paper.specs.Lists.{◌∈◌, all}
use Rattle.paper.specs.Terms.{Term, Assignment}
use Rattle.paper.specs.Interpretations.{Memories, Means, Interpretation}
use Rattle.paper.specs.Edges.{index_number, Source, source_of, sources, Guard, Edge, edge_of, edges}
use Rattle.paper.specs.Reach.{Joins, Walk, stay, step}
use Rattle.paper.specs.Lemma.{Literal, literal_of, hypotheses, says, is_conclusion, lemma_holds}
use Rattle.meaning.proofs.Lists.{concat_map_in, any_has, all_in, some_fails}
use Rattle.meaning.proofs.Given.{Numbered, source_given}
use Rattle.meaning.proofs.Literals.{equal_hypothesis, edge_hypothesis, not_conclusion}

pub not_true : (b : Bool) → not b ≡ true → b ≡ false
not_true true e = sym e
not_true false e = refl

module _ (w : ℕ) (terms : List Term) (g : Assignment) (memory : Memories) (valid : Interpretation w terms g memory) where
  -- an edge whose literal holds joins arrays that agree at the index (rules D, U, R and L of 002's figure 9)
  of_term : (i : ℕ) → g.value i < 2 ^ w → (term : Term) → Means w g memory term → (edge : Edge) → edge ∈ edge_of term
      → says g (literal_of i edge.guard) ≡ true → memory edge.left (g.value i) ≡ memory edge.right (g.value i)
  of_term i small (Term.free_base own) means edge here holds = absurd (Memᴰ.not-nil here)
  of_term i small (Term.free_boolean own) means edge here holds = absurd (Memᴰ.not-nil here)
  of_term i small (Term.variable own) means edge here holds = absurd (Memᴰ.not-nil here)
  of_term i small (Term.write own beneath index value) means edge here holds =
      let same = Memᴰ.eq_of_singleton here in
      let differs = rw same at holds in
      rw same (means.1 (g.value i) small (eqb-false (g.value i) (g.value index) (not_true (eqb (g.value i) (g.value index)) differs)))
  of_term i small (Term.conditional own chooser if_true if_false) means edge here holds = go (Memᴰ.cases_cons here)
    where
      chosen : (truth : Bool) → g.truth chooser ≡ truth → memory own (g.value i) ≡ memory (cond truth if_true if_false) (g.value i)
      chosen truth e = subst (λ (b : Bool). memory own (g.value i) ≡ memory (cond b if_true if_false) (g.value i)) e (means (g.value i) small)

      go : (edge ≡ record { left = own; right = if_true; guard = Guard.is_true chooser }) ⊎ (edge ∈ record { left = own; right = if_false; guard = Guard.is_false chooser } ∷ [])
          → memory edge.left (g.value i) ≡ memory edge.right (g.value i)
      go (inl same) = rw same (chosen true (rw same at holds))
      go (inr there) =
          let same = Memᴰ.eq_of_singleton there in
          rw same (chosen false (not_true (g.truth chooser) (rw same at holds)))
  of_term i small (Term.read own from index) means edge here holds = absurd (Memᴰ.not-nil here)
  of_term i small (Term.equality own left right left_witness right_witness) means edge here holds =
      let same = Memᴰ.eq_of_singleton here in
      rw same (means.0 (rw same at holds) (g.value i) small)
  of_term i small (Term.fixed own value) means edge here holds = absurd (Memᴰ.not-nil here)

  pub edge_agrees : (i : ℕ) → g.value i < 2 ^ w → (edge : Edge) → edge ∈ edges terms → says g (literal_of i edge.guard) ≡ true
      → memory edge.left (g.value i) ≡ memory edge.right (g.value i)
  unfolding edges
  edge_agrees i small edge here holds =
      let from = concat_map_in edge_of terms here in
      of_term i small from.0 (valid.holds from.0 from.1) edge from.2 holds

  -- so the ends of a walk agree there
  pub walk_agrees : (i : ℕ) → g.value i < 2 ^ w → {a c : ℕ} {walked : List Edge} → Walk (edges terms) a walked c
      → ((edge : Edge) → edge ∈ walked → says g (literal_of i edge.guard) ≡ true) → memory a (g.value i) ≡ memory c (g.value i)
  walk_agrees i small stay holds = refl
  walk_agrees i small (step {a} {b} {edge = edge} here joined rest) holds =
      go joined (edge_agrees i small edge here (holds edge (Memᴰ.head refl))) ∙ walk_agrees i small rest (λ other there. holds other (Memᴰ.tail there))
    where
      go : Joins edge a b → memory edge.left (g.value i) ≡ memory edge.right (g.value i) → memory a (g.value i) ≡ memory b (g.value i)
      go (inl ends) agree = ap (λ (x : ℕ). memory x (g.value i)) (sym ends.0) ∙ agree ∙ ap (λ (x : ℕ). memory x (g.value i)) ends.1
      go (inr ends) agree = ap (λ (x : ℕ). memory x (g.value i)) (sym ends.0) ∙ sym agree ∙ ap (λ (x : ℕ). memory x (g.value i)) ends.1

  -- a source's origin has its value at its index
  source_of_term : (term : Term) → Means w g memory term → (source : Source) → source ∈ source_of term
      → memory source.origin (g.value (index_number source.place)) ≡ g.value source.value
  source_of_term (Term.free_base own) means source here = absurd (Memᴰ.not-nil here)
  source_of_term (Term.free_boolean own) means source here = absurd (Memᴰ.not-nil here)
  source_of_term (Term.variable own) means source here = absurd (Memᴰ.not-nil here)
  source_of_term (Term.write own beneath index value) means source here = rw (Memᴰ.eq_of_singleton here) means.0
  source_of_term (Term.conditional own chooser if_true if_false) means source here = absurd (Memᴰ.not-nil here)
  source_of_term (Term.read own from index) means source here = rw (Memᴰ.eq_of_singleton here) (sym means)
  source_of_term (Term.equality own left right left_witness right_witness) means source here = absurd (Memᴰ.not-nil here)
  source_of_term (Term.fixed own value) means source here = absurd (Memᴰ.not-nil here)

  pub source_holds : (source : Source) → source ∈ sources terms → memory source.origin (g.value (index_number source.place)) ≡ g.value source.value
  unfolding sources
  source_holds source here =
      let from = concat_map_in source_of terms here in
      source_of_term from.0 (valid.holds from.0 from.1) source from.2

  -- Soundness: whatever walk leads from the origin of s to that of t, its lemma holds
  module _ (numbered : Numbered terms) (s t : Source) (s_here : s ∈ sources terms) (t_here : t ∈ sources terms) where
    concludes : {walked : List Edge} → Walk (edges terms) s.origin walked t.origin
        → all (says g) (hypotheses (index_number s.place) (index_number t.place) walked) ≡ true → g.value s.value ≡ g.value t.value
    concludes {walked} way suppose =
        let i = index_number s.place in
        let j = index_number t.place in
        sym (source_holds s s_here)
        ∙ walk_agrees i (valid.values i (source_given terms numbered s s_here).place) way
        (λ edge here. all_in (says g) (hypotheses i j walked) suppose (edge_hypothesis i j walked edge here))
        ∙ ap (memory t.origin) (equal_indices_lem (equal_hypothesis i j walked))
        ∙ source_holds t t_here
      where
        equal_indices_lem : (index_number s.place ≡ index_number t.place)
            ⊎ (Literal.equal (index_number s.place) (index_number t.place) ∈ hypotheses (index_number s.place) (index_number t.place) walked)
            → g.value (index_number s.place) ≡ g.value (index_number t.place)
        equal_indices_lem (inl same) = ap g.value same
        equal_indices_lem (inr here) =
            eqb-true (g.value (index_number s.place)) (g.value (index_number t.place))
            (all_in (says g) (hypotheses (index_number s.place) (index_number t.place) walked) suppose here)

    pub walk_sound : {walked : List Edge} → Walk (edges terms) s.origin walked t.origin
        → lemma_holds g (hypotheses (index_number s.place) (index_number t.place) walked ++ (Literal.conclusion s.value t.value ∷ [])) ≡ true
    walk_sound {walked} way = go (all (says g) supposed) refl
      where
        supposed : List Literal
        supposed = hypotheses (index_number s.place) (index_number t.place) walked

        met : Literal → Bool
        met l = cond (is_conclusion l) (says g l) (not (says g l))

        go : (b : Bool) → all (says g) supposed ≡ b → lemma_holds g (supposed ++ (Literal.conclusion s.value t.value ∷ [])) ≡ true
        go true e =
            any_has met (supposed ++ (Literal.conclusion s.value t.value ∷ []))
            (Memᴰ.append_right supposed (Memᴰ.head refl))
            (eq-eqb (g.value s.value) (g.value t.value) (concludes way e))
        go false e =
            let failed = some_fails (says g) supposed e in
            any_has met (supposed ++ (Literal.conclusion s.value t.value ∷ []))
            (Memᴰ.append_left (Literal.conclusion s.value t.value ∷ []) failed.1)
            (rw (not_conclusion (index_number s.place) (index_number t.place) walked failed.0 failed.1, failed.2))
