-- 02, E1, fixed numbers: which literals the lemma leaves out, and that where one assignment that gives each fixed number its value has such a
-- literal hold, every other does; without fixed numbers nothing is left out.
-- Assumes nothing.
use Prim.Native.Nat.{ℕ}
use mathlib.Core.Path.{◌≡◌, refl, sym, ap, ◌∙◌, subst}
use mathlib.Core.Logic.{◌⊎◌, inl, inr, ◌↔◌}
use mathlib.Core.Bool.{Bool, true, false, cond, not, false≢true}
use mathlib.Core.List.Memᴰ
use mathlib.Core.List.{List, [], ◌∷◌, ◌++◌}
use borrow.Author.Tests.{eqb-true, eq-eqb}
use Rattle.paper.specs.Lists.{◌∈◌, keep}
use Rattle.paper.specs.Terms.{Term, fixes, is_fixed, Assignment}
use Rattle.paper.specs.Interpretations.{GivesFixed}
use Rattle.paper.specs.Edges.{index_number}
use Rattle.paper.specs.Conflict.{Pair}
use Rattle.paper.specs.Lemma.{Literal, hypotheses, left_out, stays, path, lemma, says, is_conclusion}
use Rattle.meaning.proofs.Lists.{and_left, and_right, keep_in, keep_has, keep_all, keep_append, any_has, any_in}

-- the lemma with nothing left out
abbrev pub whole_lemma : List Term → Assignment → Pair → List Literal
whole_lemma terms g pair =
    hypotheses (index_number pair.first.place) (index_number pair.later.place) (path terms g pair)
    ++ (Literal.conclusion pair.first.value pair.later.value ∷ [])

-- the lemma is what stays of it, in its order: the conclusion always does
pub lemma_kept : (terms : List Term) (g : Assignment) (pair : Pair) → lemma terms g pair ≡ keep (stays terms) (whole_lemma terms g pair)
unfolding lemma
lemma_kept terms g pair =
    sym
    (keep_append (stays terms) (hypotheses (index_number pair.first.place) (index_number pair.later.place) (path terms g pair))
    (Literal.conclusion pair.first.value pair.later.value ∷ []))

pub of_whole : (terms : List Term) (g : Assignment) (pair : Pair) {l : Literal} → l ∈ lemma terms g pair → l ∈ whole_lemma terms g pair
of_whole terms g pair {l} here =
    (keep_in (stays terms) (whole_lemma terms g pair) (subst (λ (literals : List Literal). l ∈ literals) (lemma_kept terms g pair) here)).0

-- a fixed base term has a fixed number's field
fixes_is : (b : ℕ) (term : Term) → fixes b term ≡ true → (value : ℕ) × (term ≡ Term.fixed b value)
fixes_is b (Term.free_base own) e = absurd (false≢true e)
fixes_is b (Term.free_boolean own) e = absurd (false≢true e)
fixes_is b (Term.variable own) e = absurd (false≢true e)
fixes_is b (Term.write own beneath index value) e = absurd (false≢true e)
fixes_is b (Term.conditional own chooser if_true if_false) e = absurd (false≢true e)
fixes_is b (Term.read own from index) e = absurd (false≢true e)
fixes_is b (Term.equality own left right left_witness right_witness) e = absurd (false≢true e)
fixes_is b (Term.fixed own value) e = (value, ap (λ (o : ℕ). Term.fixed o value) (eqb-true own b e))

-- the base term is a fixed number; the literal is an "equal" or "differ" between two
abbrev pub Fixed : List Term → (b : ℕ) → Type 0
Fixed terms b = (value : ℕ) × (Term.fixed b value ∈ terms)

abbrev pub BetweenFixed : List Term → Literal → Type 0
BetweenFixed terms l = (i j : ℕ) × ((l ≡ Literal.equal i j) ⊎ (l ≡ Literal.differ i j)) × Fixed terms i × Fixed terms j

not_false : (b : Bool) → not b ≡ false → b ≡ true
not_false true e = refl
not_false false e = sym e

module _ (terms : List Term) where
  fixed_in : (b : ℕ) → is_fixed terms b ≡ true → Fixed terms b
  unfolding is_fixed
  fixed_in b e =
      let found = any_in (fixes b) terms e in
      let is = fixes_is b found.0 found.2 in
      (is.0, subst (λ (term : Term). term ∈ terms) is.1 found.1)

  fixed_has : (b : ℕ) → Fixed terms b → is_fixed terms b ≡ true
  unfolding is_fixed
  fixed_has b (value, here) = any_has (fixes b) terms here (eq-eqb b b refl)

  between : (l : Literal) → left_out (is_fixed terms) l ≡ true → BetweenFixed terms l
  between (Literal.equal i j) e =
      (i, j, inl refl, fixed_in i (and_left (is_fixed terms i) (is_fixed terms j) e), fixed_in j (and_right (is_fixed terms i) (is_fixed terms j) e))
  between (Literal.differ i j) e =
      (i, j, inr refl, fixed_in i (and_left (is_fixed terms i) (is_fixed terms j) e), fixed_in j (and_right (is_fixed terms i) (is_fixed terms j) e))
  between (Literal.is_true m) e = absurd (false≢true e)
  between (Literal.is_false m) e = absurd (false≢true e)
  between (Literal.conclusion v u) e = absurd (false≢true e)

  left_out_lem : (l : Literal) → BetweenFixed terms l → stays terms l ≡ false
  left_out_lem l (i, j, inl is, one, other) = rw (is, fixed_has i one, fixed_has j other)
  left_out_lem l (i, j, inr is, one, other) = rw (is, fixed_has i one, fixed_has j other)

  stays_free : (l : Literal) → (BetweenFixed terms l → ⊥) → stays terms l ≡ true
  stays_free l free = go (left_out (is_fixed terms) l) refl
    where
      go : (b : Bool) → left_out (is_fixed terms) l ≡ b → not b ≡ true
      go true out = absurd (free (between l out))
      go false out = refl

  -- 02, E1: "An 'equal' or 'differ' between two fixed numbers is left out of the lemma", and no other literal
  pub left_out_exactly : (g : Assignment) (pair : Pair) (l : Literal) → l ∈ whole_lemma terms g pair → (l ∈ lemma terms g pair) ↔ (BetweenFixed terms l → ⊥)
  left_out_exactly g pair l here = rw (lemma_kept terms g pair) (there, back)
    where
      there : l ∈ keep (stays terms) (whole_lemma terms g pair) → BetweenFixed terms l → ⊥
      there kept out = false≢true (sym (left_out_lem l out) ∙ (keep_in (stays terms) (whole_lemma terms g pair) kept).1)

      back : (BetweenFixed terms l → ⊥) → l ∈ keep (stays terms) (whole_lemma terms g pair)
      back free = keep_has (stays terms) (whole_lemma terms g pair) here (stays_free l free)

  -- a conclusion always stays
  pub conclusion_stays : (g : Assignment) (pair : Pair) → Literal.conclusion pair.first.value pair.later.value ∈ lemma terms g pair
  unfolding lemma
  conclusion_stays g pair =
      Memᴰ.append_right (keep (stays terms) (hypotheses (index_number pair.first.place) (index_number pair.later.place) (path terms g pair)))
      (Memᴰ.head refl)

  -- two assignments that give each fixed number its value agree there, and so on every literal between two of them: where one of them has
  -- it hold, the other can't meet the lemma by it
  module _ (g h : Assignment) (of_g : GivesFixed terms g) (of_h : GivesFixed terms h) where
    fixed_same : (b : ℕ) → Fixed terms b → g.value b ≡ h.value b
    fixed_same b (value, here) = of_g b value here ∙ sym (of_h b value here)

    pub unmet : (l : Literal) → stays terms l ≡ false → says g l ≡ true → cond (is_conclusion l) (says h l) (not (says h l)) ≡ false
    unmet l out holds = go (between l (not_false (left_out (is_fixed terms) l) out))
      where
        go : BetweenFixed terms l → cond (is_conclusion l) (says h l) (not (says h l)) ≡ false
        go (i, j, inl is, one, other) = rw (is, ← fixed_same i one, ← fixed_same j other) (ap not (rw is at holds))
        go (i, j, inr is, one, other) = rw (is, ← fixed_same i one, ← fixed_same j other) (ap not (rw is at holds))

  -- without fixed numbers nothing is left out
  pub lemma_before : ((b : ℕ) → Fixed terms b → ⊥) → (g : Assignment) (pair : Pair) → lemma terms g pair ≡ whole_lemma terms g pair
  lemma_before none_fixed g pair =
      lemma_kept terms g pair
      ∙ keep_all (stays terms) (λ l. stays_free l (λ (i, j, is, one, other). none_fixed i one)) (whole_lemma terms g pair)
