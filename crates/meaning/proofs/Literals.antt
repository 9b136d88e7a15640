-- The literals of a lemma: a repeated one stands once and none is lost, and each is "equal" or an edge's.
-- Assumes nothing.
use Prim.Native.Nat.{ℕ, ◌<◌}
use mathlib.Core.Path.{◌≡◌, refl, sym, ap, ap₂, ◌∙◌, subst}
use mathlib.Core.Logic.{◌⊎◌, inl, inr}
use mathlib.Core.Bool.{Bool, true, false, cond, not, false≢true}
use mathlib.Core.List.Memᴰ
use mathlib.Core.List.{List, [], ◌∷◌, ◌++◌, map}
use borrow.Author.Tests.{eqb-true}
use lib.Dec.{eqb}
use lib.ListN.{get_or}
use Rattle.paper.specs.Lists.{◌∈◌, any, same_numbers}
use Rattle.paper.specs.Terms.{Assignment}
use Rattle.paper.specs.Edges.{Guard, Edge}
use Rattle.paper.specs.Lemma.{Literal, literal_of, tagged, same_literal, once_after, equal_indices, hypotheses, says, is_conclusion, lemma_holds}
use Rattle.meaning.proofs.Lists.{and_left, and_right, any_in, any_same}

-- a literal can be read off its tag and numbers, so that the test of two literals says that they are one
untagged : ℕ → List ℕ → Literal
untagged tag numbers =
    cond (eqb tag 0x21) (Literal.equal (get_or numbers 0 0) (get_or numbers 1 0))
    (cond (eqb tag 0x22) (Literal.differ (get_or numbers 0 0) (get_or numbers 1 0))
    (cond (eqb tag 0x23) (Literal.is_true (get_or numbers 0 0))
    (cond (eqb tag 0x24) (Literal.is_false (get_or numbers 0 0)) (Literal.conclusion (get_or numbers 0 0) (get_or numbers 1 0)))))

of_tagged : List ℕ → Literal
unfolding untagged
of_tagged [] = Literal.is_true 0
of_tagged (tag ∷ numbers) = untagged tag numbers

tagged_back : (l : Literal) → of_tagged (tagged l) ≡ l
unfolding of_tagged
tagged_back (Literal.equal i j) = refl
tagged_back (Literal.differ i j) = refl
tagged_back (Literal.is_true m) = refl
tagged_back (Literal.is_false m) = refl
tagged_back (Literal.conclusion v u) = refl

same_numbers_lem : (xs ys : List ℕ) → same_numbers xs ys ≡ true → xs ≡ ys
same_numbers_lem [] [] e = refl
same_numbers_lem [] (y ∷ ys) e = absurd (false≢true e)
same_numbers_lem (x ∷ xs) [] e = absurd (false≢true e)
same_numbers_lem (x ∷ xs) (y ∷ ys) e =
    ap₂ (λ (z : ℕ) (zs : List ℕ). z ∷ zs) (eqb-true x y (and_left (eqb x y) (same_numbers xs ys) e)) (same_numbers_lem xs ys (and_right (eqb x y) (same_numbers xs ys) e))

pub same_literal_lem : (l k : Literal) → same_literal l k ≡ true → l ≡ k
same_literal_lem l k e = sym (tagged_back l) ∙ ap of_tagged (same_numbers_lem (tagged l) (tagged k) e) ∙ tagged_back k

-- what stands once was there
pub once_in : (earlier literals : List Literal) {l : Literal} → l ∈ once_after earlier literals → l ∈ literals
once_in earlier [] here = here
once_in earlier (first ∷ literals) {l} here = go (any (same_literal first) earlier) here (λ below. once_in earlier literals below) (λ below. once_in (first ∷ earlier) literals below)
  where
    go : (b : Bool) → l ∈ cond b (once_after earlier literals) (first ∷ once_after (first ∷ earlier) literals)
        → (l ∈ once_after earlier literals → l ∈ literals) → (l ∈ once_after (first ∷ earlier) literals → l ∈ literals) → l ∈ first ∷ literals
    go true here again kept = Memᴰ.tail (again here)
    go false (Memᴰ.head same) again kept = Memᴰ.head same
    go false (Memᴰ.tail further) again kept = Memᴰ.tail (kept further)

-- what was there stands once, or stood earlier
pub once_has : (earlier literals : List Literal) {l : Literal} → l ∈ literals → (l ∈ earlier) ⊎ (l ∈ once_after earlier literals)
once_has earlier [] here = inr here
once_has earlier (first ∷ literals) {l} here = go (any (same_literal first) earlier) refl (Memᴰ.cases_cons here) (λ below. once_has earlier literals below) (λ below. once_has (first ∷ earlier) literals below)
  where
    kept : (l ∈ first ∷ earlier) ⊎ (l ∈ once_after (first ∷ earlier) literals) → (l ∈ earlier) ⊎ (l ∈ first ∷ once_after (first ∷ earlier) literals)
    kept (inl (Memᴰ.head same)) = inr (Memᴰ.head same)
    kept (inl (Memᴰ.tail stood)) = inl stood
    kept (inr stands) = inr (Memᴰ.tail stands)

    go : (b : Bool) → any (same_literal first) earlier ≡ b → (l ≡ first) ⊎ (l ∈ literals)
        → (l ∈ literals → (l ∈ earlier) ⊎ (l ∈ once_after earlier literals)) → (l ∈ literals → (l ∈ first ∷ earlier) ⊎ (l ∈ once_after (first ∷ earlier) literals))
        → (l ∈ earlier) ⊎ (l ∈ cond b (once_after earlier literals) (first ∷ once_after (first ∷ earlier) literals))
    go true e (inl same) again below =
        let stood = any_in (same_literal first) earlier e in
        inl (subst (λ (k : Literal). k ∈ earlier) (sym (same ∙ same_literal_lem first stood.0 stood.2)) stood.1)
    go true e (inr further) again below = again further
    go false e (inl same) again below = inr (Memᴰ.head same)
    go false e (inr further) again below = kept (below further)

-- the hypotheses are "equal i j", where the numbers differ, and the literals of the edges walked
pub hypothesis_is : (i j : ℕ) (walked : List Edge) {l : Literal} → l ∈ hypotheses i j walked
    → (l ≡ Literal.equal i j) ⊎ ((edge : Edge) × (edge ∈ walked) × (l ≡ literal_of i edge.guard))
unfolding hypotheses
hypothesis_is i j walked {l} here = go (Memᴰ.append_cases (equal_indices i j) (once_in [] (equal_indices i j ++ map (λ edge. literal_of i edge.guard) walked) here))
  where
    first : (b : Bool) → l ∈ cond b [] (Literal.equal i j ∷ []) → l ≡ Literal.equal i j
    first true here = absurd (Memᴰ.not-nil here)
    first false here = Memᴰ.eq_of_singleton here

    go : (l ∈ equal_indices i j) ⊎ (l ∈ map (λ edge. literal_of i edge.guard) walked) → (l ≡ Literal.equal i j) ⊎ ((edge : Edge) × (edge ∈ walked) × (l ≡ literal_of i edge.guard))
    go (inl equal) = inl (first (eqb i j) equal)
    go (inr along) =
        let from = Memᴰ.of_map (λ (edge : Edge). literal_of i edge.guard) walked along in
        inr (from.0, from.1, sym from.2)

all_stand : (literals : List Literal) {l : Literal} → l ∈ literals → l ∈ once_after [] literals
all_stand literals {l} here = go (once_has [] literals here)
  where
    go : (l ∈ []) ⊎ (l ∈ once_after [] literals) → l ∈ once_after [] literals
    go (inl stood) = absurd (Memᴰ.not-nil stood)
    go (inr stands) = stands

pub edge_hypothesis : (i j : ℕ) (walked : List Edge) (edge : Edge) → edge ∈ walked → literal_of i edge.guard ∈ hypotheses i j walked
unfolding hypotheses
edge_hypothesis i j walked edge here =
    all_stand (equal_indices i j ++ map (λ one. literal_of i one.guard) walked)
    (Memᴰ.append_right (equal_indices i j) (Memᴰ.map (λ (one : Edge). literal_of i one.guard) here))

pub equal_hypothesis : (i j : ℕ) (walked : List Edge) → (i ≡ j) ⊎ (Literal.equal i j ∈ hypotheses i j walked)
unfolding hypotheses
equal_hypothesis i j walked = go (eqb i j) refl
  where
    go : (b : Bool) → eqb i j ≡ b → (i ≡ j) ⊎ (Literal.equal i j ∈ once_after [] (equal_indices i j ++ map (λ edge. literal_of i edge.guard) walked))
    go true e = inl (eqb-true i j e)
    go false e =
        inr
        (all_stand (equal_indices i j ++ map (λ edge. literal_of i edge.guard) walked)
        (Memᴰ.append_left {s = equal_indices i j} (map (λ edge. literal_of i edge.guard) walked) (rw e (Memᴰ.head refl))))

-- no hypothesis is a conclusion
pub not_conclusion : (i j : ℕ) (walked : List Edge) (l : Literal) → l ∈ hypotheses i j walked → is_conclusion l ≡ false
not_conclusion i j walked l here = go (hypothesis_is i j walked here)
  where
    of_guard : (guard : Guard) → is_conclusion (literal_of i guard) ≡ false
    of_guard (Guard.differ index) = refl
    of_guard (Guard.is_true m) = refl
    of_guard (Guard.is_false m) = refl

    go : (l ≡ Literal.equal i j) ⊎ ((edge : Edge) × (edge ∈ walked) × (l ≡ literal_of i edge.guard)) → is_conclusion l ≡ false
    go (inl same) = ap is_conclusion same
    go (inr along) = ap is_conclusion along.2 ∙ of_guard along.0.guard

-- the base terms and Booleans that a literal names are among the given
abbrev pub Within : (bases booleans : ℕ) → Literal → Type 0
Within bases booleans (Literal.equal i j) = (i < bases) × (j < bases)
Within bases booleans (Literal.differ i j) = (i < bases) × (j < bases)
Within bases booleans (Literal.is_true m) = m < booleans
Within bases booleans (Literal.is_false m) = m < booleans
Within bases booleans (Literal.conclusion v u) = (v < bases) × (u < bases)

-- what a literal says goes by the given terms alone
pub says_same : {bases booleans : ℕ} {g h : Assignment} → ((b : ℕ) → b < bases → g.value b ≡ h.value b) → ((m : ℕ) → m < booleans → g.truth m ≡ h.truth m)
    → (l : Literal) → Within bases booleans l → says g l ≡ says h l
says_same values truths (Literal.equal i j) (i_in, j_in) = ap₂ eqb (values i i_in) (values j j_in)
says_same values truths (Literal.differ i j) (i_in, j_in) = ap not (ap₂ eqb (values i i_in) (values j j_in))
says_same values truths (Literal.is_true m) m_in = truths m m_in
says_same values truths (Literal.is_false m) m_in = ap not (truths m m_in)
says_same values truths (Literal.conclusion v u) (v_in, u_in) = ap₂ eqb (values v v_in) (values u u_in)

pub lemma_same : {bases booleans : ℕ} {g h : Assignment} → ((b : ℕ) → b < bases → g.value b ≡ h.value b) → ((m : ℕ) → m < booleans → g.truth m ≡ h.truth m)
    → (literals : List Literal) → ((l : Literal) → l ∈ literals → Within bases booleans l) → lemma_holds g literals ≡ lemma_holds h literals
lemma_same values truths literals within =
    any_same literals (λ l here. ap (λ (b : Bool). cond (is_conclusion l) b (not b)) (says_same values truths l (within l here)))
