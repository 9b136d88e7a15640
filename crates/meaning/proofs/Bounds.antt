-- The bounds that 01 states: pairs, literals, bytes and numbers.
-- Assumes nothing.
use Prim.Native.Nat.{ℕ, suc, ◌+◌, ◌*◌, ◌<◌, ◌≤◌}
use native.Mathlib.Nat.{mul-le-mul}
use native.Mathlib.Omega.{arith}
use mathlib.Core.Path.{◌≡◌, refl}
use mathlib.Core.Bool.{Bool, true, false, cond}
use mathlib.Core.List.{List, [], ◌∷◌, ◌++◌, map}
use lib.Dec.{eqb}
use lib.ListN.{length, length-append, length-map}
use Rattle.paper.specs.Lists.{any, keep, count, sum, range}
use Rattle.paper.specs.Fields.{array}
use Rattle.paper.specs.Terms.{Term, given, Query, Assignment, assigned}
use Rattle.paper.specs.Edges.{Source, sources, index_number, Guard, Edge}
use Rattle.paper.specs.Reach.{reaches, pairs}
use Rattle.paper.specs.Conflict.{Pair}
use Rattle.paper.specs.Lemma.{Literal, literal_of, same_literal, once_after, equal_indices, hypotheses, stays, path, lemma}
use Rattle.meaning.proofs.Lists.{keep_shorter, keep_fewer, range_length, count_append}
use Rattle.meaning.proofs.Counts.{is_equal}
use Rattle.meaning.proofs.Accepted.{Accepted}
use Rattle.meaning.proofs.Sources.{sources_bound, arrays_bound}

pub count_most : {A : Type 0} (test : A → Bool) (xs : List A) → count test xs ≤ length xs
count_most test [] = omega arith
count_most test (x ∷ xs) = go (test x) (count_most test xs)
  where
    go : (b : Bool) → count test xs ≤ length xs → cond b 1 0 + count test xs ≤ suc (length xs)
    go true below = omega arith
    go false below = omega arith

-- "It never exceeds 48 times 302 = 14,496"
pub pairs_bound : {w : ℕ} {query : Query} → Accepted w query → pairs query.terms (assigned query.guess) ≤ 14496
unfolding pairs
pairs_bound {w} {query} ok =
    let most = each (sources query.terms) in
    let product = mul-le-mul (sources_bound ok) (arrays_bound ok) in
    omega (arith, most, product)
  where
    each : (from : List Source)
        → sum (map (λ source. count (reaches query.terms (assigned query.guess) source) (range 0 (given array query.terms))) from) ≤ length from * given array query.terms
    each [] = omega arith
    each (source ∷ from) =
        let below = each from in
        let here = count_most (reaches query.terms (assigned query.guess) source) (range 0 (given array query.terms)) in
        omega (arith, below, here, range_length 0 (given array query.terms))

once_shorter : (earlier literals : List Literal) → length (once_after earlier literals) ≤ length literals
once_shorter earlier [] = omega arith
once_shorter earlier (l ∷ literals) = go (any (same_literal l) earlier) (once_shorter earlier literals) (once_shorter (l ∷ earlier) literals)
  where
    go : (b : Bool) → length (once_after earlier literals) ≤ length literals → length (once_after (l ∷ earlier) literals) ≤ length literals
        → length (cond b (once_after earlier literals) (l ∷ once_after (l ∷ earlier) literals)) ≤ suc (length literals)
    go true again kept = omega arith
    go false again kept = omega arith

once_fewer : (test : Literal → Bool) (earlier literals : List Literal) → count test (once_after earlier literals) ≤ count test literals
once_fewer test earlier [] = omega arith
once_fewer test earlier (l ∷ literals) = go (any (same_literal l) earlier) (once_fewer test earlier literals) (once_fewer test (l ∷ earlier) literals)
  where
    go : (b : Bool) → count test (once_after earlier literals) ≤ count test literals → count test (once_after (l ∷ earlier) literals) ≤ count test literals
        → count test (cond b (once_after earlier literals) (l ∷ once_after (l ∷ earlier) literals)) ≤ cond (test l) 1 0 + count test literals
    go true again kept = omega arith
    go false again kept = omega arith

equal_most : (i j : ℕ) → length (equal_indices i j) ≤ 1
equal_most i j = go (eqb i j)
  where
    go : (b : Bool) → length (cond b [] (Literal.equal i j ∷ [])) ≤ 1
    go true = omega arith
    go false = omega arith

-- the literals of a walk that a test keeps: "equal", one for each edge, and the conclusion, at most
pub walk_literals : (test : Literal → Bool) (s t : Source) (walked : List Edge)
    → length (keep test (hypotheses (index_number s.place) (index_number t.place) walked) ++ (Literal.conclusion s.value t.value ∷ [])) ≤ length walked + 2
unfolding hypotheses
walk_literals test s t walked =
    let i = index_number s.place in
    let j = index_number t.place in
    let raw = equal_indices i j ++ map (λ (edge : Edge). literal_of i edge.guard) walked in
    omega (
      arith,
      length-append (keep test (once_after [] raw)) (Literal.conclusion s.value t.value ∷ []),
      keep_shorter test (once_after [] raw),
      once_shorter [] raw,
      length-append (equal_indices i j) (map (λ (edge : Edge). literal_of i edge.guard) walked),
      length-map walked (λ (edge : Edge). literal_of i edge.guard),
      equal_most i j,
    )

-- "equal" stands at most once, and with a path of fewer steps than there are array terms there are at most 49 literals
module _ (terms : List Term) (g : Assignment) (pair : Pair) where
  pub equal_once : count is_equal (lemma terms g pair) ≤ 1
  unfolding lemma hypotheses
  equal_once =
      let i = index_number pair.first.place in
      let j = index_number pair.later.place in
      let raw = equal_indices i j ++ map (λ (edge : Edge). literal_of i edge.guard) (path terms g pair) in
      omega (
        arith,
        count_append is_equal (keep (stays terms) (once_after [] raw)) (Literal.conclusion pair.first.value pair.later.value ∷ []),
        keep_fewer (stays terms) is_equal (once_after [] raw),
        once_fewer is_equal [] raw,
        count_append is_equal (equal_indices i j) (map (λ (edge : Edge). literal_of i edge.guard) (path terms g pair)),
        count_most is_equal (equal_indices i j),
        equal_most i j,
        along i (path terms g pair),
      )
    where
      of_guard : (i : ℕ) (guard : Guard) → is_equal (literal_of i guard) ≡ false
      of_guard i (Guard.differ index) = refl
      of_guard i (Guard.is_true m) = refl
      of_guard i (Guard.is_false m) = refl

      along : (i : ℕ) (edges : List Edge) → count is_equal (map (λ (edge : Edge). literal_of i edge.guard) edges) ≡ 0
      along i [] = refl
      along i (edge ∷ edges) = rw (of_guard i edge.guard, along i edges)

  pub literals_bound : length (path terms g pair) < given array terms → given array terms ≤ 48 → length (lemma terms g pair) ≤ 49
  unfolding lemma
  literals_bound short few = omega (arith, walk_literals (stays terms) pair.first pair.later (path terms g pair))
