-- 02, E7, Growing a query: where known queries can be cut, what their fronts answer, and G1, which grows into G2; their rows of the table. And
-- what is a front.
-- Assumes nothing.
use Prim.Native.Nat.{ℕ}
use mathlib.Core.Path.{◌≡◌, refl}
use mathlib.Core.Bool.{true, or-true, false≢true}
use mathlib.Core.List.Memᴰ
use mathlib.Core.List.{List, [], ◌∷◌, ◌++◌}
use lib.Dec.{eqb}
use lib.ListN.{take, replicate}
use Rattle.paper.specs.Lists.{◌∈◌, any}
use Rattle.paper.specs.Fields.{item_at}
use Rattle.paper.specs.Fronts.{IsFront}
use Rattle.paper.specs.Answers.{Verdict}
use Rattle.paper.proofs.Rows.{Row, cut_at, fronts, conflict_in, refused_in, conflict_of, refused}
use Rattle.paper.proofs.Queries.{free_base, variable, read, equals, concludes, k1, k3, k6_with, k11tag, k11short, k11length}

-- G1: sources 1 and 2 conflict, at one index term. G2 has a read more: source 0 conflicts with it, at two index terms of one value, so
-- that another lemma is given, and a longer one.
abbrev pub g1 : List ℕ
g1 = free_base 5 ++ free_base 5 ++ variable ++ variable ++ read 0 0 6 ++ read 1 0 7 ++ read 1 0 9

abbrev pub g2 : List ℕ
g2 = g1 ++ read 0 1 8

-- where they can be cut: where a field begins, also a broken one, and at the end
unfoldable pub cutting : List Row
cutting =
    cut_at k1 (0 ∷ 7 ∷ 14 ∷ 17 ∷ 28 ∷ 39 ∷ [])
    ∷ cut_at [] (0 ∷ [])
    ∷ cut_at (k3 ++ k11tag) (0 ∷ 7 ∷ 10 ∷ 21 ∷ 32 ∷ 35 ∷ [])
    ∷ cut_at k11short (0 ∷ 5 ∷ [])
    ∷ cut_at (k11length ++ variable) (0 ∷ 6 ∷ [])
    ∷ []

-- each front is accepted; a conflict stays, but for a refusal: 10, where a lemma has grown out of the buffer, or one of the query. Consistent
-- fronts say nothing of the whole
unfoldable pub growing : List Row
growing =
    fronts g2 (replicate 7 Verdict.consistent ++ replicate 2 Verdict.in_conflict)
    ∷ fronts (k6_with 0 1) (replicate 15 Verdict.consistent ++ replicate 1 Verdict.in_conflict)
    ∷ fronts (k6_with 1 0) (replicate 16 Verdict.consistent)
    ∷ conflict_of g1 3 (concludes 3 4)
    ∷ conflict_of g2 4 (equals 0 1 ++ concludes 2 5)
    ∷ conflict_in g1 7 3 (concludes 3 4)
    ∷ refused_in g2 7 10 0
    ∷ refused_in g2 13 10 0
    ∷ conflict_in g2 14 4 (equals 0 1 ++ concludes 2 5)
    ∷ refused (k3 ++ k11tag) 3 32
    ∷ []

-- K1's first three fields are a front of it
pub three_fields : IsFront 32 (free_base 5 ++ free_base 5 ++ variable) k1
unfolding item_at
three_fields = (read 0 0 7 ++ read 0 1 9, refl, Memᴰ.tail (Memᴰ.tail (Memᴰ.tail (Memᴰ.head refl))))

-- and its first five bytes are none
pub five_bytes : IsFront 32 (take 5 k1) k1 → ⊥
unfolding item_at
five_bytes (rest, is, here) = false≢true (among (0 ∷ 7 ∷ 14 ∷ 17 ∷ 28 ∷ 39 ∷ []) here)
  where
    among : (places : List ℕ) → 5 ∈ places → any (eqb 5) places ≡ true
    among [] here = elim here [ ]
    among (place ∷ places) (Memᴰ.head same) = rw (← same)
    among (place ∷ places) (Memᴰ.tail further) = rw (among places further) (or-true (eqb 5 place))
