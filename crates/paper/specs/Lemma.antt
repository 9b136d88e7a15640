-- 01, The lemma: the path, the literals, what they say, and their bytes.
-- Assumes nothing.
use Rattle.std.specs.Prelude.{ℕ, zero, suc, ◌*◌, ◌/◌, ◌%◌, Bool, true, false, cond, not, ◌&&◌, List, [], ◌∷◌, ◌++◌, map, eqb, length, get_or}
use Rattle.std.proofs.Math.Option
use Rattle.std.proofs.Math.Option.{Option, none, some}
use Rattle.paper.specs.Lists.{any, keep, find, list_from, concat_map, same_numbers}
use Rattle.paper.specs.Fields.{array}
use Rattle.paper.specs.Terms.{Term, given, is_fixed, Assignment}
use Rattle.paper.specs.Edges.{index_number, Guard, Edge, open_edges}
use Rattle.paper.specs.Reach.{index_value, across, over, step_cost, distances}
use Rattle.paper.specs.Conflict.{Pair}

abbrev pub same_distance : Option ℕ → Option ℕ → Bool
same_distance none other = false
same_distance (some m) none = false
same_distance (some m) (some n) = eqb m n

module _ (cost : Guard → ℕ) where
  -- is an edge on a walk of least cost from a: does the rest of the way cost just so much less?
  abbrev pub leads_nearer : List (Option ℕ) → (a : ℕ) → Edge → Bool
  leads_nearer table a edge = same_distance (over cost table a edge) (get_or table a none)

  -- 02, E6: "at each step the lowest-numbered open edge that lies on such a path"
  abbrev pub path_from : (bound : ℕ) → List Edge → List (Option ℕ) → (a : ℕ) → List Edge
  path_from zero among table a = []
  path_from (suc bound) among table a =
      list_from (find (leads_nearer table a) among) (λ edge. edge ∷ path_from bound among table (Option.get_or (across a edge) a))

-- "equal", "differ", "true", "false" and the conclusion, with their term numbers
pub data Literal : Type 0 where
  equal differ : (i j : ℕ) → Literal
  is_true is_false : (m : ℕ) → Literal
  conclusion : (v u : ℕ) → Literal

-- what the paper puts for an edge of the path: i is the index of s
abbrev pub literal_of : (i : ℕ) → Guard → Literal
literal_of i (Guard.differ j) = Literal.differ i j
literal_of i (Guard.is_true m) = Literal.is_true m
literal_of i (Guard.is_false m) = Literal.is_false m

-- a literal's field: tag, then term numbers
abbrev pub tagged : Literal → List ℕ
tagged (Literal.equal i j) = 0x21 ∷ i ∷ j ∷ []
tagged (Literal.differ i j) = 0x22 ∷ i ∷ j ∷ []
tagged (Literal.is_true m) = 0x23 ∷ m ∷ []
tagged (Literal.is_false m) = 0x24 ∷ m ∷ []
tagged (Literal.conclusion v u) = 0x25 ∷ v ∷ u ∷ []

abbrev pub same_literal : Literal → Literal → Bool
same_literal l k = same_numbers (tagged l) (tagged k)

-- "A repeated literal stands once, at its first place": those after a list of earlier ones
abbrev pub once_after : List Literal → List Literal → List Literal
once_after earlier [] = []
once_after earlier (l ∷ literals) =
    cond (any (same_literal l) earlier) (once_after earlier literals) (l ∷ once_after (l ∷ earlier) literals)

-- "index of s equal to index of t (left out if both are one base number)"
abbrev pub equal_indices : (i j : ℕ) → List Literal
equal_indices i j = cond (eqb i j) [] (Literal.equal i j ∷ [])

-- what the lemma supposes, of indices i and j and a path
unfoldable pub hypotheses : (i j : ℕ) → List Edge → List Literal
hypotheses i j path = once_after [] (equal_indices i j ++ map (λ edge. literal_of i edge.guard) path)

-- 02, E1: "An 'equal' or 'differ' between two fixed numbers is left out of the lemma"
abbrev pub left_out : (ℕ → Bool) → Literal → Bool
left_out fixed (Literal.equal i j) = fixed i && fixed j
left_out fixed (Literal.differ i j) = fixed i && fixed j
left_out fixed (Literal.is_true m) = false
left_out fixed (Literal.is_false m) = false
left_out fixed (Literal.conclusion v u) = false

abbrev pub stays : List Term → Literal → Bool
stays terms l = not (left_out (is_fixed terms) l)

module _ (terms : List Term) (g : Assignment) where
  -- from s's origin to t's origin, 02, E6: "The path shall have the fewest write edges, and among those the fewest edges"
  unfoldable pub path : Pair → List Edge
  path pair =
      let x = index_value g pair.first in
      path_from step_cost (given array terms) (open_edges terms g x) (distances terms g x pair.later.origin) pair.first.origin

  -- "Literals, in order: .. Last the conclusion"; 02, E1: "a conclusion always stays"
  unfoldable pub lemma : Pair → List Literal
  lemma pair =
      keep (stays terms) (hypotheses (index_number pair.first.place) (index_number pair.later.place) (path pair))
      ++ (Literal.conclusion pair.first.value pair.later.value ∷ [])

-- what a literal says
abbrev pub says : Assignment → Literal → Bool
says g (Literal.equal i j) = eqb (g.value i) (g.value j)
says g (Literal.differ i j) = not (eqb (g.value i) (g.value j))
says g (Literal.is_true m) = g.truth m
says g (Literal.is_false m) = not (g.truth m)
says g (Literal.conclusion v u) = eqb (g.value v) (g.value u)

abbrev pub is_conclusion : Literal → Bool
is_conclusion (Literal.equal i j) = false
is_conclusion (Literal.differ i j) = false
is_conclusion (Literal.is_true m) = false
is_conclusion (Literal.is_false m) = false
is_conclusion (Literal.conclusion v u) = true

-- a lemma holds if some hypothesis fails or the conclusion holds
abbrev pub lemma_holds : Assignment → List Literal → Bool
lemma_holds g literals = any (λ l. cond (is_conclusion l) (says g l) (not (says g l))) literals

-- "Fields: .. each length 4 with two base numbers; .. length 2"
abbrev pub two_bytes : ℕ → List ℕ
two_bytes x = x / 256 ∷ x % 256 ∷ []

abbrev pub field_bytes : List ℕ → List ℕ
field_bytes [] = []
field_bytes (tag ∷ numbers) = tag ∷ two_bytes (2 * length numbers) ++ concat_map two_bytes numbers

abbrev pub lemma_bytes : List Literal → List ℕ
lemma_bytes literals = concat_map (λ l. field_bytes (tagged l)) literals
