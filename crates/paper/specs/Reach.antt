-- 01, Sources, edges, reach: walks, which say what reach is; distances, which compute it; and the pair count.
-- Assumes nothing.
use Rattle.std.specs.Prelude.{ℕ, zero, suc, ◌+◌, Bool, true, false, cond, ◌≡◌, ◌⊎◌, eqb, leb, get_or}
use mathlib.Core.List.{List, [], ◌∷◌, map, foldr}
use Rattle.std.proofs.Math.Option.{Option, none, some}
use Rattle.paper.specs.Lists.{◌∈◌, is_some, map_option, bind_option, count, sum, range}
use Rattle.paper.specs.Fields.{array}
use Rattle.paper.specs.Terms.{Term, given, Assignment}
use Rattle.paper.specs.Edges.{index_number, Source, sources, Guard, Edge, open_edges}

-- "An edge can be walked both ways"
abbrev pub Joins : Edge → (from to : ℕ) → Type 0
Joins edge from to = ((edge.left ≡ from) × (edge.right ≡ to)) ⊎ ((edge.right ≡ from) × (edge.left ≡ to))

-- "a walk (perhaps of no step)" over the given edges, with the list of the edges walked
pub data Walk (among : List Edge) : ℕ → List Edge → ℕ → Type 0 where
  stay : {a : ℕ} → Walk among a [] a
  step : {a b c : ℕ} {edge : Edge} {walked : List Edge} → edge ∈ among → Joins edge a b → Walk among b walked c → Walk among a (edge ∷ walked) c

-- the index value of a source
abbrev pub index_value : Assignment → Source → ℕ
index_value g source = g.value (index_number source.place)

-- "A source reaches an array term if a walk over edges open to the source's index value leads there from its origin"
abbrev pub Reaches : List Term → Assignment → Source → (a : ℕ) → Type 0
Reaches terms g source a = (walked : List Edge) × Walk (open_edges terms g (index_value g source)) source.origin walked a

-- the other end of an edge, walked from an array term that it joins
abbrev pub across : (from : ℕ) → Edge → Option ℕ
across from edge = cond (eqb edge.left from) (some edge.right) (cond (eqb edge.right from) (some edge.left) none)

abbrev pub least : Option ℕ → Option ℕ → Option ℕ
least none other = other
least (some m) none = some m
least (some m) (some n) = cond (leb m n) (some m) (some n)

-- Distances, where a step over an edge has a cost, by its guard
module _ (cost : Guard → ℕ) where
  abbrev pub costs : List Edge → ℕ
  costs walked = sum (map (λ edge. cost edge.guard) walked)

  -- the distance by way of an edge, where the table has the distances of one round before
  abbrev pub over : List (Option ℕ) → (from : ℕ) → Edge → Option ℕ
  over table from edge = bind_option (across from edge) (λ to. map_option (λ distance. cost edge.guard + distance) (get_or table to none))

  -- the least cost of a walk of at most so many steps from each of the first n array terms to the goal, where there is one
  abbrev pub near : List Edge → (n goal rounds : ℕ) → List (Option ℕ)
  near among n goal zero = map (λ a. cond (eqb a goal) (some 0) none) (range 0 n)
  near among n goal (suc rounds) =
      let table = near among n goal rounds in
      map (λ a. foldr (λ edge nearest. least (over table a edge) nearest) (get_or table a none) among) (range 0 n)

-- a write edge: one that stands for a comparison of two indices
abbrev pub is_write : Guard → Bool
is_write (Guard.differ index) = true
is_write (Guard.is_true m) = false
is_write (Guard.is_false m) = false

-- the write edges of a walk, each as often as it is walked
abbrev pub writes : List Edge → ℕ
writes walked = count (λ edge. is_write edge.guard) walked

-- 02, E6: "the fewest write edges, and among those the fewest edges". Of 48 array terms a walk that comes nowhere twice has at most 47
-- edges, so a write costs more than all edges that it could spare: least cost is 48 times the writes plus the edges.
abbrev pub step_cost : Guard → ℕ
step_cost guard = cond (is_write guard) 49 1

module _ (terms : List Term) (g : Assignment) where
  -- the distance from each array term to the goal, over the edges open to index value x: no walk of least cost has more steps than
  -- there are array terms
  unfoldable pub distances : (x goal : ℕ) → List (Option ℕ)
  distances x goal = near step_cost (open_edges terms g x) (given array terms) goal (given array terms)

  -- is there a walk from a source's origin to a, over the edges open to index value x?
  unfoldable pub reaches_at : (x : ℕ) → Source → (a : ℕ) → Bool
  reaches_at x source a = is_some (get_or (distances x source.origin) a none)

  unfoldable pub reaches : Source → (a : ℕ) → Bool
  reaches source a = reaches_at (index_value g source) source a

  -- "the number of pairs (array term, source) where the source reaches the term"
  unfoldable pub pairs : ℕ
  pairs = sum (map (λ source. count (reaches source) (range 0 (given array terms))) (sources terms))
