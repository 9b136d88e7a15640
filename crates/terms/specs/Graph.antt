-- The graph that the tables hold, for the layers above: rows of sources and edges name terms alone, and the guess is read through values and truths.
-- Assumes nothing.
use Rattle.std.specs.Prelude.{ℕ, zero, suc, ◌/◌, ◌%◌, ◌<◌, ◌≤◌, ◌≡◌, Bool, false, cond, List, [], ◌∷◌, map, eqb, get_or, take, Option, Some, None}
use Rattle.paper.specs.Sizes.{max_sources, max_edges}
use Rattle.paper.specs.Lists.{concat_map}
use Rattle.paper.specs.Fields.{Series, base, boolean, array}
use Rattle.paper.specs.Terms.{is_fixed, Query, assigned}
use Rattle.paper.specs.Edges.{Source, index_number, sources, Guard, Edge, open_edges}
use Rattle.terms.specs.declared.graph.Guard.{Guard as Found}
use Rattle.terms.specs.declared.graph.Guard.TheVariants.{Differ, IsTrue, IsFalse}
use Rattle.terms.specs.declared.graph.Edge.{Edge as FoundEdge}
use Rattle.terms.specs.declared.Tables.{Tables}
use Rattle.terms.specs.Tables.{fixed_in, source_in, edges_in}
use Rattle.faults.specs.Faults.{count_in}

-- is the row a write's whose index has value x?
unfoldable pub shut_to : (values : List ℕ) (x row : ℕ) → Bool
shut_to values x row = cond (eqb (row / 67108864) 0) (eqb (get_or values (row / 262144 % 256) 0) x) false

-- the edge of a row that is open to index value x: none, or one; of a conditional always one
abbrev pub open_of : (values truths : List ℕ) (x left right other number guard : ℕ) → List Edge
open_of values truths x left right other number zero = cond (eqb (get_or values number 0) x) [] (record { left = left; right = right; guard = Guard.differ number } ∷ [])
open_of values truths x left right other number (suc zero) =
    cond (eqb 1 (get_or truths (number % 64) 0)) (record { left = left; right = right; guard = Guard.is_true number } ∷ []) (record { left = left; right = other; guard = Guard.is_false number } ∷ [])
open_of values truths x left right other number (suc (suc guard)) =
    cond (eqb 1 (get_or truths (number % 64) 0)) (record { left = left; right = right; guard = Guard.is_true number } ∷ []) []

unfoldable pub open_in : (values truths : List ℕ) (x row : ℕ) → List Edge
open_in values truths x row = open_of values truths x (row % 64) (row / 64 % 64) (row / 4096 % 64) (row / 262144 % 256) (row / 67108864)

-- what a row joins to those index values that do not shut it: where every base term is 0, no write is shut to 1
abbrev pub may_open : (truths : List ℕ) (row : ℕ) → List Edge
may_open truths row = open_in [] truths 1 row

-- the edges of the table that are open to index value x, in order
abbrev pub opened : Tables → (x : ℕ) → List Edge
opened t x = concat_map (open_in t.values t.truths x) (take t.counts.edges t.edges)

-- what the code finds of a row: its edge, if it is open
abbrev pub guard_found : Found → Guard
guard_found (Differ index) = Guard.differ index
guard_found (IsTrue m) = Guard.is_true m
guard_found (IsFalse m) = Guard.is_false m

abbrev pub edge_found : FoundEdge → Edge
edge_found e = record { left = e.left; right = e.right; guard = guard_found e.guard }

abbrev pub edges_found : Option FoundEdge → List Edge
edges_found (Some e) = edge_found e ∷ []
edges_found None = []

-- a property of each of a list
abbrev pub Each : {A : Type 0} → (A → Type 0) → List A → Type 0
Each P [] = Unit {0}
Each P (x ∷ xs) = P x × Each P xs

-- what a source, a guard, an edge name is given
abbrev pub SourceWithin : (Series → ℕ) → Source → Type 0
SourceWithin c s = (s.origin < c array) × (index_number s.place < c base) × (s.value < c base)

abbrev pub GuardWithin : (Series → ℕ) → Guard → Type 0
GuardWithin c (Guard.differ index) = index < c base
GuardWithin c (Guard.is_true m) = m < c boolean
GuardWithin c (Guard.is_false m) = m < c boolean

abbrev pub EdgeWithin : (Series → ℕ) → Edge → Type 0
EdgeWithin c e = (e.left < c array) × (e.right < c array) × GuardWithin c e.guard

-- all that the layers above use of the tables of an accepted query
pub record Graphed (query : Query) (t : Tables) : Type 0 where
  pub sources : map source_in (take t.counts.sources t.sources) ≡ sources query.terms
  pub few_sources : t.counts.sources ≤ max_sources
  pub within_sources : Each (λ row. SourceWithin (count_in t.counts) (source_in row)) (take t.counts.sources t.sources)
  pub opened : (x : ℕ) → opened t x ≡ open_edges query.terms (assigned query.guess) x
  pub few_edges : t.counts.edges ≤ max_edges
  pub within_edges : Each (λ row. Each (EdgeWithin (count_in t.counts)) (edges_in row)) (take t.counts.edges t.edges)
  pub value : (b : ℕ) → b < t.counts.bases → get_or t.values b 0 ≡ (assigned query.guess).value b
  pub truth : (m : ℕ) → m < t.counts.booleans → eqb 1 (get_or t.truths m 0) ≡ (assigned query.guess).truth m
  pub fixed : (b : ℕ) → b < t.counts.bases → is_fixed query.terms b ≡ fixed_in t.reads b
