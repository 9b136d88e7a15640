-- 01, The lemma, over the code's tables: which edge a path takes next, and the edges that a path names.
-- Assumes nothing.
use Rattle.std.specs.Prelude.{ℕ, ◌+◌, ◌/◌, ◌%◌, ◌<◌, ◌≤◌, ◌≡◌, Bool, true, false, cond, List, [], ◌∷◌, map, eqb, length, get_or, take, Some, None}
use Rattle.std.specs.Prelude.{Option as Found}
use Rattle.std.proofs.Math.Option
use Rattle.std.proofs.Math.Option.{Option, none, some}
use Rattle.paper.specs.Sizes.{max_arrays, max_edges}
use Rattle.paper.specs.Lists.{map_option, keep, find, range}
use Rattle.paper.specs.Edges.{Guard, Edge}
use Rattle.paper.specs.Reach.{across, near, step_cost}
use Rattle.paper.specs.Lemma.{path_from}
use Rattle.terms.specs.declared.Tables.{Tables}
use Rattle.terms.specs.declared.graph.Edge.{Edge as FoundEdge}
use Rattle.terms.specs.Graph.{open_in, edge_found}
use Rattle.reach.specs.Reached.{reached_in}
use Rattle.costs.specs.Distances.{entry_of}

-- the rows of edges that are lent, with the guess that opens them
pub record EdgeTable : Type 0 where
  pub values : List ℕ
  pub truths : List ℕ
  pub rows : List ℕ
  pub count : ℕ

abbrev pub table_of : (values truths rows : List ℕ) (count : ℕ) → EdgeTable
table_of values truths rows count = record { values = values; truths = truths; rows = rows; count = count }

-- those of the tables
abbrev pub table_in : Tables → EdgeTable
table_in t = table_of t.values t.truths t.edges t.counts.edges

abbrev pub ways_at : EdgeTable → (x k : ℕ) → List Edge
ways_at e x k = open_in e.values e.truths x (get_or e.rows k 0)

abbrev pub is_there : List Edge → Bool
is_there [] = false
is_there (edge ∷ edges) = true

abbrev pub first_of : List Edge → Edge
first_of [] = record { left = 0; right = 0; guard = Guard.differ 0 }
first_of (edge ∷ edges) = edge

-- is row k open to index value x, and its edge that is
abbrev pub open_at : EdgeTable → (x k : ℕ) → Bool
open_at e x k = is_there (ways_at e x k)

abbrev pub edge_at : EdgeTable → (x k : ℕ) → Edge
edge_at e x k = first_of (ways_at e x k)

abbrev pub opened : EdgeTable → (x : ℕ) → List Edge
opened e x = map (edge_at e x) (keep (open_at e x) (range 0 e.count))

-- the tables are within their bounds, and every end is an array term
pub record Ends (e : EdgeTable) (x n : ℕ) : Type 0 where
  pub edges : e.count ≤ max_edges
  pub arrays : n ≤ max_arrays
  pub left : (k : ℕ) → k < e.count → (edge_at e x k).left < n
  pub right : (k : ℕ) → k < e.count → (edge_at e x k).right < n

-- the distance from a to b, as the table holds it
abbrev pub distance_at : (distances : List (List ℕ)) → (a b : ℕ) → ℕ
distance_at distances a b = get_or (get_or distances a []) b 0

-- the other end of an edge, and a itself where the edge does not join it
abbrev pub far_end : Edge → (a : ℕ) → ℕ
far_end edge a = Option.get_or (across a edge) a

-- the same of edge k
abbrev pub other_end : EdgeTable → (x k a : ℕ) → ℕ
other_end e x k a = far_end (edge_at e x k) a

-- is the one distance what is left of the other after a step of that cost?
abbrev pub step_less : (onward cost away : ℕ) → Bool
step_less onward cost away = eqb ((onward + cost) % 128) away

-- is the other end of an edge nearer to the goal than a by what the step costs?
abbrev pub nearer_over : Edge → (distances : List (List ℕ)) → (a goal : ℕ) → Bool
nearer_over edge distances a goal = step_less (distance_at distances (far_end edge a) goal) (step_cost edge.guard) (distance_at distances a goal)

-- of the edges of a row, of which one is open or none, that which leads nearer; and the ends of the one that is open are array terms
abbrev pub nearer_in : List Edge → (distances : List (List ℕ)) → (a goal : ℕ) → List Edge
nearer_in [] distances a goal = []
nearer_in (edge ∷ edges) distances a goal = cond (nearer_over edge distances a goal) (edge ∷ []) []

abbrev pub RowWithin : List Edge → Type 0
RowWithin edges = ((first_of edges).left < max_arrays) × ((first_of edges).right < max_arrays)

-- can a row join array term a?
abbrev pub touches_in : (row a : ℕ) → Bool
touches_in row a = cond (eqb (row % 64) a) true (cond (eqb (row / 64 % 64) a) true (eqb (row / 4096 % 64) a))

-- is edge k open to x, and is its other end nearer to the goal than a by what the step costs?
abbrev pub nearer_by : EdgeTable → (distances : List (List ℕ)) → (x a goal k : ℕ) → Bool
nearer_by e distances x a goal k = cond (open_at e x k) (nearer_over (edge_at e x k) distances a goal) false

-- "the lowest-numbered open edge that lies on such a path", with its number, if there is one
unfoldable pub nearer_edge : EdgeTable → (distances : List (List ℕ)) → (x a goal : ℕ) → Option (ℕ × Edge)
nearer_edge e distances x a goal = map_option (λ k. (k, edge_at e x k)) (find (nearer_by e distances x a goal) (range 0 e.count))

-- what the code's answer says
abbrev pub edge_numbered : Found (ℕ × FoundEdge) → Option (ℕ × Edge)
edge_numbered (Some (k, edge)) = some (k, edge_found edge)
edge_numbered None = none

-- the table holds the distances over the edges open to x
abbrev pub DistancesOf : EdgeTable → (x n : ℕ) → (distances : List (List ℕ)) → Type 0
DistancesOf e x n distances =
    (a b : ℕ) → a < n → b < n → distance_at distances a b ≡ entry_of (get_or (near step_cost (opened e x) n b n) a none)

-- what the path is asked of: tables within their bounds, their distances, and a goal that is reached
pub record Asked (e : EdgeTable) (x n from goal : ℕ) (distances : List (List ℕ)) : Type 0 where
  pub ends : Ends e x n
  pub from_in : from < n
  pub goal_in : goal < n
  pub distances_are : DistancesOf e x n distances
  pub reached : reached_in (opened e) n x goal from ≡ true

-- the edges that a path walks, in order: its first cells hold their numbers
abbrev pub walked_by : EdgeTable → (x : ℕ) (path : List ℕ) (steps : ℕ) → List Edge
walked_by e x path steps = map (edge_at e x) (take steps path)

-- the edges of the path are in the table, and open
pub record Walkable (e : EdgeTable) (x : ℕ) (path : List ℕ) (steps : ℕ) : Type 0 where
  pub whole : length path ≡ max_arrays
  pub numbered : (k : ℕ) → k < steps → get_or path k 0 < e.count
  pub open_to_lem : (k : ℕ) → k < steps → open_at e x (get_or path k 0) ≡ true

-- "The path shall have the fewest write edges, and among those the fewest edges; at each step the lowest-numbered open edge that lies on
-- such a path": over the edges of the table that are open, and fewer than there are array terms
pub record PathOf (e : EdgeTable) (x n from goal : ℕ) (path : List ℕ) (steps : ℕ) : Type 0 where
  pub walked : walked_by e x path steps ≡ path_from step_cost n (opened e x) (near step_cost (opened e x) n goal n) from
  pub short : steps < n
  pub ways : Walkable e x path steps
