-- 01, Sources, edges, reach, over the open edges and the sources that the lent rows say: what a row, a pair count and a link are to be.
-- Assumes nothing.
use Rattle.std.specs.Prelude.{ℕ, ◌+◌, ◌*◌, ◌/◌, ◌%◌, ◌^◌, ◌<◌, ◌≤◌, ◌≡◌, Bool, cond, List, map, get_or, take}
use Rattle.std.proofs.Math.Option.{none}
use Rattle.paper.specs.Sizes.{max_arrays, max_sources}
use Rattle.paper.specs.Lists.{◌∈◌, is_some, count, sum, range, concat_map}
use Rattle.paper.specs.Edges.{Edge}
use Rattle.paper.specs.Reach.{near, step_cost}
use Rattle.terms.specs.declared.Tables.{Tables}
use Rattle.terms.specs.Graph.{open_in}
use Rattle.reach.specs.declared.marks.Mark.{Mark}

-- the edges open to each index value
abbrev pub Edges : Type 0
Edges = ℕ → List Edge

-- those of the rows that are lent
abbrev pub open_to : (values truths rows : List ℕ) (count : ℕ) → Edges
open_to values truths rows count x = concat_map (open_in values truths x) (take count rows)

-- the sources, as their rows and the values of the base terms say them
pub record Sources : Type 0 where
  pub sources : List ℕ
  pub values : List ℕ
  pub count : ℕ

abbrev pub sources_of : (values sources : List ℕ) (count : ℕ) → Sources
sources_of values sources count = record { sources = sources; values = values; count = count }

-- the open edges and the sources of tables
abbrev pub opens_in : Tables → Edges
opens_in t = open_to t.values t.truths t.edges t.counts.edges

abbrev pub sources_in : Tables → Sources
sources_in t = sources_of t.values t.sources t.counts.sources

-- is there a walk from the origin to a, over the edges open to index value x?
unfoldable pub reached_in : Edges → (n x origin a : ℕ) → Bool
reached_in e n x origin a = is_some (get_or (near step_cost (e x) n origin n) a none)

-- bit a of a row
abbrev pub bit : (row a : ℕ) → ℕ
bit row a = row / 2 ^ a % 2

-- "It never exceeds 48 times 302": so many rows suffice
abbrev pub max_rows : ℕ
max_rows = 302

-- the row of a mark: three numbers of sixteen bits, the lowest first
abbrev pub row_of : Mark → ℕ
row_of mark = mark.low + mark.middle * 65536 + mark.high * 4294967296

-- the rows of the marks, and the links
abbrev pub rows_in : List Mark → List ℕ
rows_in marks = map row_of marks

abbrev pub links_in : List Mark → List ℕ
links_in marks = map (λ mark. mark.next) marks

-- the origin, the index value and the assigned value of source k
abbrev pub origin_at : Sources → ℕ → ℕ
origin_at s k = get_or s.sources k 0 % 256

abbrev pub value_at : Sources → ℕ → ℕ
value_at s k = get_or s.values (get_or s.sources k 0 / 256 % 256) 0

abbrev pub assigned_at : Sources → ℕ → ℕ
assigned_at s k = get_or s.values (get_or s.sources k 0 / 65536 % 256) 0

-- every end is an array term
pub record Ends (e : Edges) (n : ℕ) : Type 0 where
  pub arrays : n ≤ max_arrays
  pub ranged : (x : ℕ) (edge : Edge) → edge ∈ e x → (edge.left < n) × (edge.right < n)

-- and so is every origin
pub record Fit (e : Edges) (s : Sources) (n : ℕ) : Type 0 where
  pub ends : Ends e n
  pub sources : s.count ≤ max_sources
  pub origin : (k : ℕ) → k < s.count → origin_at s k < n

-- a row has a bit for each array term that is reached, and no other
abbrev pub RowOf : Edges → (n x origin row : ℕ) → Type 0
RowOf e n x origin row = (a : ℕ) → bit row a ≡ cond (reached_in e n x origin a) 1 0

-- how many array terms source k reaches
abbrev pub pairs_of : Edges → Sources → (n k : ℕ) → ℕ
pairs_of e s n k = count (reached_in e n (value_at s k) (origin_at s k)) (range 0 n)

-- the least later source with the index value of source k, or the number of sources where there is none
pub record NextOf (s : Sources) (k next : ℕ) : Type 0 where
  pub later : k < next
  pub within : next ≤ s.count
  pub same : next < s.count → value_at s next ≡ value_at s k
  pub between : (t : ℕ) → k < t → t < next → value_at s t ≡ value_at s k → ⊥

-- "the number of pairs (array term, source) where the source reaches the term", and each source's row and link
pub record Marked (e : Edges) (s : Sources) (n : ℕ) (words links : List ℕ) (total : ℕ) : Type 0 where
  pub pairs : total ≡ sum (map (pairs_of e s n) (range 0 s.count))
  pub rows : (k : ℕ) → k < s.count → RowOf e n (value_at s k) (origin_at s k) (get_or words k 0)
  pub next : (k : ℕ) → k < s.count → NextOf s k (get_or links k 0)
