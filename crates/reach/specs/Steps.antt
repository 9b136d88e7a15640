-- The words of the functions between the tables and the marks: adjacency words, and rows spread over them.
-- Assumes nothing.
use Rattle.std.specs.Prelude.{ℕ, ◌+◌, ◌/◌, ◌%◌, ◌^◌, ◌<◌, ◌≤◌, ◌≡◌, ◌⊎◌, Bool, true, false, cond, List, map, eqb, length, get_or, set, take}
use Rattle.std.specs.Int.Bits.{bit_or, bit_xor}
use Rattle.paper.specs.Sizes.{max_arrays, max_sources, max_edges}
use Rattle.paper.specs.Lists.{◌∈◌, count, sum, range, concat_map}
use Rattle.paper.specs.Reach.{Joins}
use Rattle.paper.specs.Edges.{Edge}
use Rattle.terms.specs.Tables.{edges_in}
use Rattle.terms.specs.Graph.{shut_to, open_in, may_open, Each}
use Rattle.reach.specs.Reached.{Edges, Sources, Fit, bit, origin_at, value_at, RowOf, pairs_of, NextOf}
use Rattle.reach.specs.declared.Spread.{Spread}

-- one of the edges joins a and b
abbrev pub Joined : List Edge → (a b : ℕ) → Type 0
Joined edges a b = (edge : Edge) × (edge ∈ edges) × Joins edge a b

-- 48 words, of which word a has bit b exactly if one of the edges joins a and b
pub record Adjacent (edges : List Edge) (words : List ℕ) : Type 0 where
  pub sound : (a b : ℕ) → bit (get_or words a 0) b ≡ 1 → Joined edges a b
  pub complete : (a b : ℕ) → Joined edges a b → bit (get_or words a 0) b ≡ 1
  pub small : (a : ℕ) → get_or words a 0 < 2 ^ 48
  pub long : length words ≡ max_arrays

abbrev pub EndsBelow : ℕ → Edge → Type 0
EndsBelow n edge = (edge.left < n) × (edge.right < n)

-- the rows of edges that are lent: their ends are array terms
pub record Lent (rows : List ℕ) (count n : ℕ) : Type 0 where
  pub arrays : n ≤ max_arrays
  pub long : length rows ≡ max_edges
  pub few : count ≤ max_edges
  pub ends : (k : ℕ) → k < count → Each (EndsBelow n) (edges_in (get_or rows k 0))

-- bit b put into word a
abbrev pub with_bit : List ℕ → (a b : ℕ) → List ℕ
with_bit words a b = set words a (bit_or (get_or words a 0) (2 ^ b))

-- an edge put into the words of both its ends
abbrev pub with_edge : (left right : ℕ) → List ℕ → List ℕ
with_edge left right words = with_bit (with_bit words left right) right left

-- bit b taken out of word a
abbrev pub without_bit : List ℕ → (a b : ℕ) → List ℕ
without_bit words a b = set words a (bit_xor (bit_or (get_or words a 0) (2 ^ b)) (2 ^ b))

-- an edge taken out of the words of both its ends
abbrev pub without_edge : (left right : ℕ) → List ℕ → List ℕ
without_edge left right words = without_bit (without_bit words left right) right left

-- put or taken out
abbrev pub bit_set : (on : Bool) → List ℕ → (a b : ℕ) → List ℕ
bit_set true words a b = with_bit words a b
bit_set false words a b = without_bit words a b

abbrev pub edge_set : (on : Bool) (left right : ℕ) → List ℕ → List ℕ
edge_set on left right words = bit_set on (bit_set on words left right) right left

-- the edge of row j that is open to index value x, if it is; that which may be open; and whether x shuts it
abbrev pub edges_at : (values truths rows : List ℕ) (x j : ℕ) → List Edge
edges_at values truths rows x j = open_in values truths x (get_or rows j 0)

abbrev pub may_at : (truths rows : List ℕ) (j : ℕ) → List Edge
may_at truths rows j = may_open truths (get_or rows j 0)

abbrev pub shut_at : (values rows : List ℕ) (x j : ℕ) → Bool
shut_at values rows x j = shut_to values x (get_or rows j 0)

-- no two rows may join the same array terms
abbrev pub Apart : (may : ℕ → List Edge) (count : ℕ) → Type 0
Apart may count = (i j a b : ℕ) → i < j → j < count → Joined (may i) a b → Joined (may j) a b → ⊥

-- the words of all that may be open, and whether two rows may join the same
pub record Gathered (truths rows : List ℕ) (count : ℕ) (words : List ℕ) (again : Bool) : Type 0 where
  pub adjacent : Adjacent (concat_map (may_open truths) (take count rows)) words
  pub apart : again ≡ false → Apart (may_at truths rows) count

-- A row on the turn: a write's that is shut is taken out, one that was shut is put, and any other left
abbrev pub RowTurned : (values : List ℕ) (before x row : ℕ) (words₀ words : List ℕ) → Type 0
RowTurned values before x row words₀ words =
    words ≡ cond (shut_to values x row) (without_edge (row % 64) (row / 64 % 64) words₀) (cond (shut_to values before row) (with_edge (row % 64) (row / 64 % 64) words₀) words₀)

-- The words on the turn, after k rows: what is joined has its bits, unless a row to come that was shut is to put them; and bits are those of what is joined, or of
-- what a row to come may join
pub record Turning (after may : ℕ → List Edge) (shut : ℕ → Bool) (count k : ℕ) (words : List ℕ) : Type 0 where
  pub complete : (j a b : ℕ) → j < count → (j < k) ⊎ (shut j ≡ false) → Joined (after j) a b → bit (get_or words a 0) b ≡ 1
  pub sound : (a b : ℕ) → bit (get_or words a 0) b ≡ 1 → ((j : ℕ) × (j < count) × Joined (after j) a b) ⊎ ((j : ℕ) × (k ≤ j) × (j < count) × Joined (may j) a b)
  pub small : (a : ℕ) → get_or words a 0 < 2 ^ 48
  pub long : length words ≡ max_arrays

-- words that can be turned from an index value to any other
abbrev pub Turnable : (values truths rows : List ℕ) (count before : ℕ) (words : List ℕ) → Type 0
Turnable values truths rows count before words = (x : ℕ) → Turning (edges_at values truths rows x) (may_at truths rows) (shut_at values rows before) count 0 words

-- a way over adjacency words, of so many steps
pub data Trail (words : List ℕ) (origin : ℕ) : (steps end : ℕ) → Type 0 where
  here : Trail words origin 0 origin
  onward : {steps a b : ℕ} → Trail words origin steps a → bit (get_or words a 0) b ≡ 1 → Trail words origin (steps + 1) b

-- is the bit set?
abbrev pub has : (row a : ℕ) → Bool
has row a = eqb (bit row a) 1

-- how many array terms a row marks
unfoldable pub marks : (row : ℕ) → ℕ
marks row = count (has row) (range 0 max_arrays)

-- the row of all that is met from the origin: the least that has the origin and is closed under a step; and how many it marks
pub record Spreads (words : List ℕ) (origin : ℕ) (made : Spread) : Type 0 where
  pub sound : (b : ℕ) → bit made.row b ≡ 1 → (steps : ℕ) × Trail words origin steps b
  pub start : bit made.row origin ≡ 1
  pub closed : (a b : ℕ) → bit made.row a ≡ 1 → bit (get_or words a 0) b ≡ 1 → bit made.row b ≡ 1
  pub marked : made.marked ≡ marks made.row
  pub small : made.row < 2 ^ 48

-- a row is shared where the origin stands in it, and else made
abbrev pub SharedOrMade : (words : List ℕ) (last : Spread) (origin : ℕ) (made : Spread) → Type 0
SharedOrMade words last origin made = ((bit last.row origin ≡ 1) × (made ≡ last)) ⊎ Spreads words origin made

-- the pairs of source k, if it has index value x
abbrev pub pairs_at : Edges → Sources → (n x k : ℕ) → ℕ
pairs_at e s n x k = cond (eqb (value_at s k) x) (pairs_of e s n k) 0

-- source first is the first of its index value
pub record FirstOf (s : Sources) (first : ℕ) : Type 0 where
  pub given : first < s.count
  pub none_before : (k : ℕ) → k < first → value_at s k ≡ value_at s first → ⊥

-- The sources of index value x are marked and linked, and no other row or link is touched
pub record ValueMarked (e : Edges) (s : Sources) (n x : ℕ) (words₀ words links₀ links : List ℕ) (total : ℕ) : Type 0 where
  pub pairs : total ≡ sum (map (pairs_at e s n x) (range 0 s.count))
  pub rows : (k : ℕ) → k < s.count → value_at s k ≡ x → RowOf e n x (origin_at s k) (get_or words k 0)
  pub next : (k : ℕ) → k < s.count → value_at s k ≡ x → NextOf s k (get_or links k 0)
  pub other_rows : (k : ℕ) → (value_at s k ≡ x → ⊥) → get_or words k 0 ≡ get_or words₀ k 0
  pub other_next : (k : ℕ) → (value_at s k ≡ x → ⊥) → get_or links k 0 ≡ get_or links₀ k 0

-- what the marking of an index value rests on
pub record Markable (words : List ℕ) (s : Sources) (first : ℕ) (rows next : List ℕ) : Type 0 where
  pub narrow : (a : ℕ) → get_or words a 0 < 2 ^ 48
  pub sources : s.count ≤ max_sources
  pub origin : (k : ℕ) → k < s.count → origin_at s k < max_arrays
  pub first_of : FirstOf s first
  pub rows_long : s.count ≤ length rows
  pub next_long : s.count ≤ length next

-- rows of edges and sources that are lent: ends and origins are array terms
pub record Within (edges : List ℕ) (ways : ℕ) (s : Sources) (n : ℕ) : Type 0 where
  pub lent : Lent edges ways n
  pub sources : s.count ≤ max_sources
  pub origin : (k : ℕ) → k < s.count → origin_at s k < n

-- what the marking of all rests on: links that are 0
pub record Unmarked (edges : List ℕ) (ways : ℕ) (s : Sources) (n : ℕ) (rows next : List ℕ) : Type 0 where
  pub within : Within edges ways s n
  pub rows_long : s.count ≤ length rows
  pub next_long : s.count ≤ length next
  pub free : (k : ℕ) → k < s.count → get_or next k 0 ≡ 0

-- Over any edges that the words hold, the sources of the first one's index value are marked
abbrev pub ValueMarkedOver : (words : List ℕ) (s : Sources) (first : ℕ) (words₀ rows links₀ links : List ℕ) (total : ℕ) → Type 0
ValueMarkedOver words s first words₀ rows links₀ links total =
    (e : Edges) (n : ℕ) → Fit e s n → Adjacent (e (value_at s first)) words → ValueMarked e s n (value_at s first) words₀ rows links₀ links total
