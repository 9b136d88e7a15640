-- The literals (01, The lemma) as they are put one after another: when one stands there already, and the whole list.
-- Assumes nothing.
use Rattle.std.specs.Prelude.{ℕ, ◌/◌, ◌%◌, ◌<◌, ◌≤◌, ◌≡◌, Bool, true, cond, List, [], ◌∷◌, ◌++◌, map, length, All}
use Rattle.paper.specs.Sizes.{max_edges, max_literals}
use Rattle.paper.specs.Lists.{any}
use Rattle.paper.specs.Edges.{Guard, Edge}
use Rattle.paper.specs.Lemma.{Literal, same_literal, equal_indices, hypotheses}
use Rattle.lemma.specs.declared.rows.Literal.{Literal as Row}
use Rattle.lemma.specs.Rows.{literal_in, literals_of}
use Rattle.lemma.specs.Steps.{EdgeTable, open_at, edge_at}

-- the number of the term that a guard names
abbrev pub guard_number : Guard → ℕ
guard_number (Guard.differ number) = number
guard_number (Guard.is_true number) = number
guard_number (Guard.is_false number) = number

-- does a literal stand there?
abbrev pub stands_in : (rows : List Row) (row : Row) → Bool
stands_in rows row = any (same_literal (literal_in row)) (literals_of rows)

-- "A repeated literal stands once, at its first place"
abbrev pub once : (rows : List Row) (row : Row) → List Row
once rows row = cond (stands_in rows row) rows (rows ++ row ∷ [])

-- "index of s equal to index of t (left out if both are one base number)"
pub record Opening (i j : ℕ) (rows : List Row) : Type 0 where
  pub same : literals_of rows ≡ equal_indices i j
  pub most : length rows ≤ 1

-- the edges of a path: in the table, and open; few enough for their literals
pub record Walked (e : EdgeTable) (x : ℕ) (path : List ℕ) : Type 0 where
  pub edges : e.count ≤ max_edges
  pub short : length path < 48
  pub numbered : All (λ k. k < e.count) path
  pub open_each : All (λ k. open_at e x k ≡ true) path

-- "Literals, in order: .. Last the conclusion", for the rows of two sources and the edges between them
abbrev pub literals_for : (one other : ℕ) → List Edge → List Literal
literals_for one other path =
    hypotheses (one / 256 % 256) (other / 256 % 256) path ++ (Literal.conclusion (one / 65536 % 256) (other / 65536 % 256) ∷ [])

pub record LemmaOf (e : EdgeTable) (x : ℕ) (path : List ℕ) (one other : ℕ) (rows : List Row) : Type 0 where
  pub same : literals_of rows ≡ literals_for one other (map (edge_at e x) path)
  pub most : length rows ≤ max_literals
