-- 01, Printed lines: the cells of the model, array by array.
-- Assumes nothing.
use Rattle.std.specs.Prelude.{ℕ, cond, List, [], ◌∷◌, map, eqb, ltb}
use Rattle.paper.specs.Lists.{keep}
use Rattle.paper.specs.Terms.{Term, Assignment}
use Rattle.paper.specs.Edges.{Source, sources}
use Rattle.paper.specs.Reach.{index_value, reaches}

-- a cell: an index, and the value that the model has there
pub record Cell : Type 0 where
  pub index : ℕ
  pub value : ℕ

-- the cell of a source
abbrev pub cell_of : Assignment → Source → Cell
cell_of g source = record { index = index_value g source; value = g.value source.value }

-- a cell put among others in order of their indices; one of that index that stands there already stays
abbrev pub place : Cell → List Cell → List Cell
place cell [] = cell ∷ []
place cell (other ∷ later) =
    cond (ltb cell.index other.index) (cell ∷ other ∷ later)
    (cond (eqb cell.index other.index) (other ∷ later) (other ∷ place cell later))

abbrev pub place_all : (placed cells : List Cell) → List Cell
place_all placed [] = placed
place_all placed (cell ∷ cells) = place_all (place cell placed) cells

-- "for each array and index value that a source reaches there, by array, then index": those of array a
unfoldable pub cells : List Term → Assignment → (a : ℕ) → List Cell
cells terms g a = place_all [] (map (cell_of g) (keep (λ source. reaches terms g source a) (sources terms)))
