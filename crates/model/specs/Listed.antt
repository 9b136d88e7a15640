-- The cells of one array term, over the tables.
-- Assumes nothing.
use Rattle.std.specs.Prelude.{ℕ, ◌≡◌, Bool, List, [], map}
use Rattle.paper.specs.Lists.{keep, range}
use Rattle.paper.specs.Cells.{Cell, place_all}
use Rattle.reach.specs.Reached.{Edges, Sources, reached_in, origin_at, value_at, assigned_at}
use Rattle.model.specs.declared.cells.Cell as Code

-- the cell of source k
abbrev pub cell_at : Sources → ℕ → Cell
cell_at s k = record { index = value_at s k; value = assigned_at s k }

-- does source k reach array term a?
abbrev pub reaches_in : Edges → Sources → (n a k : ℕ) → Bool
reaches_in e s n a k = reached_in e n (value_at s k) (origin_at s k) a

-- "for each array and index value that a source reaches there, by array, then index": those of array term a
unfoldable pub listed_in : Edges → Sources → (n a : ℕ) → List Cell
listed_in e s n a = place_all [] (map (cell_at s) (keep (reaches_in e s n a) (range 0 s.count)))

-- a cell of the code, as the paper's
abbrev pub cell_in : Code.Cell → Cell
cell_in cell = record { index = cell.index; value = cell.value }

-- these cells are those listed
abbrev pub CellsOf : Edges → Sources → (n a : ℕ) → List Code.Cell → Type 0
CellsOf e s n a cells = map cell_in cells ≡ listed_in e s n a
