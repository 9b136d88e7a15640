-- The model, over the tables: the value of the first source that reaches an array term with an index value.
-- Assumes nothing.
use Rattle.std.specs.Prelude.{ℕ, ◌≡◌, Bool, false, cond, eqb}
use Rattle.std.proofs.Math.Option.{Option, none, some}
use Rattle.paper.specs.Lists.{find, range}
use Rattle.reach.specs.Reached.{Edges, Sources, bit, origin_at, value_at, assigned_at, RowOf}

-- has a source this index value, and does its origin stand in the row of what an array term reaches?
abbrev pub holds_of : (value x row origin : ℕ) → Bool
holds_of value x row origin = cond (eqb value x) (eqb (bit row origin) 1) false

abbrev pub holds_at : Sources → (row x k : ℕ) → Bool
holds_at s row x k = holds_of (value_at s k) x row (origin_at s k)

abbrev pub value_held : Sources → Option ℕ → ℕ
value_held s none = 0
value_held s (some k) = assigned_at s k

-- "the value of any source that reaches a with index value v, and 0 where there is none": of the first
unfoldable pub value_by : Sources → (row x : ℕ) → ℕ
value_by s row x = value_held s (find (holds_at s row x) (range 0 s.count))

-- by the row of what array term a reaches over the edges open to index value x
pub record ValueOf (e : Edges) (s : Sources) (n a x value : ℕ) : Type 0 where
  pub row : ℕ
  pub reached : RowOf e n x a row
  pub same : value ≡ value_by s row x
