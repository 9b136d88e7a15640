-- 02, E6, over the open edges that the lent rows say: what a distance is to be.
-- Assumes nothing.
use Rattle.std.specs.Prelude.{ℕ, ◌%◌, ◌<◌, ◌≡◌, List, [], get_or}
use Rattle.std.proofs.Math.Option.{Option, none, some}
use Rattle.paper.specs.Reach.{near, step_cost}
use Rattle.reach.specs.Reached.{Edges}

-- a distance as the table holds it, by its last seven bits; 255 where there is no walk
abbrev pub entry_of : Option ℕ → ℕ
entry_of none = 255
entry_of (some distance) = distance % 128

-- The distances of an index value: at a and b, the least cost of a walk from a to b
abbrev pub Distances : Edges → (x n : ℕ) (table : List (List ℕ)) → Type 0
Distances e x n table = (a b : ℕ) → a < n → b < n → get_or (get_or table a []) b 0 ≡ entry_of (get_or (near step_cost (e x) n b n) a none)
