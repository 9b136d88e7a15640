-- 01, Sources, edges, reach: the model.
-- Assumes nothing.
use Rattle.std.specs.Prelude.{ℕ, false, cond, List}
use Rattle.std.proofs.Math.Option.{Option, none, some}
use Rattle.paper.specs.Lists.{find}
use Rattle.paper.specs.Terms.{Term, Assignment}
use Rattle.paper.specs.Edges.{Source, sources, covers}
use Rattle.paper.specs.Reach.{reaches_at}

-- "0 where there is none"
abbrev pub value_given : Assignment → Option Source → ℕ
value_given g none = 0
value_given g (some source) = g.value source.value

-- "at array a and index v the value of any source that reaches a with index value v": of the first
unfoldable pub model : List Term → Assignment → (a x : ℕ) → ℕ
model terms g a x = value_given g (find (λ source. cond (covers g x source.place) (reaches_at terms g x source a) false) (sources terms))
