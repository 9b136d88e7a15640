-- 01, The lemma: when two sources conflict, and the pair that is taken.
-- Assumes nothing.
use Rattle.std.specs.Prelude.{Bool, false, cond, List, [], ◌∷◌, eqb}
use Rattle.std.proofs.Math.Option.{Option, none}
use Rattle.paper.specs.Lists.{map_option, or_else, find}
use Rattle.paper.specs.Terms.{Term, Assignment}
use Rattle.paper.specs.Edges.{Source, sources}
use Rattle.paper.specs.Reach.{index_value, reaches}

-- s and t of the paper
pub record Pair : Type 0 where
  pub first : Source
  pub later : Source

module _ (terms : List Term) (g : Assignment) where
  -- "Two sources conflict if their index values are equal, their values differ, and the first reaches the origin of the second"
  unfoldable pub conflicts : (s t : Source) → Bool
  conflicts s t =
      cond (eqb (index_value g s) (index_value g t))
      (cond (eqb (g.value s.value) (g.value t.value)) false (reaches terms g s t.origin))
      false

  -- "the least first source s that stands in a pair with a later one, and with it the least later source t"
  abbrev pub first_pair : List Source → Option Pair
  first_pair [] = none
  first_pair (s ∷ later) = or_else (map_option (λ t. record { first = s; later = t }) (find (conflicts s) later)) (first_pair later)

  unfoldable pub conflict : Option Pair
  conflict = first_pair (sources terms)
