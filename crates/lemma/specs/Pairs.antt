-- 01, The lemma, over the code's tables: when two sources conflict, and the pair that is taken.
-- Assumes nothing.
use Rattle.std.specs.Prelude.{ℕ, ◌<◌, ◌≤◌, ◌≡◌, Bool, true, false, cond, List, [], ◌∷◌, eqb, length, get_or, Some, None}
use Rattle.std.specs.Prelude.{Option as Found}
use Rattle.std.proofs.Math.Option.{Option, none, some}
use Rattle.paper.specs.Sizes.{max_sources}
use Rattle.paper.specs.Lists.{or_else, map_option, find, range}
use Rattle.reach.specs.Reached.{Sources, bit, origin_at, value_at, assigned_at, NextOf}

-- the numbers of s and t of the paper
pub record Numbers : Type 0 where
  pub first : ℕ
  pub later : ℕ

-- one source's value differs from another's, and its row has the other's origin
abbrev pub clash_of : (one other row origin : ℕ) → Bool
clash_of one other row origin = cond (eqb one other) false (eqb (bit row origin) 1)

-- a source that was known to conflict with nothing later, or has its origin in the row of one that is tried
abbrev pub settled_by : (known : Bool) → (row origin : ℕ) → Bool
settled_by known row origin = cond known true (eqb (bit row origin) 1)

-- "Two sources conflict if their index values are equal, their values differ, and the first reaches the origin of the second"
abbrev pub clash_in : Sources → (rows : List ℕ) → (i j : ℕ) → Bool
clash_in s rows i j =
    cond (eqb (value_at s i) (value_at s j)) (clash_of (assigned_at s i) (assigned_at s j) (get_or rows i 0) (origin_at s j)) false

-- the first of a list of sources that clashes with a later one, and the first of those
abbrev pub pair_among : (clash : ℕ → ℕ → Bool) → List ℕ → Option Numbers
pair_among clash [] = none
pair_among clash (i ∷ later) = or_else (map_option (λ j. record { first = i; later = j }) (find (clash i) later)) (pair_among clash later)

-- "the least first source s that stands in a pair with a later one, and with it the least later source t"
unfoldable pub pair_in : Sources → (rows : List ℕ) → Option Numbers
pair_in s rows = pair_among (clash_in s rows) (range 0 s.count)

-- what the code's answer says
abbrev pub found_of : Found (ℕ × ℕ) → Option Numbers
found_of (Some (i, j)) = some (record { first = i; later = j })
found_of None = none

-- each source is linked to the next of its index value
abbrev pub Linked : Sources → (links : List ℕ) → Type 0
Linked s links = (k : ℕ) → k < s.count → NextOf s k (get_or links k 0)

-- a source whose origin stands in the row of another of its index value has the same row
abbrev pub Shared : Sources → (rows : List ℕ) → Type 0
Shared s rows =
    (i j : ℕ) → i < s.count → j < s.count → value_at s j ≡ value_at s i → bit (get_or rows i 0) (origin_at s j) ≡ 1 → (a : ℕ) → bit (get_or rows j 0) a ≡ bit (get_or rows i 0) a

-- the tables are within their bounds, each source is linked, and none is known yet to conflict with nothing
pub record Searchable (s : Sources) (rows links : List ℕ) (clear : List Bool) : Type 0 where
  pub sources : s.count ≤ max_sources
  pub origin : (k : ℕ) → k < s.count → origin_at s k < 48
  pub linked : Linked s links
  pub shared : Shared s rows
  pub rows_long : s.count ≤ length rows
  pub links_long : s.count ≤ length links
  pub clear_long : s.count ≤ length clear
  pub unknown : (k : ℕ) → k < s.count → get_or clear k false ≡ false
