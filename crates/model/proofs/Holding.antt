-- Looking for the first source that holds a cell: what is left from a place on is what the whole comes to.
-- Assumes nothing.
use Prim.Native.Nat.{ℕ, suc, ◌+◌, ◌-◌, ◌<◌, ◌≤◌}
use native.Mathlib.Numerals.{add-one}
use native.Mathlib.Omega.{arith}
use mathlib.Core.Path.{◌≡◌, sym, ap, ◌∙◌, subst}
use mathlib.Core.Bool.{Bool, true, cond}
use mathlib.Core.List.{List, ◌∷◌}
use mathlib.Core.Option.{some}
use lib.Dec.{eqb}
use lib.ListN.{length, get_or, take}
use lib.Seq.{get_or-take, length-take-le}
use Rattle.paper.specs.Lists.{find, range}
use Rattle.reach.specs.Reached.{Edges, Sources, reached_in, bit, origin_at, value_at, assigned_at, Ends, RowOf}
use Rattle.reach.proofs.Rows.{reached_same}
use Rattle.reach.proofs.Paper.{bit_same}
use Rattle.terms.specs.declared.Tables.{Tables}
use Rattle.model.specs.Held.{holds_at, value_held, value_by}
use Rattle.model.specs.Listed.{reaches_in}

-- a row of the sources that are in use
module _ (t : Tables) {k : ℕ} (few : t.counts.sources ≤ length t.sources) (inside : k < length (take t.counts.sources t.sources)) where
  pub source_below : k < t.counts.sources
  source_below = omega (arith, length-take-le t.counts.sources t.sources few, inside)

  pub source_row : get_or (take t.counts.sources t.sources) k 0 ≡ get_or t.sources k 0
  source_row = get_or-take t.counts.sources t.sources k 0 source_below

-- the rest of a range, one by one
pub range_step : (k n : ℕ) → k < n → range k (n - k) ≡ k ∷ range (k + 1) (n - (k + 1))
range_step k n more =
    let rest : n - k ≡ suc (n - (k + 1)) = omega arith in
    rw (rest, add-one k)

-- an origin stands in the row of what an array term reaches exactly if the origin reaches it: reach goes both ways
pub stands_reached : (e : Edges) (n x : ℕ) → Ends e n → (a origin row : ℕ) → a < n → origin < n → RowOf e n x a row → eqb (bit row origin) 1 ≡ reached_in e n x origin a
stands_reached e n x ends a origin row a_in origin_in is = bit_same (reached_in e n x a origin) (is origin) ∙ reached_same e n x ends a origin a_in origin_in

-- and so a source is listed exactly if its origin stands in the row
pub listed_by : (e : Edges) (s : Sources) (n a k : ℕ) → Ends e n → a < n → origin_at s k < n → (row : ℕ) {x origin : ℕ} → x ≡ value_at s k → origin ≡ origin_at s k → RowOf e n x a row
    → reaches_in e s n a k ≡ eqb (bit row origin) 1
listed_by e s n a k ends a_in origin_in row x_is origin_is known =
    rw origin_is (sym (stands_reached e n (value_at s k) ends a (origin_at s k) row a_in origin_in (subst (λ (x : ℕ). RowOf e n x a row) x_is known)))

module _ (s : Sources) (row x : ℕ) where
  -- what is left from source k on is the whole
  abbrev pub LeftFrom : ℕ → Type 0
  LeftFrom k = value_by s row x ≡ value_held s (find (holds_at s row x) (range k (s.count - k)))

  pub left_first : LeftFrom 0
  unfolding value_by
  left_first = let all : s.count - 0 ≡ s.count = omega arith in rw all

  -- one source more, whether it holds the cell or not
  one_more : (k : ℕ) → k < s.count → (b : Bool) → holds_at s row x k ≡ b → LeftFrom k
      → value_by s row x ≡ value_held s (cond b (some k) (find (holds_at s row x) (range (k + 1) (s.count - (k + 1)))))
  one_more k inside b here left =
      left
      ∙ ap (λ (ks : List ℕ). value_held s (find (holds_at s row x) ks)) (range_step k s.count inside)
      ∙ ap (λ (c : Bool). value_held s (cond c (some k) (find (holds_at s row x) (range (k + 1) (s.count - (k + 1)))))) here

  pub left_found : (k : ℕ) → k < s.count → holds_at s row x k ≡ true → LeftFrom k → assigned_at s k ≡ value_by s row x
  left_found k inside here left = sym (one_more k inside true here left)

  -- no source is left: none holds the cell, and its value is 0
  pub left_none : (k : ℕ) → s.count ≤ k → LeftFrom k → 0 ≡ value_by s row x
  left_none k all left = let none_left : s.count - k ≡ 0 = omega arith in sym (left ∙ rw none_left)
