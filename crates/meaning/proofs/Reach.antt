-- Reach by computation is reach by walks, and the pair count is the number of pairs that are reached.
-- Assumes nothing.
use Prim.Native.Nat.{ℕ, ◌+◌, ◌<◌}
use mathlib.Core.Path.{◌≡◌, refl, ap₂}
use mathlib.Core.Logic.{◌↔◌}
use mathlib.Core.Bool.{Bool, true}
use mathlib.Core.List.Memᴰ
use mathlib.Core.List.{List, [], ◌∷◌, map}
use Rattle.paper.specs.Lists.{◌∈◌, count, sum, range}
use Rattle.paper.specs.Fields.{array}
use Rattle.paper.specs.Terms.{Term, given, Assignment}
use Rattle.paper.specs.Edges.{Source, sources, Edge, open_edges}
use Rattle.paper.specs.Reach.{Walk, stay, step, index_value, Reaches, step_cost, distances, reaches_at, reaches, pairs}
use Rattle.meaning.proofs.Lists.{same_test, count_same}
use Rattle.meaning.proofs.Walks.{walk_back, Ranged, joins_below}
use Rattle.meaning.proofs.Distances.{entry_reached, reached_entry}
use Rattle.meaning.proofs.Given.{Numbered, source_given, open_ranged}

-- a walk from below n ends below n
end_below : {among : List Edge} {a c : ℕ} {walked : List Edge} {n : ℕ} → Ranged n among → a < n → Walk among a walked c → c < n
end_below ranged inside stay = inside
end_below ranged inside (step {edge = edge} here joined rest) = end_below ranged (joins_below ranged edge here joined) rest

module _ (terms : List Term) (numbered : Numbered terms) (g : Assignment) where
  -- the test is true exactly if there is a walk over the edges open to x
  pub reached_walk : (x : ℕ) (source : Source) {a : ℕ} → reaches_at terms g x source a ≡ true → (walked : List Edge) × Walk (open_edges terms g x) source.origin walked a
  unfolding reaches_at distances
  reached_walk x source reached =
      walk_back (entry_reached step_cost (open_edges terms g x) (given array terms) source.origin reached).1

  pub walk_reached : (x : ℕ) (source : Source) {a : ℕ} {walked : List Edge} → source ∈ sources terms → Walk (open_edges terms g x) source.origin walked a
      → reaches_at terms g x source a ≡ true
  unfolding reaches_at distances
  walk_reached x source here way =
      let ranged = open_ranged terms numbered g x in
      let inside = end_below ranged (source_given terms numbered source here).origin way in
      reached_entry step_cost (open_edges terms g x) (given array terms) source.origin ranged inside (walk_back way).1

  -- "A source reaches an array term if a walk .. leads there from its origin"
  pub reach_agrees : (source : Source) → source ∈ sources terms → (a : ℕ) → (reaches terms g source a ≡ true) ↔ Reaches terms g source a
  unfolding reaches
  reach_agrees source here a =
      ((λ reached. reached_walk (index_value g source) source reached), (λ way. walk_reached (index_value g source) source here way.1))

  -- the pair count is that of any test that tells which sources reach which array terms
  pub pairs_agree : (test : Source → ℕ → Bool) → ((source : Source) → source ∈ sources terms → (a : ℕ) → (test source a ≡ true) ↔ Reaches terms g source a)
      → pairs terms g ≡ sum (map (λ source. count (test source) (range 0 (given array terms))) (sources terms))
  unfolding pairs
  pairs_agree test tells = each (sources terms) (λ source here a. same_test (reaches terms g source a) (test source a)
      (λ yes₁. (tells source here a).1 ((reach_agrees source here a).0 yes₁)) (λ yes₁. (reach_agrees source here a).1 ((tells source here a).0 yes₁)))
    where
      each : (some : List Source) → ((source : Source) → source ∈ some → (a : ℕ) → reaches terms g source a ≡ test source a)
          → sum (map (λ source. count (reaches terms g source) (range 0 (given array terms))) some) ≡ sum (map (λ source. count (test source) (range 0 (given array terms))) some)
      each [] same = refl
      each (source ∷ rest) same =
          ap₂ ◌+◌
          (count_same (reaches terms g source) (test source) (same source (Memᴰ.head refl)) (range 0 (given array terms)))
          (each rest (λ other here. same other (Memᴰ.tail here)))
