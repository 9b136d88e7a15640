-- The value and the cells that the tables give are the paper's.
-- Assumes nothing.
use Prim.Native.Nat.{ℕ, ◌<◌}
use native.Mathlib.Nat.{zero-add}
use mathlib.Core.Path.{◌≡◌, refl, sym, ap, ◌∙◌}
use mathlib.Core.Bool.{Bool, true, false, cond, true≢false}
use mathlib.Core.List.Memᴰ
use mathlib.Core.List.{List, [], ◌∷◌, map}
use mathlib.Core.Option.{Option, none, some}
use lib.Dec.{eqb}
use lib.ListN.{get_or}
use Rattle.paper.specs.Lists.{◌∈◌, is_some, keep, find, range}
use Rattle.paper.specs.Terms.{Query, assigned}
use Rattle.paper.specs.Edges.{Source, covers}
use Rattle.paper.specs.Reach.{distances, reaches_at, reaches}
use Rattle.paper.specs.Model.{value_given, model}
use Rattle.paper.specs.Cells.{cell_of, place_all, cells}
use Rattle.meaning.proofs.Lists.{range_in}
use Rattle.terms.specs.declared.Tables.{Tables}
use Rattle.terms.specs.Tables.{source_in}
use Rattle.terms.specs.Holds.{Holds}
use Rattle.terms.specs.Graph.{Graphed}
use Rattle.reach.specs.Reached.{opens_in, sources_in, reached_in, bit, origin_at, RowOf}
use Rattle.reach.proofs.Words.{lent_ends}
use Rattle.reach.proofs.Paper.{source_at, lent, within, index_same, origin_same, value_same, sources_same, distances_same, reaches_same}
use Rattle.model.specs.Held.{holds_at, value_held, value_by, ValueOf}
use Rattle.model.specs.Listed.{cell_at, reaches_in, listed_in}
use Rattle.model.proofs.Holding.{stands_reached}

module _ {query : Query} {t : Tables} (held : Holds query t) (graph : Graphed query t) (a : ℕ) (inside : a < t.counts.arrays) where
  -- an origin stands in the row of what a reaches exactly if its source reaches a
  origin_reaches : (x row : ℕ) → RowOf (opens_in t) t.counts.arrays x a row → (k : ℕ) → k < t.counts.sources
      → eqb (bit row (origin_at (sources_in t) k)) 1 ≡ reaches_at query.terms (assigned query.guess) x (source_at t k) a
  unfolding reached_in reaches_at
  origin_reaches x row is k below =
      stands_reached (opens_in t) t.counts.arrays x (lent_ends (lent held graph) t.values t.truths) a (origin_at (sources_in t) k) row inside ((within held graph).origin k below) is
      ∙ ap (λ (table : List (Option ℕ)). is_some (get_or table a none))
      (distances_same held graph x (origin_at (sources_in t) k) ∙ ap (distances query.terms (assigned query.guess) x) (origin_same held graph k))

  module _ (x row : ℕ) (is : RowOf (opens_in t) t.counts.arrays x a row) where
    -- what the paper asks of a source
    gives : Source → Bool
    gives source = cond (covers (assigned query.guess) x source.place) (reaches_at query.terms (assigned query.guess) x source a) false

    one : (k : ℕ) → k < t.counts.sources → holds_at (sources_in t) row x k ≡ gives (source_at t k)
    unfolding source_in gives
    one k below =
        ap (λ (index : ℕ). cond (eqb index x) (eqb (bit row (origin_at (sources_in t) k)) 1) false) (index_same held graph k below)
        ∙ ap (λ (b : Bool). cond (covers (assigned query.guess) x (source_at t k).place) b false) (origin_reaches x row is k below)

    among : (ks : List ℕ) → ((k : ℕ) → k ∈ ks → k < t.counts.sources)
        → value_held (sources_in t) (find (holds_at (sources_in t) row x) ks) ≡ value_given (assigned query.guess) (find gives (map (source_at t) ks))
    among [] below = refl
    among (k ∷ ks) below =
        go (holds_at (sources_in t) row x k) (gives (source_at t k)) (one k (below k (Memᴰ.head refl))) (among ks (λ j here. below j (Memᴰ.tail here)))
      where
        go : (b c : Bool) → b ≡ c
            → value_held (sources_in t) (find (holds_at (sources_in t) row x) ks) ≡ value_given (assigned query.guess) (find gives (map (source_at t) ks))
            → value_held (sources_in t) (cond b (some k) (find (holds_at (sources_in t) row x) ks))
            ≡ value_given (assigned query.guess) (cond c (some (source_at t k)) (find gives (map (source_at t) ks)))
        go true true same rest = value_same held graph k (below k (Memᴰ.head refl))
        go true false same rest = absurd (true≢false same)
        go false true same rest = absurd (true≢false (sym same))
        go false false same rest = rest

    by_row : value_by (sources_in t) row x ≡ model query.terms (assigned query.guess) a x
    unfolding value_by model gives
    by_row =
        among (range 0 t.counts.sources) (λ k here. rw zero-add at (range_in 0 t.counts.sources here).1)
        ∙ ap (λ (all : List Source). value_given (assigned query.guess) (find gives all)) (sources_same held graph)

  -- the model's value
  pub value_paper : (x value : ℕ) → ValueOf (opens_in t) (sources_in t) t.counts.arrays a x value → value ≡ model query.terms (assigned query.guess) a x
  value_paper x value known = known.same ∙ by_row x known.row known.reached

  -- the cells of sources that reach a
  kept : (ks : List ℕ) → ((k : ℕ) → k ∈ ks → k < t.counts.sources)
      → map (cell_at (sources_in t)) (keep (reaches_in (opens_in t) (sources_in t) t.counts.arrays a) ks)
      ≡ map (cell_of (assigned query.guess)) (keep (λ source. reaches query.terms (assigned query.guess) source a) (map (source_at t) ks))
  kept [] below = refl
  kept (k ∷ ks) below =
      ap (λ (b : Bool). map (cell_at (sources_in t)) (cond b (k ∷ held_here) held_here)) (reaches_same held graph k here a)
      ∙ go (reaches query.terms (assigned query.guess) (source_at t k) a) (kept ks (λ j there. below j (Memᴰ.tail there)))
    where
      here : k < t.counts.sources
      here = below k (Memᴰ.head refl)

      held_here : List ℕ
      held_here = keep (reaches_in (opens_in t) (sources_in t) t.counts.arrays a) ks

      given : List Source
      given = keep (λ source. reaches query.terms (assigned query.guess) source a) (map (source_at t) ks)

      go : (b : Bool) → map (cell_at (sources_in t)) held_here ≡ map (cell_of (assigned query.guess)) given
          → map (cell_at (sources_in t)) (cond b (k ∷ held_here) held_here) ≡ map (cell_of (assigned query.guess)) (cond b (source_at t k ∷ given) given)
      go true rest = λ i. record { index = index_same held graph k here i; value = value_same held graph k here i } ∷ rest i
      go false rest = rest

  -- the model's cells
  pub cells_paper : listed_in (opens_in t) (sources_in t) t.counts.arrays a ≡ cells query.terms (assigned query.guess) a
  unfolding listed_in cells
  cells_paper =
      ap (place_all [])
      (kept (range 0 t.counts.sources) (λ k here. rw zero-add at (range_in 0 t.counts.sources here).1)
      ∙ ap (λ (all : List Source). map (cell_of (assigned query.guess)) (keep (λ source. reaches query.terms (assigned query.guess) source a) all)) (sources_same held graph))
