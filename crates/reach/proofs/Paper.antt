-- The tables of an accepted query can be lent to `mark`, `distances` and `reached_from`, and what these answer is the paper's: which array terms each source reaches, the number of pairs,
-- the distances.
-- Assumes nothing.
use Prim.Native.Nat.{ℕ, zero, suc, ◌+◌, ◌/◌, ◌%◌, ◌<◌, ◌≤◌}
use native.Mathlib.Nat.{add-zero, add-suc, suc-add, zero-add}
use native.Mathlib.Omega.{arith}
use mathlib.Core.Path.{◌≡◌, refl, sym, ap, ap₂, ◌∙◌, subst}
use mathlib.Core.Bool.{Bool, true, false, cond}
use mathlib.Core.List.{List, [], ◌∷◌, map}
use mathlib.Core.Option.{Option, none}
use lib.Dec.{eqb}
use lib.ListN.{length, get_or, take, length-map}
use Rattle.paper.specs.Lists.{is_some, count, sum, range}
use Rattle.paper.specs.Fields.{Series, array}
use Rattle.paper.specs.Load.{load, Loaded}
use Rattle.paper.specs.Terms.{Query, given, assigned}
use Rattle.paper.specs.Edges.{Source, sources, Edge}
use Rattle.paper.specs.Reach.{index_value, near, step_cost, distances, reaches_at, reaches, pairs}
use Rattle.meaning.proofs.Lists.{range_length}
use Rattle.meaning.proofs.Built.{are_bytes}
use Rattle.meaning.proofs.Accepted.{accepted}
use Rattle.meaning.proofs.Sources.{sources_bound}
use Rattle.terms.specs.declared.Tables.{Tables}
use Rattle.terms.specs.Tables.{source_in, edges_in}
use Rattle.faults.specs.Faults.{count_in}
use Rattle.terms.specs.Holds.{Holds}
use Rattle.terms.specs.Graph.{Each, SourceWithin, EdgeWithin, Graphed}
use Rattle.std.specs.Prelude.{Result, Ok}
use Rattle.paper.specs.declared.Refusal.{Refusal}
use Rattle.terms.specs.Loads.{Loads, loaded_as}
use Rattle.terms.proofs.Ways.{accepted_graph}
use Rattle.reach.specs.Reached.{opens_in, sources_in, reached_in, bit, max_rows, origin_at, value_at, assigned_at, RowOf, pairs_of}
use Rattle.reach.specs.Steps.{EndsBelow, Lent, Within}
use Rattle.reach.proofs.Counts.{count_same}

-- the source that a row says
abbrev pub source_at : Tables → ℕ → Source
source_at t k = source_in (get_or t.sources k 0)

-- a property of each of the first n, at a place among them
each_at : (P : ℕ → Type 0) (n : ℕ) (rows : List ℕ) → n ≤ length rows → Each P (take n rows) → (k : ℕ) → k < n → P (get_or rows k 0)
each_at P zero rows long each k below = absurd (omega arith)
each_at P (suc n) [] long each k below = absurd (omega arith)
each_at P (suc n) (row ∷ rows) long each zero below = each.0
each_at P (suc n) (row ∷ rows) long each (suc k) below = each_at P n rows (omega arith) each.1 k (omega arith)

-- what is said at each place is said of the rows in order
pub along : {A B : Type 0} (g : ℕ → B) (f : A → B) (h : ℕ → A) (first n : ℕ) (rows : List ℕ) → n ≤ length rows
    → ((k : ℕ) → k < n → g (first + k) ≡ f (h (get_or rows k 0))) → map g (range first n) ≡ map f (map h (take n rows))
along g f h first zero rows long same = refl
along g f h first (suc n) [] long same = absurd (omega arith)
along {B = B} g f h first (suc n) (row ∷ rows) long same =
    ap₂ (λ (x : B) (xs : List B). x ∷ xs) (ap g (sym (add-zero first)) ∙ same 0 (omega arith))
    (along g f h (suc first) n rows (omega arith) (λ k below. ap g (suc-add first k ∙ sym (add-suc first k)) ∙ same (suc k) (omega arith)))

ends_below : (c : Series → ℕ) (edges : List Edge) → Each (EdgeWithin c) edges → Each (EndsBelow (c array)) edges
ends_below c [] each = tt
ends_below c (edge ∷ edges) each = ((each.0.0, each.0.1), ends_below c edges each.1)

map_id : {A : Type 0} (xs : List A) → map (λ (x : A). x) xs ≡ xs
map_id [] = refl
map_id {A} (x ∷ xs) = ap (λ (rest : List A). x ∷ rest) (map_id xs)

-- a bit says whether it is set
pub bit_same : (reached : Bool) {n : ℕ} → n ≡ cond reached 1 0 → eqb n 1 ≡ reached
bit_same true is = rw is
bit_same false is = rw is

module _ {query : Query} {t : Tables} (held : Holds query t) (graph : Graphed query t) where
  -- the rows can be lent
  pub lent : Lent t.edges t.counts.edges t.counts.arrays
  lent =
      record {
        arrays = held.counts.arrays_most;
        long = held.edges.long;
        few = graph.few_edges;
        ends = λ k below.
            ends_below (count_in t.counts) (edges_in (get_or t.edges k 0))
            (each_at (λ row. Each (EdgeWithin (count_in t.counts)) (edges_in row)) t.counts.edges t.edges (omega (arith, held.edges.long, graph.few_edges)) graph.within_edges k below);
      }

  pub source_within : (k : ℕ) → k < t.counts.sources → SourceWithin (count_in t.counts) (source_at t k)
  source_within =
      each_at (λ row. SourceWithin (count_in t.counts) (source_in row)) t.counts.sources t.sources (omega (arith, held.sources.long, graph.few_sources)) graph.within_sources

  -- the origin and the index value that the rows say are the source's
  pub origin_same : (k : ℕ) → origin_at (sources_in t) k ≡ (source_at t k).origin
  unfolding source_in
  origin_same k = refl

  pub index_same : (k : ℕ) → k < t.counts.sources → value_at (sources_in t) k ≡ index_value (assigned query.guess) (source_at t k)
  unfolding source_in
  index_same k below = graph.value (get_or t.sources k 0 / 256 % 256) (source_within k below).1

  -- the value that is assigned to a source
  pub value_same : (k : ℕ) → k < t.counts.sources → assigned_at (sources_in t) k ≡ (assigned query.guess).value (source_at t k).value
  unfolding source_in
  value_same k below = graph.value (get_or t.sources k 0 / 65536 % 256) (source_within k below).2

  -- the rows in order are the paper's sources
  pub sources_same : map (source_at t) (range 0 t.counts.sources) ≡ sources query.terms
  sources_same =
      along (source_at t) (λ (source : Source). source) source_in 0 t.counts.sources t.sources (omega (arith, held.sources.long, graph.few_sources))
      (λ k below. ap (source_at t) (zero-add k))
      ∙ map_id (map source_in (take t.counts.sources t.sources))
      ∙ graph.sources

  -- as many as it has
  pub sources_count : t.counts.sources ≡ length (sources query.terms)
  sources_count =
      sym (length-map (range 0 t.counts.sources) (source_at t) ∙ range_length 0 t.counts.sources) ∙ ap (λ (list : List Source). length list) sources_same

  -- and so can the sources with them
  pub within : Within t.edges t.counts.edges (sources_in t) t.counts.arrays
  within =
      record {
        lent = lent;
        sources = graph.few_sources;
        origin = λ k below. subst (λ (o : ℕ). o < t.counts.arrays) (sym (origin_same k)) (source_within k below).0;
      }

  -- distances over the open edges are the paper's
  pub distances_same : (x goal : ℕ) → near step_cost (opens_in t x) t.counts.arrays goal t.counts.arrays ≡ distances query.terms (assigned query.guess) x goal
  unfolding distances
  distances_same x goal = ap₂ (λ (among : List Edge) (n : ℕ). near step_cost among n goal n) (graph.opened x) (sym (held.counts.given_as array))

  -- and so is what a source reaches
  pub reaches_same : (k : ℕ) → k < t.counts.sources → (a : ℕ)
      → reached_in (opens_in t) t.counts.arrays (value_at (sources_in t) k) (origin_at (sources_in t) k) a ≡ reaches query.terms (assigned query.guess) (source_at t k) a
  unfolding reached_in reaches_at reaches
  reaches_same k below a =
      ap (λ (table : List (Option ℕ)). is_some (get_or table a none))
      (distances_same (value_at (sources_in t) k) (origin_at (sources_in t) k)
      ∙ ap₂ (distances query.terms (assigned query.guess)) (index_same k below) (origin_same k))

  -- A row has a bit for each array term that the source reaches
  pub row_paper : (k : ℕ) → k < t.counts.sources → (row : ℕ) → RowOf (opens_in t) t.counts.arrays (value_at (sources_in t) k) (origin_at (sources_in t) k) row
      → (a : ℕ) → bit row a ≡ cond (reaches query.terms (assigned query.guess) (source_at t k) a) 1 0
  row_paper k below row is a = is a ∙ ap (λ (b : Bool). cond b 1 0) (reaches_same k below a)

  -- "the number of pairs (array term, source) where the source reaches the term"
  pub pairs_paper : sum (map (pairs_of (opens_in t) (sources_in t) t.counts.arrays) (range 0 t.counts.sources)) ≡ pairs query.terms (assigned query.guess)
  unfolding pairs
  pairs_paper =
      ap sum
      (along (pairs_of (opens_in t) (sources_in t) t.counts.arrays) reached source_in 0 t.counts.sources t.sources (omega (arith, held.sources.long, graph.few_sources))
      (λ k below. one (0 + k) k (omega arith) below)
      ∙ ap (map reached) graph.sources)
    where
      reached : Source → ℕ
      reached source = count (reaches query.terms (assigned query.guess) source) (range 0 (given array query.terms))

      one : (j k : ℕ) → j ≡ k → k < t.counts.sources → pairs_of (opens_in t) (sources_in t) t.counts.arrays j ≡ reached (source_in (get_or t.sources k 0))
      one j k same below =
          ap (pairs_of (opens_in t) (sources_in t) t.counts.arrays) same
          ∙ count_same (reached_in (opens_in t) t.counts.arrays (value_at (sources_in t) k) (origin_at (sources_in t) k)) (reaches query.terms (assigned query.guess) (source_at t k)) 0 t.counts.arrays (λ a low high. reaches_same k below a)
          ∙ ap (λ (n : ℕ). count (reaches query.terms (assigned query.guess) (source_at t k)) (range 0 n)) (sym (held.counts.given_as array))

-- what a caller has of a load that is accepted
module _ {A : Type 0} {bytes : List ℕ} {result : Result A Refusal} {t : Tables} (loads : Loads bytes result t) {value : A} (accepts : result ≡ Ok value) where
  accepted_is : load 32 bytes ≡ Loaded.accepted loads.query
  accepted_is = sym loads.loaded ∙ ap (λ (r : Result A Refusal). loaded_as r loads.query) accepts

  pub has_graph : ((i : ℕ) → get_or bytes i 0 < 256) → Graphed loads.query t
  has_graph small = accepted_graph bytes (are_bytes bytes small) accepted_is loads.holds

  -- it has no more sources than there are rows
  pub rows_suffice : ((i : ℕ) → get_or bytes i 0 < 256) → t.counts.sources ≤ max_rows
  rows_suffice small =
      omega (arith, sources_count loads.holds (has_graph small), sources_bound (accepted 32 bytes loads.query (are_bytes bytes small) accepted_is))
