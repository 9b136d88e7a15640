-- The tables hold a query: what its terms and its guess are, read off the rows in use.
-- Assumes nothing.
use Rattle.std.specs.Prelude.{ℕ, ◌+◌, ◌/◌, ◌%◌, ◌<◌, ◌≤◌, ◌≡◌, Bool, false, cond, List, [], ◌∷◌, eqb, length, get_or, take}
use Rattle.std.proofs.Math.Option.{none, some}
use Rattle.paper.specs.Sizes.{max_arrays, max_bases, max_booleans, max_sources, max_edges}
use Rattle.paper.specs.Lists.{concat_map}
use Rattle.paper.specs.Fields.{Series}
use Rattle.paper.specs.Terms.{Term, given, is_fixed, Query}
use Rattle.paper.specs.Load.{witness_index}
use Rattle.paper.specs.Edges.{Source, sources, edges}
use Rattle.faults.specs.declared.Counts.{Counts}
use Rattle.terms.specs.declared.Tables.{Tables}
use Rattle.terms.specs.Tables.{fixed_in, source_in, edges_in}
use Rattle.faults.specs.Faults.{count_in}

-- the first n cells of a column of so many say this list, each cell a part of it
pub record Column {A : Type 0} (size : ℕ) (says : ℕ → List A) (n : ℕ) (cells : List ℕ) (list : List A) : Type 0 where
  pub long : length cells ≡ size
  pub same : concat_map says (take n cells) ≡ list

-- the counts are those of the terms, and within the limits; a source has a base or an array term to itself, an edge's row a Boolean or an array
pub record Counted (c : Counts) (terms : List Term) : Type 0 where
  pub given_as : (s : Series) → given s terms ≡ count_in c s
  pub bases_most : c.bases ≤ max_bases
  pub booleans_most : c.booleans ≤ max_booleans
  pub arrays_most : c.arrays ≤ max_arrays
  pub few_sources : c.sources ≤ c.bases + c.arrays
  pub few_edges : c.edges ≤ c.booleans + c.arrays

-- the read that gives a base term is found by its number, and so is whether it is a fixed number
pub record ReadsFound (bases : ℕ) (reads : List ℕ) (terms : List Term) : Type 0 where
  pub long : length reads ≡ max_bases
  pub within : (b a : ℕ) → b < bases → a < 255 → witness_index terms b a ≡ cond (eqb (get_or reads b 0 % 256) a) (some (get_or reads b 0 / 256)) none
  pub past : (b a : ℕ) → bases ≤ b → a < 255 → witness_index terms b a ≡ none
  pub fixed : (b : ℕ) → b < bases → is_fixed terms b ≡ fixed_in reads b
  pub fixed_past : (b : ℕ) → bases ≤ b → is_fixed terms b ≡ false

abbrev pub as_is : ℕ → List ℕ
as_is x = x ∷ []

abbrev pub as_true : ℕ → List Bool
as_true x = eqb 1 x ∷ []

abbrev pub as_source : ℕ → List Source
as_source row = source_in row ∷ []

pub record Holds (query : Query) (t : Tables) : Type 0 where
  pub counts : Counted t.counts query.terms
  pub values : Column max_bases as_is t.counts.bases t.values query.guess.values
  pub truths : Column max_booleans as_true t.counts.booleans t.truths query.guess.truths
  pub reads : ReadsFound t.counts.bases t.reads query.terms
  pub sources : Column max_sources as_source t.counts.sources t.sources (sources query.terms)
  pub edges : Column max_edges edges_in t.counts.edges t.edges (edges query.terms)
