-- What a query comes to in the tables before any call's own answer: the query that they hold, its pairs and its conflicting pair.
-- Assumes nothing.
use Rattle.std.specs.Prelude.{ℕ, ◌<◌, ◌≤◌, ◌≡◌, Bool, false, List, map, length, get_or, Result, IfOk}
use Rattle.paper.specs.declared.Refusal.{Refusal}
use Rattle.paper.specs.Sizes.{max_sources}
use Rattle.paper.specs.Lists.{sum, range}
use Rattle.paper.specs.Terms.{Query}
use Rattle.paper.specs.Load as Load
use Rattle.terms.specs.declared.Tables.{Tables}
use Rattle.terms.specs.Holds.{Holds}
use Rattle.terms.specs.Graph.{Graphed}
use Rattle.terms.specs.Loads.{loaded_as}
use Rattle.reach.specs.Reached.{opens_in, sources_in, origin_at, value_at, RowOf, pairs_of}
use Rattle.reach.specs.Steps.{Unmarked}
use Rattle.lemma.specs.declared.rows.Literal.{Literal}
use Rattle.lemma.specs.Pairs.{Numbers, pair_in, found_of}
use Rattle.lemma.specs.Between.{Ready, LemmaBetween}
use Rattle.front.specs.declared.Ruling.{Ruling}

-- what is lent to be ruled on: rows and links to be marked, and no source known to conflict with nothing
pub record Unruled (t : Tables) (rows next : List ℕ) (clear : List Bool) : Type 0 where
  pub unmarked : Unmarked t.edges t.counts.edges (sources_in t) t.counts.arrays rows next
  pub clear_long : t.counts.sources ≤ length clear
  pub unknown : (k : ℕ) → k < t.counts.sources → get_or clear k false ≡ false

-- what is ruled, by some rows of marks: the number of pairs, and the conflicting pair
pub record Ruled (t : Tables) (ruling : Ruling) : Type 0 where
  pub words : List ℕ
  pub rows : (k : ℕ) → k < t.counts.sources → RowOf (opens_in t) t.counts.arrays (value_at (sources_in t) k) (origin_at (sources_in t) k) (get_or words k 0)
  pub pairs : ruling.pairs ≡ sum (map (pairs_of (opens_in t) (sources_in t) t.counts.arrays) (range 0 t.counts.sources))
  pub found : found_of ruling.found ≡ pair_in (sources_in t) words

-- the tables hold the query of the bytes that are read, which with the answer are what the paper loads; an accepted one is ruled on
pub record Fronted (bytes : List ℕ) (t : Tables) (result : Result Ruling Refusal) : Type 0 where
  pub query : Query
  pub holds : Holds query t
  pub loaded : loaded_as result query ≡ Load.load 32 bytes
  pub accepted : IfOk result (λ ruling. Graphed query t × Ruled t ruling)

-- what an accepted query comes to: the tables hold it, and it is ruled on
pub record Judged (bytes : List ℕ) (t : Tables) (ruling : Ruling) : Type 0 where
  pub query : Query
  pub loaded : Load.load 32 bytes ≡ Load.accepted query
  pub holds : Holds query t
  pub graph : Graphed query t
  pub ruled : Ruled t ruling

-- of some bytes
abbrev pub JudgedOn : Tables → Ruling → Type 0
JudgedOn t ruling = (bytes : List ℕ) × Judged bytes t ruling

-- two sources of the tables whose literals can be asked for
pub record Paired (t : Tables) (first later : ℕ) : Type 0 where
  pub first_in : first < max_sources
  pub later_in : later < max_sources
  pub ready : Ready t (get_or t.sources first 0) (get_or t.sources later 0)

-- their literals were made
abbrev pub Made : Tables → Numbers → (rows : List Literal) → Type 0
Made t numbers rows = LemmaBetween t (get_or t.sources numbers.first 0) (get_or t.sources numbers.later 0) rows
