-- The literals between two sources of an accepted query are the paper's lemma of the pair.
-- Assumes nothing.
use Prim.Native.Nat.{ℕ, ◌/◌, ◌%◌, ◌<◌}
use mathlib.Core.Path.{◌≡◌, sym, ap, ap₂, ◌∙◌}
use mathlib.Core.List.{List}
use mathlib.Core.Option.{Option}
use lib.ListN.{get_or}
use Rattle.paper.specs.Lists.{keep}
use Rattle.paper.specs.Fields.{array}
use Rattle.paper.specs.Terms.{Query, given, assigned}
use Rattle.paper.specs.Edges.{Edge, open_edges}
use Rattle.paper.specs.Reach.{index_value, near, step_cost, distances}
use Rattle.paper.specs.Lemma.{path_from, path, lemma}
use Rattle.terms.specs.declared.Tables.{Tables}
use Rattle.terms.specs.Tables.{source_in}
use Rattle.terms.specs.Holds.{Holds}
use Rattle.terms.specs.Graph.{Graphed}
use Rattle.reach.specs.Reached.{opens_in, sources_in, origin_at, value_at}
use Rattle.reach.proofs.Paper.{source_at, source_within, index_same, distances_same}
use Rattle.lemma.specs.Pairs.{Numbers}
use Rattle.lemma.specs.declared.rows.Literal.{Literal as Row}
use Rattle.lemma.specs.Rows.{literals_of}
use Rattle.lemma.specs.Literals.{literals_for}
use Rattle.lemma.specs.Fixed.{stays_by}
use Rattle.lemma.specs.Between.{LemmaBetween}
use Rattle.lemma.proofs.Marks.{path_open, left_paper}
use Rattle.lemma.proofs.Taken.{pair_at}

module _ {query : Query} {t : Tables} (held : Holds query t) (graph : Graphed query t) where
  -- the path over the open rows is the paper's
  path_paper : (x from goal : ℕ)
      → path_from step_cost t.counts.arrays (opens_in t x) (near step_cost (opens_in t x) t.counts.arrays goal t.counts.arrays) from
      ≡ path_from step_cost (given array query.terms) (open_edges query.terms (assigned query.guess) x) (distances query.terms (assigned query.guess) x goal) from
  path_paper x from goal =
      ap₂ (λ (n : ℕ) (among : List Edge). path_from step_cost n among (near step_cost (opens_in t x) t.counts.arrays goal t.counts.arrays) from) (sym (held.counts.given_as array)) (graph.opened x)
      ∙ ap (λ (table : List (Option ℕ)). path_from step_cost (given array query.terms) (open_edges query.terms (assigned query.guess) x) table from) (distances_same held graph x goal)

  pub lemma_paper : (numbers : Numbers) → numbers.first < t.counts.sources → numbers.later < t.counts.sources → (rows : List Row)
      → LemmaBetween t (get_or t.sources numbers.first 0) (get_or t.sources numbers.later 0) rows
      → literals_of rows ≡ lemma query.terms (assigned query.guess) (pair_at (sources_in t) numbers)
  unfolding lemma path source_in
  lemma_paper numbers inside later_inside rows known =
      known.same
      ∙ ap (λ (along : List Edge). keep (stays_by t.reads) (literals_for (get_or t.sources numbers.first 0) (get_or t.sources numbers.later 0) along))
      (path_paper (value_at (sources_in t) numbers.first) (origin_at (sources_in t) numbers.first) (origin_at (sources_in t) numbers.later)
      ∙ ap
      (λ (y : ℕ).
      path_from step_cost (given array query.terms) (open_edges query.terms (assigned query.guess) y) (distances query.terms (assigned query.guess) y (origin_at (sources_in t) numbers.later)) (origin_at (sources_in t) numbers.first))
      (index_same held graph numbers.first inside))
      ∙ left_paper held graph (get_or t.sources numbers.first 0 / 256 % 256) (get_or t.sources numbers.later 0 / 256 % 256) (get_or t.sources numbers.first 0 / 65536 % 256) (get_or t.sources numbers.later 0 / 65536 % 256)
      (source_within held graph numbers.first inside).1 (source_within held graph numbers.later later_inside).1
      (index_value (assigned query.guess) (source_at t numbers.first)) (path query.terms (assigned query.guess) (pair_at (sources_in t) numbers))
      (path_open query.terms (assigned query.guess) (pair_at (sources_in t) numbers))
