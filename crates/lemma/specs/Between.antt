-- The lemma between two sources, over the rows that are lent: what it is asked of, and its literals.
-- Assumes nothing.
use Rattle.std.specs.Prelude.{ℕ, ◌/◌, ◌%◌, ◌<◌, ◌≤◌, ◌≡◌, true, List, length, get_or}
use Rattle.paper.specs.Sizes.{max_arrays, max_literals}
use Rattle.paper.specs.Lists.{keep}
use Rattle.paper.specs.Edges.{Edge}
use Rattle.paper.specs.Reach.{near, step_cost}
use Rattle.paper.specs.Lemma.{path_from}
use Rattle.terms.specs.declared.Tables.{Tables}
use Rattle.reach.specs.Reached.{open_to, opens_in, reached_in}
use Rattle.reach.specs.Steps.{Lent}
use Rattle.lemma.specs.declared.rows.Literal.{Literal as Row}
use Rattle.lemma.specs.Rows.{literals_of}
use Rattle.lemma.specs.Literals.{literals_for}
use Rattle.lemma.specs.Fixed.{stays_by}

-- an array term reaches another over the edges open to index value x, and there is room for the path between them
pub record Reachable (t : Tables) (x from goal : ℕ) (path : List ℕ) : Type 0 where
  pub lent : Lent t.edges t.counts.edges t.counts.arrays
  pub from_in : from < t.counts.arrays
  pub goal_in : goal < t.counts.arrays
  pub reached : reached_in (opens_in t) t.counts.arrays x goal from ≡ true
  pub room : length path ≡ max_arrays

-- the index value of the first source
abbrev pub index_value_of : (values : List ℕ) (one : ℕ) → ℕ
index_value_of values one = get_or values (one / 256 % 256) 0

-- the rows of two sources, of which the first reaches the origin of the other
pub record Ready (t : Tables) (one other : ℕ) : Type 0 where
  pub lent : Lent t.edges t.counts.edges t.counts.arrays
  pub origin : one % 256 < t.counts.arrays
  pub later_origin : other % 256 < t.counts.arrays
  pub reached : reached_in (opens_in t) t.counts.arrays (index_value_of t.values one) (other % 256) (one % 256) ≡ true

-- "The path shall have the fewest write edges, and among those the fewest edges", over the edges open to index value x
abbrev pub path_over : (values truths edges : List ℕ) (ways arrays x from goal : ℕ) → List Edge
path_over values truths edges ways arrays x from goal =
    let among = open_to values truths edges ways x in
    path_from step_cost arrays among (near step_cost among arrays goal arrays) from

-- "Literals, in order: .. Last the conclusion", along the path from the one origin to the other, and of them those that stay
pub record LemmaBetween (t : Tables) (one other : ℕ) (rows : List Row) : Type 0 where
  pub same : literals_of rows
      ≡ keep (stays_by t.reads) (literals_for one other (path_over t.values t.truths t.edges t.counts.edges t.counts.arrays (index_value_of t.values one) (one % 256) (other % 256)))
  pub most : length rows ≤ max_literals
