-- The sources up to t that have the index value are marked, counted and linked, but that the row and the link of the last are still to be put. This speaks of any edges that the words hold, as the function is lent
-- the words alone.
-- Assumes nothing.
use Rattle.std.proofs.Common.{ℕ, ◌*◌, ◌<◌, ◌≤◌}
use lib.ListN.{set}
use Rattle.reach.specs.Reached.{Edges, Fit, rows_in, links_in, sources_in, value_at}
use Rattle.reach.specs.Steps.{Adjacent}
use Rattle.reach.proofs.Values.{Walked, Small}
use Rattle.reach.proofs.mark_value.Given as goal

abbrev pub invariant-loop-t : goal.invariant-loop-t
invariant-loop-t l =
    record {
      before : l.last < l.t;
      small : Small l.made;
      few : l.pairs ≤ 48 * l.t;
      walked : (e : Edges) (n : ℕ) → Fit e (sources_in l.tables) n → Adjacent (e (value_at (sources_in l.tables) l.first)) l.neighbours
          → Walked e (sources_in l.tables) n (value_at (sources_in l.tables) l.first) (set (rows_in l.fn.marks) l.first l.initial.made.row) (links_in l.fn.marks) (set (rows_in l.marks) l.last l.made.row) (links_in l.marks) l.last l.t l.pairs l.made;
    }
