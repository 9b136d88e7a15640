-- An open edge of a row is what the row says: its guard is that of the table's edge, and names a term by one byte.
-- Assumes nothing.
use Rattle.std.proofs.Common.{ℕ, zero, suc, ◌/◌, ◌%◌, ◌<◌, ◌≡◌, Bool, true, false, cond, List, [], ◌∷◌, get_or, eqb, Some, None, sym, ap, arith}
use Rattle.paper.specs.Edges.{Guard, Edge}
use Rattle.terms.specs.declared.graph.Edge.{Edge as FoundEdge}
use Rattle.terms.specs.Graph.{open_of, open_in, guard_found, edges_found}
use Rattle.lemma.specs.Steps.{EdgeTable, ways_at, is_there, first_of, open_at, edge_at}
use Rattle.lemma.specs.Literals.{guard_number}

either_number : (b : Bool) (one other : List Edge) → guard_number (first_of one).guard < 256 → guard_number (first_of other).guard < 256 → guard_number (first_of (cond b one other)).guard < 256
either_number true one other first second = first
either_number false one other first second = second

open_number : (values truths : List ℕ) (x left right other number guard : ℕ) → number < 256 → guard_number (first_of (open_of values truths x left right other number guard)).guard < 256
open_number values truths x left right other number zero small =
    either_number (eqb (get_or values number 0) x) [] (record { left = left; right = right; guard = Guard.differ number } ∷ []) (omega arith) small
open_number values truths x left right other number (suc zero) small =
    either_number (eqb 1 (get_or truths (number % 64) 0)) (record { left = left; right = right; guard = Guard.is_true number } ∷ []) (record { left = left; right = other; guard = Guard.is_false number } ∷ []) small small
open_number values truths x left right other number (suc (suc guard)) small =
    either_number (eqb 1 (get_or truths (number % 64) 0)) (record { left = left; right = right; guard = Guard.is_true number } ∷ []) [] small (omega arith)

row_number : (values truths : List ℕ) (x row : ℕ) → guard_number (first_of (open_in values truths x row)).guard < 256
unfolding open_in
row_number values truths x row = open_number values truths x (row % 64) (row / 64 % 64) (row / 4096 % 64) (row / 262144 % 256) (row / 67108864) (omega arith)

-- what the code finds of row k, where the row is open
module _ (e : EdgeTable) (x k : ℕ) where
  pub guard_is : (edge : FoundEdge) → edges_found (Some edge) ≡ ways_at e x k → guard_found edge.guard ≡ (edge_at e x k).guard
  guard_is edge is = ap (λ (edges : List Edge). (first_of edges).guard) is

  pub guard_small : (edge : FoundEdge) → edges_found (Some edge) ≡ ways_at e x k → guard_number (guard_found edge.guard) < 256
  guard_small edge is = rw (guard_is edge is) (row_number e.values e.truths x (get_or e.rows k 0))

  -- an open row has an edge
  pub none_shut : edges_found None ≡ ways_at e x k → open_at e x k ≡ false
  none_shut is = ap is_there (sym is)
