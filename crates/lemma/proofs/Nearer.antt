-- The edge that a path takes next: a row that cannot join an array term is passed over, and the first row whose edge leads nearer has the edge.
-- Assumes nothing.
use Prim.Native.Nat.{ℕ, zero, suc, ◌+◌, ◌/◌, ◌%◌, ◌<◌}
use native.Mathlib.Nat.{sub-zero}
use native.Mathlib.Omega.{arith}
use mathlib.Core.Path.{◌≡◌, refl, sym, ap}
use mathlib.Core.Bool.{Bool, true, false, cond, false≢true}
use mathlib.Core.List.{List, [], ◌∷◌, nil≢cons}
use mathlib.Core.Option.{none, some}
use borrow.Author.Tests.{ne_eqb}
use lib.Dec.{eqb}
use lib.ListN.{get_or}
use Rattle.paper.specs.Edges.{Guard, Edge}
use Rattle.paper.specs.Reach.{step_cost}
use Rattle.meaning.proofs.Fewest.{step_most}
use Rattle.meaning.proofs.Conflicts.{step_positive}
use Rattle.terms.specs.Graph.{open_of, open_in}
use Rattle.lemma.specs.Steps.{EdgeTable, ways_at, is_there, first_of, edge_at, distance_at, step_less, nearer_over, nearer_in, touches_in, nearer_by, nearer_edge}
use Rattle.lemma.proofs.Ranges.{range_from, range_end, find_skip}

-- a step changes the distance
pub stays_put : (away : ℕ) (guard : Guard) → step_less away (step_cost guard) away ≡ false
stays_put away guard = ne_eqb ((away + step_cost guard) % 128) away (λ same. omega (arith, same, step_positive guard, step_most guard))

-- a row that cannot join an array term does not lead nearer from it
module _ (distances : List (List ℕ)) (a goal : ℕ) where
  not_there : (edge : Edge) → eqb edge.left a ≡ false → eqb edge.right a ≡ false → nearer_in (edge ∷ []) distances a goal ≡ []
  not_there edge off_left off_right = rw (off_left, off_right, stays_put (distance_at distances a goal) edge.guard)

  off_either : (b : Bool) (one other : List Edge) → nearer_in one distances a goal ≡ [] → nearer_in other distances a goal ≡ [] → nearer_in (cond b one other) distances a goal ≡ []
  off_either true one other first second = first
  off_either false one other first second = second

  open_off : (values truths : List ℕ) (x left right other number guard : ℕ) → eqb left a ≡ false → eqb right a ≡ false → eqb other a ≡ false
      → nearer_in (open_of values truths x left right other number guard) distances a goal ≡ []
  open_off values truths x left right other number zero off_left off_right off_other =
      let write : Edge = record { left = left; right = right; guard = Guard.differ number } in
      off_either (eqb (get_or values number 0) x) [] (write ∷ []) refl (not_there write off_left off_right)
  open_off values truths x left right other number (suc zero) off_left off_right off_other =
      let one : Edge = record { left = left; right = right; guard = Guard.is_true number } in
      let two : Edge = record { left = left; right = other; guard = Guard.is_false number } in
      off_either (eqb 1 (get_or truths (number % 64) 0)) (one ∷ []) (two ∷ []) (not_there one off_left off_right) (not_there two off_left off_other)
  open_off values truths x left right other number (suc (suc guard)) off_left off_right off_other =
      let one : Edge = record { left = left; right = right; guard = Guard.is_true number } in
      off_either (eqb 1 (get_or truths (number % 64) 0)) (one ∷ []) [] (not_there one off_left off_right) refl

  pub row_off : (values truths : List ℕ) (x row : ℕ) → touches_in row a ≡ false → nearer_in (open_in values truths x row) distances a goal ≡ []
  unfolding open_in
  row_off values truths x row off =
      let (off_left, off_right, off_other) = none_is (eqb (row % 64) a) (eqb (row / 64 % 64) a) (eqb (row / 4096 % 64) a) off in
      open_off values truths x (row % 64) (row / 64 % 64) (row / 4096 % 64) (row / 262144 % 256) (row / 67108864) off_left off_right off_other
    where
      none_is : (b c d : Bool) → cond b true (cond c true d) ≡ false → (b ≡ false) × (c ≡ false) × (d ≡ false)
      none_is true c d is = absurd (false≢true (sym is))
      none_is false true d is = absurd (false≢true (sym is))
      none_is false false d is = (refl, refl, is)

-- the first row whose edge leads nearer has the edge that is chosen
module _ (e : EdgeTable) (distances : List (List ℕ)) (x a goal : ℕ) where
  pub chosen_first : (k : ℕ) → k < e.count → ((j : ℕ) → j < k → nearer_by e distances x a goal j ≡ false) → nearer_by e distances x a goal k ≡ true
      → nearer_edge e distances x a goal ≡ some (k, edge_at e x k)
  unfolding nearer_edge
  chosen_first k inside before here =
      rw (← sub-zero e.count, find_skip (nearer_by e distances x a goal) e.count 0 k (omega arith) (omega arith) (λ j above below. before j below), range_from e.count k inside, here)

  pub chosen_none : ((j : ℕ) → j < e.count → nearer_by e distances x a goal j ≡ false) → nearer_edge e distances x a goal ≡ none
  unfolding nearer_edge
  chosen_none before =
      rw (← sub-zero e.count, find_skip (nearer_by e distances x a goal) e.count 0 e.count (omega arith) (omega arith) (λ j above below. before j below), range_end e.count e.count (omega arith))

-- a row's edge that leads nearer is the one that the row has open; where it has none, row k does not lead nearer
module _ (e : EdgeTable) (distances : List (List ℕ)) (x a goal k : ℕ) where
  pub leads_by : {edge : Edge} → edge ∷ [] ≡ nearer_in (ways_at e x k) distances a goal → (nearer_by e distances x a goal k ≡ true) × (edge_at e x k ≡ edge)
  leads_by {edge} = go (ways_at e x k)
    where
      kept : (first : Edge) (passes : Bool) → edge ∷ [] ≡ cond passes (first ∷ []) [] → (passes ≡ true) × (first ≡ edge)
      kept first true is = (refl, ap (λ (edges : List Edge). first_of edges) (sym is))
      kept first false is = absurd (nil≢cons (sym is))

      go : (edges : List Edge) → edge ∷ [] ≡ nearer_in edges distances a goal → (cond (is_there edges) (nearer_over (first_of edges) distances a goal) false ≡ true) × (first_of edges ≡ edge)
      go [] is = absurd (nil≢cons (sym is))
      go (first ∷ edges) is = kept first (nearer_over first distances a goal) is

  pub leads_not : [] ≡ nearer_in (ways_at e x k) distances a goal → nearer_by e distances x a goal k ≡ false
  leads_not = go (ways_at e x k)
    where
      lost : (first : Edge) (passes : Bool) → [] ≡ cond passes (first ∷ []) [] → passes ≡ false
      lost first true is = absurd (nil≢cons is)
      lost first false is = refl

      go : (edges : List Edge) → [] ≡ nearer_in edges distances a goal → cond (is_there edges) (nearer_over (first_of edges) distances a goal) false ≡ false
      go [] is = refl
      go (first ∷ edges) is = lost first (nearer_over first distances a goal) is
