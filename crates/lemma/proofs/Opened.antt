-- The rows that are lent, as the path reads them: their open edges, in order, are those of the rows that have one, and the path can be asked for.
-- Assumes nothing.
use Prim.Native.Nat.{ℕ, zero, suc, ◌+◌, ◌/◌, ◌%◌, ◌<◌, ◌≤◌}
use native.Mathlib.Nat.{add-zero, add-suc, suc-add, zero-add}
use native.Mathlib.Omega.{arith}
use mathlib.Core.Path.{◌≡◌, refl, sym, ap, ap₂, ◌∙◌}
use mathlib.Core.Bool.{Bool, true, false, cond}
use mathlib.Core.List.{List, [], ◌∷◌, ◌++◌, map}
use mathlib.Core.Option.{none}
use lib.Dec.{eqb}
use lib.ListN.{length, get_or, take}
use Rattle.paper.specs.Lists.{is_some, keep, range, concat_map}
use Rattle.paper.specs.Edges.{Guard, Edge}
use Rattle.paper.specs.Reach.{near, step_cost}
use Rattle.paper.specs.Lemma.{path_from}
use Rattle.terms.specs.Graph.{open_of, open_in, Each}
use Rattle.reach.specs.Reached.{open_to, reached_in}
use Rattle.costs.specs.Distances.{entry_of, Distances}
use Rattle.reach.specs.Steps.{EndsBelow, Lent}
use Rattle.reach.proofs.Words.{open_each}
use Rattle.lemma.specs.Steps.{table_of, ways_at, is_there, first_of, edge_at, opened, Ends, Asked, PathOf}
use Rattle.lemma.specs.Between.{path_over}
use Rattle.lemma.proofs.Stepping.{walking_start, walking_end}

-- a row has one open edge or none
abbrev AtMostOne : List Edge → Type 0
AtMostOne edges = edges ≡ cond (is_there edges) (first_of edges ∷ []) []

either : (b : Bool) (one other : List Edge) → AtMostOne one → AtMostOne other → AtMostOne (cond b one other)
either true one other first second = first
either false one other first second = second

open_of_one : (values truths : List ℕ) (x left right other number guard : ℕ) → AtMostOne (open_of values truths x left right other number guard)
open_of_one values truths x left right other number zero = either (eqb (get_or values number 0) x) [] (record { left = left; right = right; guard = Guard.differ number } ∷ []) refl refl
open_of_one values truths x left right other number (suc zero) =
    either (eqb 1 (get_or truths (number % 64) 0)) (record { left = left; right = right; guard = Guard.is_true number } ∷ []) (record { left = left; right = other; guard = Guard.is_false number } ∷ []) refl refl
open_of_one values truths x left right other number (suc (suc guard)) =
    either (eqb 1 (get_or truths (number % 64) 0)) (record { left = left; right = right; guard = Guard.is_true number } ∷ []) [] refl refl

open_one : (values truths : List ℕ) (x row : ℕ) → AtMostOne (open_in values truths x row)
unfolding open_in
open_one values truths x row = open_of_one values truths x (row % 64) (row / 64 % 64) (row / 4096 % 64) (row / 262144 % 256) (row / 67108864)

-- so the open edges in order are those of the rows that have one
one_row : (edges : List Edge) → AtMostOne edges → (at : ℕ → Edge) (first : ℕ) → at first ≡ first_of edges → (later : List ℕ) (rest : List Edge) → rest ≡ map at later
    → edges ++ rest ≡ map at (cond (is_there edges) (first ∷ later) later)
one_row [] one at first same later rest below = below
one_row (edge ∷ edges) one at first same later rest below =
    ap (λ (l : List Edge). l ++ rest) one ∙ ap₂ (λ (x : Edge) (xs : List Edge). x ∷ xs) (sym same) below

rows_kept : (f : ℕ → List Edge) → ((row : ℕ) → AtMostOne (f row)) → (g : ℕ → List Edge) (first n : ℕ) (rows : List ℕ) → n ≤ length rows
    → ((k : ℕ) → k < n → g (first + k) ≡ f (get_or rows k 0)) → concat_map f (take n rows) ≡ map (λ k. first_of (g k)) (keep (λ k. is_there (g k)) (range first n))
rows_kept f one g first zero rows long same = refl
rows_kept f one g first (suc n) [] long same = absurd (omega arith)
rows_kept f one g first (suc n) (row ∷ rows) long same =
    let here : g first ≡ f row = ap g (sym (add-zero first)) ∙ same 0 (omega arith) in
    let below = rows_kept f one g (suc first) n rows (omega arith) (λ k inside. ap g (suc-add first k ∙ sym (add-suc first k)) ∙ same (suc k) (omega arith)) in
    let later = keep (λ k. is_there (g k)) (range (suc first) n) in
    one_row (f row) (one row) (λ k. first_of (g k)) first (ap first_of here) later (concat_map f (take n rows)) below
    ∙ ap (λ (l : List Edge). map (λ k. first_of (g k)) (cond (is_there l) (first ∷ later) later)) (sym here)

module _ (values truths rows : List ℕ) (count n : ℕ) (lent : Lent rows count n) where
  -- the open edges are those that the path reads
  opened_same : (x : ℕ) → open_to values truths rows count x ≡ opened (table_of values truths rows count) x
  opened_same x =
      rows_kept (open_in values truths x) (open_one values truths x) (ways_at (table_of values truths rows count) x) 0 count rows (omega (arith, lent.few, lent.long))
      (λ k below. ap (λ (j : ℕ). open_in values truths x (get_or rows j 0)) (zero-add k))

  -- and the path over them is the path over those
  pub path_same : (x from goal : ℕ)
      → path_from step_cost n (opened (table_of values truths rows count) x) (near step_cost (opened (table_of values truths rows count) x) n goal n) from ≡ path_over values truths rows count n x from goal
  path_same x from goal = ap (λ (among : List Edge). path_from step_cost n among (near step_cost among n goal n) from) (sym (opened_same x))

  -- every end is an array term
  first_ends : (edges : List Edge) → 0 < n → Each (EndsBelow n) edges → EndsBelow n (first_of edges)
  first_ends [] some each = (some, some)
  first_ends (edge ∷ edges) some each = each.0

  row_ends : (x k : ℕ) → 0 < n → k < count → EndsBelow n (edge_at (table_of values truths rows count) x k)
  row_ends x k some below = first_ends (ways_at (table_of values truths rows count) x k) some (open_each (EndsBelow n) values truths x (get_or rows k 0) (lent.ends k below))

  module _ (x from goal : ℕ) (from_in : from < n) (reached : reached_in (open_to values truths rows count) n x goal from ≡ true) where
    ends : Ends (table_of values truths rows count) x n
    ends =
        record {
          edges = lent.few;
          arrays = lent.arrays;
          left = λ k below. (row_ends x k (omega arith) below).0;
          right = λ k below. (row_ends x k (omega arith) below).1;
        }

    reached_same : reached_in (opened (table_of values truths rows count)) n x goal from ≡ true
    unfolding reached_in
    reached_same = ap (λ (among : List Edge). is_some (get_or (near step_cost among n goal n) from none)) (sym (opened_same x)) ∙ reached

    -- the path can be asked for
    pub asked : (distances : List (List ℕ)) → goal < n → Distances (open_to values truths rows count) x n distances → Asked (table_of values truths rows count) x n from goal distances
    asked distances goal_in known =
        record {
          ends = ends;
          from_in = from_in;
          goal_in = goal_in;
          distances_are = λ a b a_in b_in. known a b a_in b_in ∙ ap (λ (among : List Edge). entry_of (get_or (near step_cost among n b n) a none)) (opened_same x);
          reached = reached_same;
        }

    -- and has no step where it starts at its end
    pub at_home : (path : List ℕ) → length path ≡ 48 → from ≡ goal → PathOf (table_of values truths rows count) x n from goal path 0
    at_home path room here =
        let begun = walking_start (table_of values truths rows count) x n goal ends from path room reached_same in
        walking_end (table_of values truths rows count) x n goal ends from from 0 path here begun
