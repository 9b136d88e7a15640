-- Ways over the words against walks: the least cost of the one is the least cost of the other.
-- Assumes nothing.
use Prim.Native.Nat.{ℕ, ◌+◌, ◌<◌}
use native.Mathlib.Decide.{ℕ_discrete}
use native.Mathlib.Omega.{arith}
use mathlib.Core.Path.{◌≡◌, refl, sym, ap, ◌∙◌, subst}
use mathlib.Core.Bool.{Bool, true, false, cond, not, false≢true}
use mathlib.Core.List.{List, [], ◌∷◌, ◌++◌}
use mathlib.Core.Option.{Option, none, some}
use lib.ListN.{length, get_or, set}
use lib.Seq.{get_or-set_same, get_or-set_other}
use Rattle.paper.specs.Lists.{◌∈◌}
use Rattle.paper.specs.Edges.{Guard, Edge}
use Rattle.paper.specs.Reach.{Joins, Walk, stay, step, costs, near, is_write, step_cost}
use Rattle.meaning.proofs.Lists.{keep_in, keep_has}
use Rattle.meaning.proofs.Walks.{walk_on}
use Rattle.meaning.proofs.Distances.{entry_walk}
use Rattle.meaning.proofs.Paths.{least_is_entry}
use Rattle.reach.specs.Reached.{Edges, Ends}
use Rattle.costs.specs.Distances.{entry_of}
use Rattle.costs.specs.Levels.{Route, home, along, over, Sorted, DistancesFrom}
use Rattle.reach.proofs.Rows.{open_ranged}

-- what one edge more costs
costs_on : (walked : List Edge) (edge : Edge) → costs step_cost (walked ++ (edge ∷ [])) ≡ costs step_cost walked + step_cost edge.guard
costs_on [] edge = omega arith
costs_on (first ∷ walked) edge = omega (arith, costs_on walked edge)

write_cost_lem : (guard : Guard) (is : Bool) → is_write guard ≡ is → step_cost guard ≡ cond is 49 1
write_cost_lem guard is same = ap (λ (b : Bool). cond b 49 1) same

module _ (e : Edges) (n x : ℕ) (ends : Ends e n) {cheap writes : List ℕ} (known : Sorted (e x) cheap writes) where
  -- a way over the words is a walk of the same cost
  one_on : {origin a b cost more : ℕ} → ((walked : List Edge) × Walk (e x) origin walked a × (costs step_cost walked ≡ cost)) → (edge : Edge) → edge ∈ e x → Joins edge a b → step_cost edge.guard ≡ more
      → (walked : List Edge) × Walk (e x) origin walked b × (costs step_cost walked ≡ cost + more)
  one_on (walked, way, total) edge here joined last = (walked ++ (edge ∷ []), walk_on way here joined, omega (arith, costs_on walked edge, total, last))

  route_walk : {origin cost a : ℕ} → Route cheap writes origin cost a → (walked : List Edge) × Walk (e x) origin walked a × (costs step_cost walked ≡ cost)
  route_walk home = ([], stay, refl)
  route_walk (along {a = a} {b = b} to next) =
      let last = known.0.sound a b next in
      let kept = keep_in (λ edge. not (is_write edge.guard)) (e x) last.1 in
      one_on (route_walk to) last.0 kept.0 last.2 (write_cost_lem last.0.guard false (not_true (is_write last.0.guard) kept.1))
    where
      not_true : (b : Bool) → not b ≡ true → b ≡ false
      not_true true is = absurd (false≢true is)
      not_true false is = refl
  route_walk (over {a = a} {b = b} to next) =
      let last = known.1.sound a b next in
      let kept = keep_in (λ edge. is_write edge.guard) (e x) last.1 in
      one_on (route_walk to) last.0 kept.0 last.2 (write_cost_lem last.0.guard true kept.1)

  -- a walk goes on a way
  step_route : {origin cost a b : ℕ} → Route cheap writes origin cost a → (edge : Edge) → edge ∈ e x → Joins edge a b → Route cheap writes origin (cost + step_cost edge.guard) b
  step_route {origin} {cost} {a} {b} to edge here joined = go (is_write edge.guard) refl
    where
      at : (more : ℕ) → step_cost edge.guard ≡ more → Route cheap writes origin (cost + more) b → Route cheap writes origin (cost + step_cost edge.guard) b
      at more same way = subst (λ (k : ℕ). Route cheap writes origin (cost + k) b) (sym same) way

      go : (is : Bool) → is_write edge.guard ≡ is → Route cheap writes origin (cost + step_cost edge.guard) b
      go true is = at 49 (write_cost_lem edge.guard true is) (over to (known.1.complete a b (edge, keep_has (λ other. is_write other.guard) (e x) here is, joined)))
      go false is = at 1 (write_cost_lem edge.guard false is) (along to (known.0.complete a b (edge, keep_has (λ other. not (is_write other.guard)) (e x) here (ap not is), joined)))

  walk_route : {origin cost a c : ℕ} {walked : List Edge} → Route cheap writes origin cost a → Walk (e x) a walked c → Route cheap writes origin (cost + costs step_cost walked) c
  walk_route {origin} {cost} {a} to stay =
      let same : cost ≡ cost + 0 = omega arith in
      subst (λ (k : ℕ). Route cheap writes origin k a) same to
  walk_route {origin} {cost} {c = c} to (step {a} {b} {edge = edge} {walked = walked} first joined rest) =
      let same : cost + step_cost edge.guard + costs step_cost walked ≡ cost + (step_cost edge.guard + costs step_cost walked) = omega arith in
      subst (λ (k : ℕ). Route cheap writes origin k c) same (walk_route {cost = cost + step_cost edge.guard} (step_route to edge first joined) rest)

  walk_from : {a b : ℕ} {walked : List Edge} → Walk (e x) a walked b → Route cheap writes a (costs step_cost walked) b
  walk_from {a} {b} {walked} way =
      let same : 0 + costs step_cost walked ≡ costs step_cost walked = omega arith in
      subst (λ (k : ℕ). Route cheap writes a k b) same (walk_route home way)

  -- The least costs of ways are the paper's distances
  pub distance_is : (a b : ℕ) (row : List ℕ) → a < n → b < n → DistancesFrom cheap writes a row → get_or row b 0 ≡ entry_of (get_or (near step_cost (e x) n b n) a none)
  distance_is a b row a_in b_in right = go (ℕ_discrete (get_or row b 0) 255)
    where
      b_few : b < 48
      b_few = omega (arith, ends.arrays)

      entry : Option ℕ
      entry = get_or (near step_cost (e x) n b n) a none

      nothing : get_or row b 0 ≡ 255 → (there : Option ℕ) → entry ≡ there → 255 ≡ entry_of there
      nothing uncounted none is = refl
      nothing uncounted (some d) is = absurd (right.none b b_few uncounted (costs step_cost walk.0) (walk_from walk.1))
        where
          walk : (walked : List Edge) × Walk (e x) a walked b × (costs step_cost walked ≡ d)
          walk = entry_walk step_cost (e x) n b n is

      go : Dec (get_or row b 0 ≡ 255) → get_or row b 0 ≡ entry_of entry
      go (yes uncounted) = uncounted ∙ nothing uncounted entry refl
      go (no counted) =
          let (distance, to, least, is) = right.some b b_few counted in
          let (walked, way, total) = route_walk to in
          is
          ∙ sym (ap entry_of (least_is_entry step_cost (e x) n b (open_ranged e n x ends) a_in
          (record { walked = walked; way = way; total = total; least = λ other there. least (costs step_cost other) (walk_from there) })))

-- the distances of one array term more
pub distances_put : {cheap writes : List ℕ} (table : List (List ℕ)) (a : ℕ) (row : List ℕ) → a < length table → DistancesFrom cheap writes a row → ((j : ℕ) → j < a → DistancesFrom cheap writes j (get_or table j []))
    → (j : ℕ) → j < a + 1 → DistancesFrom cheap writes j (get_or (set table a row) j [])
distances_put {cheap} {writes} table a row inside right before j below = go (ℕ_discrete j a)
  where
    go : Dec (j ≡ a) → DistancesFrom cheap writes j (get_or (set table a row) j [])
    go (yes same) = subst (λ (i : ℕ). DistancesFrom cheap writes i (get_or (set table a row) i [])) (sym same) (rw (get_or-set_same table a row [] inside) right)
    go (no other) = rw (get_or-set_other table a j row [] other) (before j (omega (arith, other)))
