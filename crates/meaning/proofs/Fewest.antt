-- A walk of least cost is one with the fewest write edges, and among those the fewest edges; and each step of the path is the
-- lowest-numbered open edge with which such a walk begins.
-- Assumes nothing.
use Prim.Native.Nat.{ℕ, suc, ◌+◌, ◌*◌, ◌<◌, ◌≤◌}
use native.Mathlib.Nat.{le_refl}
use native.Mathlib.Decide.{dec_lt}
use native.Mathlib.Omega.{arith}
use mathlib.Core.Path.{◌≡◌, refl, sym, ap, subst}
use mathlib.Core.Bool.{Bool, true, false, cond}
use mathlib.Core.List.Memᴰ
use mathlib.Core.List.{List, [], ◌∷◌, ◌++◌, nil≢cons, head-eq_of_cons-eq, tail-eq_of_cons-eq}
use lib.ListN.{length}
use Rattle.paper.specs.Lists.{◌∈◌}
use Rattle.paper.specs.Edges.{Guard, Edge}
use Rattle.paper.specs.Reach.{Joins, Walk, stay, step, costs, is_write, writes, step_cost}
use Rattle.meaning.proofs.Walks.{shorten, Ranged, joins_below, simple_short}
use Rattle.meaning.proofs.Paths.{Nearer, Lowest}
use Rattle.meaning.proofs.Paths as Paths

module _ (among : List Edge) (goal : ℕ) where
  -- 02, E6: "the fewest write edges, and among those the fewest edges", of the walks from a to the goal
  pub record Fewest (a : ℕ) (walked : List Edge) : Type 0 where
    pub way : Walk among a walked goal
    pub fewest_writes : (other : List Edge) → Walk among a other goal → writes walked ≤ writes other
    pub fewest_edges : (other : List Edge) → Walk among a other goal → writes other ≡ writes walked → length walked ≤ length other

  -- an edge with which such a walk begins
  abbrev pub Begins : (a : ℕ) → Edge → Type 0
  Begins a edge = (rest : List Edge) × Fewest a (edge ∷ rest)

  -- "at each step the lowest-numbered open edge that lies on such a path": no edge before it in the list does
  pub data Stepwise : ℕ → List Edge → Type 0 where
    arrived : Stepwise goal []
    onward : {a b : ℕ} {edge : Edge} {walked : List Edge} (before after : List Edge) → among ≡ before ++ (edge ∷ after) → Begins a edge
        → ((other : Edge) → other ∈ before → Begins a other → ⊥) → Joins edge a b → Stepwise b walked → Stepwise a (edge ∷ walked)

-- what a step costs, and a walk
pub step_most : (guard : Guard) → step_cost guard ≤ 49
step_most (Guard.differ index) = le_refl 49
step_most (Guard.is_true m) = omega arith
step_most (Guard.is_false m) = omega arith

pub cost_is : (walked : List Edge) → costs step_cost walked ≡ 48 * writes walked + length walked
cost_is [] = refl
cost_is (edge ∷ walked) = go (is_write edge.guard) (cost_is walked)
  where
    go : (b : Bool) → costs step_cost walked ≡ 48 * writes walked + length walked → cond b 49 1 + costs step_cost walked ≡ 48 * (cond b 1 0 + writes walked) + suc (length walked)
    go true below = omega (arith, below)
    go false below = omega (arith, below)

-- the write edges are themselves a cost
abbrev write_cost : Guard → ℕ
write_cost guard = cond (is_write guard) 1 0

writes_cost : (walked : List Edge) → costs write_cost walked ≡ writes walked
writes_cost [] = refl
writes_cost (edge ∷ walked) = ap (λ (n : ℕ). write_cost edge.guard + n) (writes_cost walked)

-- the first step of a walk
first_step : {among : List Edge} {a c : ℕ} {walked : List Edge} → Walk among a walked c → (edge : Edge) (rest : List Edge) → walked ≡ edge ∷ rest
    → (b : ℕ) × (edge ∈ among) × Joins edge a b × Walk among b rest c
first_step stay edge rest is = absurd (nil≢cons is)
first_step {among} {a} {c} (step {b = b} {edge = first} {walked = walked} here joined further) edge rest is =
    let same = head-eq_of_cons-eq is in
    (b, subst (λ (e : Edge). e ∈ among) same here, subst (λ (e : Edge). Joins e a b) same joined, subst (λ (l : List Edge). Walk among b l c) (tail-eq_of_cons-eq is) further)

module _ (among : List Edge) (n goal : ℕ) (ranged : Ranged n among) (few : n ≤ 48) where
  -- a walk has another with no more writes and fewer edges than there are array terms
  short : {a : ℕ} {walked : List Edge} → a < n → Walk among a walked goal → (other : List Edge) × Walk among a other goal × (writes other ≤ writes walked) × (length other < n)
  short {a} {walked} inside way =
      let less = shorten write_cost way in
      let begun = subst (λ (x : ℕ). x < n) (sym less.begins) inside in (
        less.walked,
        subst (λ (x : ℕ). Walk among x less.walked goal) less.begins less.way,
        omega (arith, less.cheap, writes_cost less.walked, writes_cost walked),
        simple_short ranged begun less.way less.distinct,
      )

  -- least cost is fewest writes, and then fewest edges
  pub least_fewest : {a : ℕ} {walked : List Edge} → a < n → Walk among a walked goal
      → ((other : List Edge) → Walk among a other goal → costs step_cost walked ≤ costs step_cost other) → Fewest among goal a walked
  least_fewest {a} {walked} inside way least =
      record {
        way = way;
        fewest_writes =
            λ other there.
            let (less, on, fewer, brief) = short inside there in
            omega (arith, least less on, cost_is walked, cost_is less, fewer, brief, few);
        fewest_edges = λ other there same. omega (arith, least other there, cost_is walked, cost_is other, same);
      }

  pub fewest_least : {a : ℕ} {walked : List Edge} → a < n → Fewest among goal a walked → (other : List Edge) → Walk among a other goal → costs step_cost walked ≤ costs step_cost other
  fewest_least {a} {walked} inside best other there =
      let (less, on, fewer, brief) = short inside best.way in
      let same : writes less ≡ writes walked = omega (arith, fewer, best.fewest_writes less on) in
      let most = best.fewest_edges less on same in
      by_writes less same most brief (dec_lt (writes walked) (writes other))
    where
      by_writes : (less : List Edge) → writes less ≡ writes walked → length walked ≤ length less → length less < n → Dec (writes walked < writes other) → costs step_cost walked ≤ costs step_cost other
      by_writes less same most brief (yes more) = omega (arith, cost_is walked, cost_is other, few)
      by_writes less same most brief (no as_few) =
          let equal : writes other ≡ writes walked = omega (arith, as_few, best.fewest_writes other there) in
          omega (arith, best.fewest_edges other there equal, equal, cost_is walked, cost_is other)

  -- an edge leads nearer exactly if such a walk begins with it
  nearer_begins : {a : ℕ} (edge : Edge) → edge ∈ among → a < n → Nearer step_cost among goal a edge → Begins among goal a edge
  nearer_begins edge here inside (b, d, joined, rest, whole) =
      (rest.walked, least_fewest inside (step here joined rest.way) (λ other there. omega (arith, whole.least other there, rest.total)))

  begins_nearer : {a : ℕ} (edge : Edge) → a < n → Begins among goal a edge → Nearer step_cost among goal a edge
  begins_nearer {a} edge inside (rest, best) =
      let (b, here, joined, further) = first_step best.way edge rest refl in
      let least = fewest_least inside best in (
        b,
        costs step_cost rest,
        joined,
        record { walked = rest; way = further; total = refl; least = λ other there. omega (arith, least (edge ∷ other) (step here joined there)) },
        record { walked = edge ∷ rest; way = best.way; total = refl; least = least },
      )

  -- so the path that takes the lowest edge that leads nearer takes the lowest with which such a walk begins
  pub lowest_stepwise : {a : ℕ} {path : List Edge} → a < n → Lowest step_cost among goal a path → Stepwise among goal a path
  lowest_stepwise inside Paths.arrived = arrived
  lowest_stepwise inside (Paths.onward {edge = edge} before after split nearer none_before joined rest) =
      let here = subst (λ (all : List Edge). edge ∈ all) (sym split) (Memᴰ.append_right before (Memᴰ.head refl)) in
      onward before after split (nearer_begins edge here inside nearer)
      (λ other earlier begins. none_before other earlier (begins_nearer other inside begins))
      joined
      (lowest_stepwise (joins_below ranged edge here joined) rest)
