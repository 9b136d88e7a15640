-- Rows against walks: a row that is spread over the adjacency words has a bit for each array term that is reached, and no other.
-- Assumes nothing.
use Prim.Native.Nat.{ℕ, ◌+◌, ◌-◌, ◌<◌, ◌≤◌}
use native.Mathlib.Omega.{arith}
use mathlib.Core.Path.{◌≡◌, refl, sym, ap, ◌∙◌}
use mathlib.Core.Logic.{◌⊎◌, inl, inr}
use mathlib.Core.Bool.{Bool, true, false, cond, false≢true}
use mathlib.Core.List.{List, [], ◌∷◌, ◌++◌}
use borrow.Author.Tests.{ne_eqb}
use lib.Dec.{eqb}
use lib.ListN.{get_or}
use Rattle.paper.specs.Lists.{count, range}
use Rattle.paper.specs.Edges.{Edge}
use Rattle.paper.specs.Reach.{Walk, stay, step, step_cost}
use Rattle.meaning.proofs.Lists.{same_test}
use Rattle.meaning.proofs.Walks.{walk_on, walk_back, Ranged, joins_below}
use Rattle.meaning.proofs.Distances.{entry_reached, reached_entry}
use Rattle.reach.specs.Reached.{Edges, reached_in, bit, Ends, RowOf}
use Rattle.reach.specs.Steps.{Adjacent, Trail, here, onward, has, marks, Spreads}
use Rattle.reach.specs.declared.Spread.{Spread}
use Rattle.reach.proofs.Bits.{bit_cases}
use Rattle.reach.proofs.Counts.{count_same, count_past}

-- two walks one after the other; where a walk ends
walk_append : {among : List Edge} {a b c : ℕ} {walked further : List Edge} → Walk among a walked b → Walk among b further c → Walk among a (walked ++ further) c
walk_append stay rest = rest
walk_append (step first joined way) rest = step first joined (walk_append way rest)

walk_below : {among : List Edge} {a c : ℕ} {walked : List Edge} {n : ℕ} → Ranged n among → a < n → Walk among a walked c → c < n
walk_below ranged inside stay = inside
walk_below ranged inside (step {edge = edge} first joined rest) = walk_below ranged (joins_below ranged edge first joined) rest

module _ (e : Edges) (n x : ℕ) (ends : Ends e n) where
  pub open_ranged : Ranged n (e x)
  open_ranged = ends.ranged x

  -- to be reached is to have a walk
  pub reached_walk : {origin a : ℕ} → reached_in e n x origin a ≡ true → (walked : List Edge) × Walk (e x) a walked origin
  unfolding reached_in
  reached_walk {origin} reached = entry_reached step_cost (e x) n origin reached

  pub walk_reached : {origin a : ℕ} {walked : List Edge} → a < n → Walk (e x) a walked origin → reached_in e n x origin a ≡ true
  unfolding reached_in
  walk_reached {origin} inside way = reached_entry step_cost (e x) n origin open_ranged inside way

  -- reach goes both ways
  pub reached_back : (a b : ℕ) → a < n → reached_in e n x a b ≡ true → reached_in e n x b a ≡ true
  reached_back a b inside reached = walk_reached inside (walk_back (reached_walk reached).1).1

  pub reached_same : (a b : ℕ) → a < n → b < n → reached_in e n x a b ≡ reached_in e n x b a
  reached_same a b a_in b_in = same_test (reached_in e n x a b) (reached_in e n x b a) (reached_back a b a_in) (reached_back b a b_in)

  module _ (words : List ℕ) (known : Adjacent (e x) words) where
    -- a way over the words is a walk, and what has the origin and is closed has all that a walk comes to
    way_walk : {origin steps a : ℕ} → Trail words origin steps a → (walked : List Edge) × Walk (e x) origin walked a
    way_walk here = ([], stay)
    way_walk (onward {a = a} {b = b} way next) =
        let before = way_walk way in
        let last = known.sound a b next in
        (before.0 ++ (last.0 ∷ []), walk_on before.1 last.1 last.2)

    walk_closed : (row : ℕ) {a c : ℕ} {walked : List Edge} → ((a b : ℕ) → bit row a ≡ 1 → bit (get_or words a 0) b ≡ 1 → bit row b ≡ 1)
        → Walk (e x) a walked c → bit row a ≡ 1 → bit row c ≡ 1
    walk_closed row closed stay is = is
    walk_closed row closed (step {a} {b} {edge = edge} first joined rest) is =
        walk_closed row closed rest (closed a b is (known.complete a b (edge, first, joined)))

    module _ (origin : ℕ) (inside : origin < n) (made : Spread) (spreads : Spreads words origin made) where
      marked_walk : (a : ℕ) → bit made.row a ≡ 1 → (walked : List Edge) × Walk (e x) origin walked a
      marked_walk a is = way_walk (spreads.sound a is).1

      marked_inside : (a : ℕ) → bit made.row a ≡ 1 → a < n
      marked_inside a is = walk_below open_ranged inside (marked_walk a is).1

      -- The fixpoint is reach, in both directions
      pub row_of : RowOf e n x origin made.row
      row_of a = go (reached_in e n x origin a) refl (bit_cases made.row a)
        where
          go : (b : Bool) → reached_in e n x origin a ≡ b → (bit made.row a ≡ 0) ⊎ (bit made.row a ≡ 1) → bit made.row a ≡ cond b 1 0
          go true reached (inl unmarked) =
              let back = walk_back (reached_walk reached).1 in
              walk_closed made.row spreads.closed back.1 spreads.start
          go true reached (inr marked) = marked
          go false reached (inl unmarked) = unmarked
          go false reached (inr marked) =
              let back = walk_back (marked_walk a marked).1 in
              absurd (false≢true (sym reached ∙ walk_reached (marked_inside a marked) back.1))

      -- and the count is that of what is reached
      pub marked_of : made.marked ≡ count (reached_in e n x origin) (range 0 n)
      unfolding marks
      marked_of =
          spreads.marked
          ∙ ap (λ (m : ℕ). count (has made.row) (range 0 m)) whole
          ∙ count_past (has made.row) 0 n (48 - n) past
          ∙ count_same (has made.row) (reached_in e n x origin) 0 n (λ a low high. same a)
        where
          whole : 48 ≡ n + (48 - n)
          whole = omega (arith, ends.arrays)

          past : (a : ℕ) → 0 + n ≤ a → has made.row a ≡ false
          past a beyond = ne_eqb (bit made.row a) 1 (λ is. omega (arith, marked_inside a is))

          test : (b : Bool) → eqb (cond b 1 0) 1 ≡ b
          test true = refl
          test false = refl

          same : (a : ℕ) → has made.row a ≡ reached_in e n x origin a
          same a = ap (λ (d : ℕ). eqb d 1) (row_of a) ∙ test (reached_in e n x origin a)

  -- an origin that stands in a row reaches what the row's own origin does
  module _ (origin other row : ℕ) (inside : origin < n) (row_is : RowOf e n x origin row) (stands : bit row other ≡ 1) where
    other_walk : (walked : List Edge) × Walk (e x) other walked origin
    other_walk = go (reached_in e n x origin other) refl
      where
        go : (b : Bool) → reached_in e n x origin other ≡ b → (walked : List Edge) × Walk (e x) other walked origin
        go true reached = reached_walk reached
        go false reached = absurd (omega (arith, row_is other ∙ ap (λ (b : Bool). cond b 1 0) reached))

    pub same_reach : (a : ℕ) → reached_in e n x origin a ≡ reached_in e n x other a
    same_reach a = same_test (reached_in e n x origin a) (reached_in e n x other a) there back
      where
        back_walk : (walked : List Edge) × Walk (e x) origin walked other
        back_walk = walk_back other_walk.1

        inside_of : {to : ℕ} {walked : List Edge} → to < n → Walk (e x) a walked to → a < n
        inside_of to_in way = walk_below open_ranged to_in (walk_back way).1

        there : reached_in e n x origin a ≡ true → reached_in e n x other a ≡ true
        there reached =
            let way = reached_walk reached in
            walk_reached (inside_of inside way.1) (walk_append way.1 back_walk.1)

        back : reached_in e n x other a ≡ true → reached_in e n x origin a ≡ true
        back reached =
            let way = walk_append (reached_walk reached).1 other_walk.1 in
            walk_reached (inside_of inside way) way

    pub same_row : RowOf e n x other row
    same_row a = row_is a ∙ ap (λ (b : Bool). cond b 1 0) (same_reach a)

    pub same_count : count (reached_in e n x origin) (range 0 n) ≡ count (reached_in e n x other) (range 0 n)
    same_count = count_same (reached_in e n x origin) (reached_in e n x other) 0 n (λ a low high. same_reach a)
