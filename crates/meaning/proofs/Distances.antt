-- The table of distances says what walks say: an entry is the cost of a walk, and no walk costs less.
-- Assumes nothing.
use Prim.Native.Nat.{ℕ, zero, suc, ◌+◌, ◌<◌, ◌≤◌}
use native.Mathlib.Nat.{zero-add, le_refl, le_of_lt, le_of_suc-le-suc, not-suc-le-zero}
use native.Mathlib.Decide.{dec_lt}
use native.Mathlib.Omega.{arith}
use mathlib.Core.Path.{◌≡◌, refl, sym, ap, ◌∙◌, subst}
use mathlib.Core.Logic.{◌⊎◌, inl, inr}
use mathlib.Core.Bool.{Bool, true, false, cond, false≢true}
use mathlib.Core.List.Memᴰ
use mathlib.Core.List.{List, [], ◌∷◌, foldr}
use mathlib.Core.Option.{Option, none, some, none-ne-some}
use borrow.Author.Tests.{eqb-true, eq-eqb, leb-true, leb-false}
use lib.Dec.{eqb, leb}
use lib.ListN.{length, get_or}
use Rattle.paper.specs.Lists.{◌∈◌, is_some, map_option, bind_option}
use Rattle.paper.specs.Edges.{Guard, Edge}
use Rattle.paper.specs.Reach.{Joins, Walk, stay, step, across, least, costs, over, near}
use Rattle.meaning.proofs.Lists.{table_at, table_past}
use Rattle.meaning.proofs.Walks.{shorten, Ranged, joins_below, simple_short}

-- an entry that is there and at most so much
abbrev pub AtMost : Option ℕ → ℕ → Type 0
AtMost entry most = (d : ℕ) × (entry ≡ some d) × (d ≤ most)

-- the lesser of two entries is one of them, and at most either
least_is : (one other : Option ℕ) {d : ℕ} → least one other ≡ some d → (one ≡ some d) ⊎ (other ≡ some d)
least_is none other e = inr e
least_is (some m) none e = inl e
least_is (some m) (some n) {d} e = go (leb m n) e
  where
    go : (b : Bool) → cond b (some m) (some n) ≡ some d → (some m ≡ some d) ⊎ (some n ≡ some d)
    go true e = inl e
    go false e = inr e

least_left : (one other : Option ℕ) {most : ℕ} → AtMost one most → AtMost (least one other) most
least_left none other found = absurd (none-ne-some found.0 found.1)
least_left (some m) none found = found
least_left (some m) (some n) {most} found = go (leb m n) refl
  where
    go : (b : Bool) → leb m n ≡ b → AtMost (cond b (some m) (some n)) most
    go true e = found
    go false e =
        let same : m ≡ found.0 = cc found.1 in
        let more = leb-false m n e in
        (n, refl, omega (arith, found.2))

least_right : (one other : Option ℕ) {most : ℕ} → AtMost other most → AtMost (least one other) most
least_right none other found = found
least_right (some m) none found = absurd (none-ne-some found.0 found.1)
least_right (some m) (some n) {most} found = go (leb m n) refl
  where
    go : (b : Bool) → leb m n ≡ b → AtMost (cond b (some m) (some n)) most
    go true e =
        let same : n ≡ found.0 = cc found.1 in
        let more = leb-true m n e in
        (m, refl, omega (arith, found.2))
    go false e = found

-- the same of the least over a list of edges
module _ (by : Edge → Option ℕ) (before : Option ℕ) where
  nearest : List Edge → Option ℕ
  nearest among = foldr (λ edge entry. least (by edge) entry) before among

  nearest_is : (among : List Edge) {d : ℕ} → nearest among ≡ some d → (before ≡ some d) ⊎ ((edge : Edge) × (edge ∈ among) × (by edge ≡ some d))
  unfolding nearest
  nearest_is [] e = inl e
  nearest_is (edge ∷ among) {d} e = go (least_is (by edge) (nearest among) e) (λ below. nearest_is among below)
    where
      further : (before ≡ some d) ⊎ ((other : Edge) × (other ∈ among) × (by other ≡ some d)) → (before ≡ some d) ⊎ ((other : Edge) × (other ∈ edge ∷ among) × (by other ≡ some d))
      further (inl there) = inl there
      further (inr found) = inr (found.0, Memᴰ.tail found.1, found.2)

      go : (by edge ≡ some d) ⊎ (nearest among ≡ some d) → (nearest among ≡ some d → (before ≡ some d) ⊎ ((other : Edge) × (other ∈ among) × (by other ≡ some d)))
          → (before ≡ some d) ⊎ ((other : Edge) × (other ∈ edge ∷ among) × (by other ≡ some d))
      go (inl here) below = inr (edge, Memᴰ.head refl, here)
      go (inr there) below = further (below there)

  nearest_before : (among : List Edge) {most : ℕ} → AtMost before most → AtMost (nearest among) most
  unfolding nearest
  nearest_before [] found = found
  nearest_before (edge ∷ among) found = least_right (by edge) (nearest among) (nearest_before among found)

  nearest_by : (among : List Edge) (edge : Edge) {most : ℕ} → edge ∈ among → AtMost (by edge) most → AtMost (nearest among) most
  unfolding nearest
  nearest_by [] edge {most = most} member found = elim member [ ]
  nearest_by (first ∷ among) edge {most} (Memᴰ.head same) found =
      least_left (by first) (nearest among) (subst (λ (e : Edge). AtMost (by e) most) same found)
  nearest_by (first ∷ among) edge (Memᴰ.tail further) found = least_right (by first) (nearest among) (nearest_by among edge further found)

-- the other end is where an edge leads
pub across_joins : (edge : Edge) {a b : ℕ} → across a edge ≡ some b → Joins edge a b
across_joins edge {a} {b} e = left (eqb edge.left a) refl e
  where
    right : (here : Bool) → eqb edge.right a ≡ here → cond here (some edge.left) none ≡ some b → Joins edge a b
    right true same e = inr (eqb-true edge.right a same, cc)
    right false same e = absurd (none-ne-some b e)

    left : (here : Bool) → eqb edge.left a ≡ here → cond here (some edge.right) (cond (eqb edge.right a) (some edge.left) none) ≡ some b → Joins edge a b
    left true same e = inl (eqb-true edge.left a same, cc)
    left false same e = right (eqb edge.right a) refl e

pub joins_across : (edge : Edge) {a b : ℕ} → Joins edge a b → across a edge ≡ some b
joins_across edge {a} {b} (inl ends) = rw (eq-eqb edge.left a ends.0) (ap some ends.1)
joins_across edge {a} {b} (inr ends) = go (eqb edge.left a) refl
  where
    go : (here : Bool) → eqb edge.left a ≡ here → cond here (some edge.right) (cond (eqb edge.right a) (some edge.left) none) ≡ some b
    go true same = ap some (ends.0 ∙ sym (eqb-true edge.left a same) ∙ ends.1)
    go false same = rw (eq-eqb edge.right a ends.0) (ap some ends.1)

module _ (cost : Guard → ℕ) where
  -- by way of an edge: the other end's entry and the edge's cost
  pub over_is : (table : List (Option ℕ)) (edge : Edge) {a d : ℕ} → over cost table a edge ≡ some d
      → (b d' : ℕ) × Joins edge a b × (get_or table b none ≡ some d') × (cost edge.guard + d' ≡ d)
  over_is table edge {a} {d} e = go (across a edge) refl e
    where
      entry : (b : ℕ) → across a edge ≡ some b → (there : Option ℕ) → get_or table b none ≡ there → map_option (λ distance. cost edge.guard + distance) there ≡ some d
          → (b d' : ℕ) × Joins edge a b × (get_or table b none ≡ some d') × (cost edge.guard + d' ≡ d)
      entry b joined none there e = absurd (none-ne-some d e)
      entry b joined (some d') there e = (b, d', across_joins edge joined, there, cc)

      go : (end : Option ℕ) → across a edge ≡ end → bind_option end (λ to. map_option (λ distance. cost edge.guard + distance) (get_or table to none)) ≡ some d
          → (b d' : ℕ) × Joins edge a b × (get_or table b none ≡ some d') × (cost edge.guard + d' ≡ d)
      go none joined e = absurd (none-ne-some d e)
      go (some b) joined e = entry b joined (get_or table b none) refl e

  pub over_by : (table : List (Option ℕ)) (edge : Edge) {a b d' : ℕ} → Joins edge a b → get_or table b none ≡ some d'
      → over cost table a edge ≡ some (cost edge.guard + d')
  over_by table edge joined there = rw (joins_across edge joined, there)

  module _ (among : List Edge) (n goal : ℕ) where
    abbrev pub entry : (rounds a : ℕ) → Option ℕ
    entry rounds a = get_or (near cost among n goal rounds) a none

    -- the rounds, entry by entry
    first_round : {a : ℕ} → a < n → entry zero a ≡ cond (eqb a goal) (some 0) none
    first_round {a} inside = table_at (λ x. cond (eqb x goal) (some 0) none) 0 n a none inside ∙ ap (λ (x : ℕ). cond (eqb x goal) (some 0) none) (zero-add a)

    next_round : {a : ℕ} (rounds : ℕ) → a < n → entry (suc rounds) a ≡ nearest (over cost (near cost among n goal rounds) a) (entry rounds a) among
    unfolding nearest
    next_round {a} rounds inside =
        let table = near cost among n goal rounds in
        table_at (λ x. foldr (λ edge nearer. least (over cost table x edge) nearer) (get_or table x none) among) 0 n a none inside
        ∙ ap (λ (x : ℕ). foldr (λ edge nearer. least (over cost table x edge) nearer) (get_or table x none) among) (zero-add a)

    -- an entry is only there for the first n
    pub entry_inside : (rounds : ℕ) {a d : ℕ} → entry rounds a ≡ some d → a < n
    entry_inside rounds {a} {d} e = go rounds (dec_lt a n) e
      where
        past : (rounds : ℕ) → n ≤ a → entry rounds a ≡ none
        past zero outside = table_past (λ x. cond (eqb x goal) (some 0) none) 0 n a none outside
        past (suc rounds) outside =
            let table = near cost among n goal rounds in
            table_past (λ x. foldr (λ edge nearer. least (over cost table x edge) nearer) (get_or table x none) among) 0 n a none outside

        go : (rounds : ℕ) → Dec (a < n) → entry rounds a ≡ some d → a < n
        go rounds (yes inside) e = inside
        go rounds (no outside) e = absurd (none-ne-some d (sym (past rounds (omega (arith, outside))) ∙ e))

    -- an entry is the cost of a walk
    pub entry_walk : (rounds : ℕ) {a d : ℕ} → entry rounds a ≡ some d → (walked : List Edge) × Walk among a walked goal × (costs cost walked ≡ d)
    entry_walk zero {a} {d} e = go (eqb a goal) refl (sym (first_round (entry_inside zero e)) ∙ e)
      where
        go : (b : Bool) → eqb a goal ≡ b → cond b (some 0) none ≡ some d → (walked : List Edge) × Walk among a walked goal × (costs cost walked ≡ d)
        go true same e = ([], subst (λ (c : ℕ). Walk among a [] c) (eqb-true a goal same) stay, cc)
        go false same e = absurd (none-ne-some d e)
    entry_walk (suc rounds) {a} {d} e =
        go (nearest_is (over cost table a) (entry rounds a) among (sym (next_round rounds (entry_inside (suc rounds) e)) ∙ e)) (λ x y found. entry_walk rounds found)
      where
        table : List (Option ℕ)
        table = near cost among n goal rounds

        go : (entry rounds a ≡ some d) ⊎ ((edge : Edge) × (edge ∈ among) × (over cost table a edge ≡ some d))
            → ((x y : ℕ) → entry rounds x ≡ some y → (walked : List Edge) × Walk among x walked goal × (costs cost walked ≡ y))
            → (walked : List Edge) × Walk among a walked goal × (costs cost walked ≡ d)
        go (inl found) below = below a d found
        go (inr found) below =
            let by = over_is table found.0 found.2 in
            let rest = below by.0 by.1 by.3 in
            (found.0 ∷ rest.0, step found.1 by.2 rest.1, ap (λ (x : ℕ). cost found.0.guard + x) rest.2 ∙ by.4)

    -- a walk of at most so many steps costs at least the entry
    at_goal : (rounds : ℕ) → goal < n → AtMost (entry rounds goal) 0
    at_goal zero inside = (0, first_round inside ∙ rw (eq-eqb goal goal refl), le_refl 0)
    at_goal (suc rounds) inside =
        rw (next_round rounds inside) (nearest_before (over cost (near cost among n goal rounds) goal) (entry rounds goal) among (at_goal rounds inside))

    within_rounds : {a c : ℕ} {walked : List Edge} → Ranged n among → a < n → Walk among a walked c → c ≡ goal → (rounds : ℕ) → length walked ≤ rounds
        → AtMost (entry rounds a) (costs cost walked)
    within_rounds ranged inside (stay {a}) same rounds fits =
        subst (λ (x : ℕ). AtMost (entry rounds x) 0) (sym same) (at_goal rounds (subst (λ (x : ℕ). x < n) same inside))
    within_rounds ranged inside (step first joined rest) same zero fits = absurd (not-suc-le-zero fits)
    within_rounds {a} ranged inside (step {b = b} {edge = edge} {walked = walked} first joined rest) same (suc rounds) fits =
        rw (next_round rounds inside)
        (nearest_by (over cost (near cost among n goal rounds) a) (entry rounds a) among edge first
        (by (within_rounds ranged (joins_below ranged edge first joined) rest same rounds (le_of_suc-le-suc fits))))
      where
        by : AtMost (entry rounds b) (costs cost walked) → AtMost (over cost (near cost among n goal rounds) a edge) (costs cost (edge ∷ walked))
        by found = (cost edge.guard + found.0, over_by (near cost among n goal rounds) edge joined found.1, omega (arith, found.2))

    -- after as many rounds as there are array terms, no walk costs less than the entry
    pub entry_least : {a : ℕ} {walked : List Edge} → Ranged n among → a < n → Walk among a walked goal → AtMost (entry n a) (costs cost walked)
    entry_least {a} {walked} ranged inside way =
        let less = shorten cost way in
        let begun = subst (λ (x : ℕ). x < n) (sym less.begins) inside in
        let short = simple_short ranged begun less.way less.distinct in
        let found = within_rounds ranged begun less.way refl n (le_of_lt short) in
        (found.0, subst (λ (x : ℕ). entry n x ≡ some found.0) less.begins found.1, omega (arith, found.2, less.cheap))

    -- an entry is there exactly if there is a walk
    pub entry_reached : {a : ℕ} → is_some (entry n a) ≡ true → (walked : List Edge) × Walk among a walked goal
    entry_reached {a} reached = go (entry n a) refl reached
      where
        go : (there : Option ℕ) → entry n a ≡ there → is_some there ≡ true → (walked : List Edge) × Walk among a walked goal
        go none e reached = absurd (false≢true reached)
        go (some d) e reached = ((entry_walk n e).0, (entry_walk n e).1)

    pub reached_entry : {a : ℕ} {walked : List Edge} → Ranged n among → a < n → Walk among a walked goal → is_some (entry n a) ≡ true
    reached_entry ranged inside way = rw (entry_least ranged inside way).1
