-- Walks: put together, turned round, and cut down to those that come nowhere twice.
-- Assumes nothing.
use Prim.Native.Nat.{ℕ, suc, ◌<◌, ◌≤◌}
use native.Mathlib.Nat.{le_refl}
use native.Mathlib.Omega.{arith}
use mathlib.Core.Path.{◌≡◌, refl, sym, ap, ◌∙◌, subst}
use mathlib.Core.Logic.{◌⊎◌, inl, inr}
use mathlib.Core.Bool.{Bool, true, false, true≢false}
use mathlib.Core.List.Memᴰ
use mathlib.Core.List.{List, [], ◌∷◌, ◌++◌}
use borrow.Author.Tests.{eqb-true, eq-eqb}
use lib.Dec.{eqb}
use lib.ListN.{length}
use Rattle.paper.specs.Lists.{◌∈◌, any}
use Rattle.paper.specs.Edges.{Guard, Edge}
use Rattle.paper.specs.Reach.{Joins, Walk, stay, step, costs}
use Rattle.meaning.proofs.Lists.{any_in, any_has}
use Rattle.meaning.proofs.Distinct.{Distinct, distinct_below}

-- an edge joins both ways
pub joins_back : (edge : Edge) {a b : ℕ} → Joins edge a b → Joins edge b a
joins_back edge (inl ends) = inr (ends.1, ends.0)
joins_back edge (inr ends) = inl (ends.1, ends.0)

-- one step more at the end
pub walk_on : {among : List Edge} {a b c : ℕ} {edge : Edge} {walked : List Edge}
    → Walk among a walked b → edge ∈ among → Joins edge b c → Walk among a (walked ++ (edge ∷ [])) c
walk_on stay here joined = step here joined stay
walk_on (step first joins rest) here joined = step first joins (walk_on rest here joined)

-- a walk back
pub walk_back : {among : List Edge} {a c : ℕ} {walked : List Edge} → Walk among a walked c → (back : List Edge) × Walk among c back a
walk_back stay = ([], stay)
walk_back (step {edge = edge} here joined rest) =
    let back = walk_back rest in
    (back.0 ++ (edge ∷ []), walk_on back.1 here (joins_back edge joined))

-- a walk among some edges is one among more
pub walk_among : {among more : List Edge} {a c : ℕ} {walked : List Edge}
    → ((edge : Edge) → edge ∈ among → edge ∈ more) → Walk among a walked c → Walk more a walked c
walk_among wider stay = stay
walk_among wider (step {edge = edge} here joined rest) = step (wider edge here) joined (walk_among wider rest)

-- every edge walked is among the edges
pub walked_among : {among : List Edge} {a c : ℕ} {walked : List Edge} → Walk among a walked c → (edge : Edge) → edge ∈ walked → edge ∈ among
walked_among stay edge here = absurd (Memᴰ.not-nil here)
walked_among {among} (step {edge = first} {walked = walked} at_first joined rest) edge here = go (Memᴰ.cases_cons here) (walked_among rest edge)
  where
    go : (edge ≡ first) ⊎ (edge ∈ walked) → (edge ∈ walked → edge ∈ among) → edge ∈ among
    go (inl same) below = subst (λ (e : Edge). e ∈ among) (sym same) at_first
    go (inr further) below = below further

-- the array terms that a walk comes to
abbrev pub visited : {among : List Edge} {a c : ℕ} {walked : List Edge} → Walk among a walked c → List ℕ
visited (stay {a}) = a ∷ []
visited (step {a} here joined rest) = a ∷ visited rest

pub visited_length : {among : List Edge} {a c : ℕ} {walked : List Edge} (way : Walk among a walked c) → length (visited way) ≡ suc (length walked)
visited_length stay = refl
visited_length (step here joined rest) = ap suc (visited_length rest)

module _ (cost : Guard → ℕ) where
  -- a walk from a to c that comes nowhere twice, and costs at most so much
  pub record Simple (among : List Edge) (a c most : ℕ) : Type 0 where
    pub start : ℕ
    pub begins : start ≡ a
    pub walked : List Edge
    pub way : Walk among start walked c
    pub distinct : Distinct (visited way)
    pub cheap : costs cost walked ≤ most

  -- the rest of such a walk, from where it comes to a
  cut : {among : List Edge} {a b c : ℕ} {walked : List Edge} (way : Walk among b walked c)
      → Distinct (visited way) → a ∈ visited way → Simple among a c (costs cost walked)
  cut (stay {a = b}) distinct here =
      record { start = b; begins = sym (Memᴰ.eq_of_singleton here); walked = []; way = stay; distinct = distinct; cheap = le_refl 0 }
  cut {among} {a} {c = c} (step {a = b} {edge = edge} {walked = walked} first joined rest) distinct here =
      go (Memᴰ.cases_cons here) (cut rest distinct.1)
    where
      go : (a ≡ b) ⊎ (a ∈ visited rest) → (a ∈ visited rest → Simple among a c (costs cost walked)) → Simple among a c (costs cost (edge ∷ walked))
      go (inl same) below =
          record { start = b; begins = sym same; walked = edge ∷ walked; way = step first joined rest; distinct = distinct; cheap = le_refl (costs cost (edge ∷ walked)) }
      go (inr further) below =
          let less = below further in
          record { start = less.start; begins = less.begins; walked = less.walked; way = less.way; distinct = less.distinct; cheap = omega (arith, less.cheap) }

  -- every walk can be cut down to one that comes nowhere twice, at no more cost
  pub shorten : {among : List Edge} {a c : ℕ} {walked : List Edge} → Walk among a walked c → Simple among a c (costs cost walked)
  shorten (stay {a}) =
      record { start = a; begins = refl; walked = []; way = stay; distinct = ((λ here. Memᴰ.not-nil here), tt); cheap = le_refl 0 }
  shorten {among} {c = c} (step {a} {b} {edge = edge} {walked = walked} first joined rest) = go (shorten rest)
    where
      onward : (less : Simple among b c (costs cost walked)) → (seen : Bool) → any (eqb a) (visited less.way) ≡ seen → Simple among a c (costs cost (edge ∷ walked))
      onward less true e =
          let found = any_in (eqb a) (visited less.way) e in
          let shorter = cut less.way less.distinct (subst (λ (x : ℕ). x ∈ visited less.way) (sym (eqb-true a found.0 found.2)) found.1) in
          record {
            start = shorter.start;
            begins = shorter.begins;
            walked = shorter.walked;
            way = shorter.way;
            distinct = shorter.distinct;
            cheap = omega (arith, shorter.cheap, less.cheap);
          }
      onward less false e =
          record {
            start = a;
            begins = refl;
            walked = edge ∷ less.walked;
            way = step first (subst (Joins edge a) (sym less.begins) joined) less.way;
            distinct = ((λ here. true≢false (sym (any_has (eqb a) (visited less.way) here (eq-eqb a a refl)) ∙ e)), less.distinct);
            cheap = omega (arith, less.cheap);
          }

      go : Simple among b c (costs cost walked) → Simple among a c (costs cost (edge ∷ walked))
      go less = onward less (any (eqb a) (visited less.way)) refl

-- Where every edge's ends are below n, so is all that a walk from below n comes to
abbrev pub Ranged : ℕ → List Edge → Type 0
Ranged n among = (edge : Edge) → edge ∈ among → (edge.left < n) × (edge.right < n)

pub joins_below : {among : List Edge} {n : ℕ} → Ranged n among → (edge : Edge) {a b : ℕ} → edge ∈ among → Joins edge a b → b < n
joins_below {n = n} ranged edge here (inl ends) = subst (λ (y : ℕ). y < n) ends.1 (ranged edge here).1
joins_below {n = n} ranged edge here (inr ends) = subst (λ (y : ℕ). y < n) ends.1 (ranged edge here).0

pub visited_below : {among : List Edge} {a c : ℕ} {walked : List Edge} {n : ℕ} → Ranged n among → a < n
    → (way : Walk among a walked c) → (x : ℕ) → x ∈ visited way → x < n
visited_below {n = n} ranged start (stay {a}) x here = subst (λ (y : ℕ). y < n) (sym (Memᴰ.eq_of_singleton here)) start
visited_below {n = n} ranged start (step {a} {b} {edge = edge} first joined rest) x here =
    go (Memᴰ.cases_cons here) (visited_below ranged (joins_below ranged edge first joined) rest x)
  where
    go : (x ≡ a) ⊎ (x ∈ visited rest) → (x ∈ visited rest → x < n) → x < n
    go (inl same) below = subst (λ (y : ℕ). y < n) (sym same) start
    go (inr further) below = below further

-- a walk that comes nowhere twice has fewer steps than there are array terms
pub simple_short : {among : List Edge} {a c : ℕ} {walked : List Edge} {n : ℕ} → Ranged n among → a < n
    → (way : Walk among a walked c) → Distinct (visited way) → length walked < n
simple_short {n = n} ranged start way distinct =
    omega (arith, distinct_below n (visited way) distinct (visited_below ranged start way), visited_length way)
