-- The named clauses say the lemma (01, The clauses), gadget by gadget: where all hold, some literal is met; where one is met, its fresh
-- variables can be completed, and all others are false.
-- Assumes nothing.
use Prim.Native.Nat.{ℕ, zero, suc, ◌+◌, ◌-◌, ◌<◌, ◌≤◌}
use native.Mathlib.Nat.{add-sub_cancel_left}
use native.Mathlib.Omega.{arith}
use mathlib.Core.Path.{◌≡◌, refl, ◌∙◌}
use mathlib.Core.Logic.{◌⊎◌, inl, inr, ◌↔◌}
use mathlib.Core.Bool.{Bool, true, false, cond, false≢true}
use mathlib.Core.List.Memᴰ
use mathlib.Core.List.{List, [], ◌∷◌, ◌++◌}
use lib.Dec.{eqb, ltb}
use borrow.Author.Tests.{eq-eqb, lt-ltb, le-ltb}
use Rattle.paper.specs.Lists.{◌∈◌, any, all, concat_map}
use Rattle.paper.specs.Lemma.{Literal, lemma_holds}
use Rattle.paper.specs.Clauses.{fresh, Signed, Clause, Gadget, gadget, gadgets, links_of, linking, named_clauses}
use Rattle.meaning.proofs.Lists.{any_has, any_in, all_in, all_has, concat_map_has, concat_map_in, or_cases}
use Rattle.meaning.proofs.Gadgets.{Truths, signed_says, clause_says, values_of, met, SameAt, gadget_serves}

module _ (every : List Gadget) {s : Signed} where
  -- what is in the linking clause is in a gadget's link
  pub linking_in : s ∈ linking every → (one : Gadget) × (one ∈ every) × (s ∈ one.link)
  linking_in here = ranks (Memᴰ.append_cases (links_of 0 every ++ links_of 1 every) here)
    where
      ranked : (b : Bool) {links : List Signed} → s ∈ cond b links [] → s ∈ links
      ranked true within = within
      ranked false within = absurd (Memᴰ.not-nil within)

      of_rank : (rank : ℕ) → s ∈ links_of rank every → (one : Gadget) × (one ∈ every) × (s ∈ one.link)
      of_rank rank there =
          let found = concat_map_in (λ one. cond (eqb one.rank rank) one.link []) every there in
          (found.0, found.1, ranked (eqb found.0.rank rank) found.2)

      earlier : (s ∈ links_of 0 every) ⊎ (s ∈ links_of 1 every) → (one : Gadget) × (one ∈ every) × (s ∈ one.link)
      earlier (inl there) = of_rank 0 there
      earlier (inr there) = of_rank 1 there

      ranks : (s ∈ links_of 0 every ++ links_of 1 every) ⊎ (s ∈ links_of 2 every) → (one : Gadget) × (one ∈ every) × (s ∈ one.link)
      ranks (inl there) = earlier (Memᴰ.append_cases (links_of 0 every) there)
      ranks (inr there) = of_rank 2 there

  -- what is in the link of a gadget of one of the three ranks is in the linking clause
  linking_has : {one : Gadget} → one ∈ every → one.rank ≤ 2 → s ∈ one.link → s ∈ linking every
  linking_has {one} here low within = go one.rank low (concat_map_has (λ other. cond (eqb other.rank one.rank) other.link []) every here (rw (eq-eqb one.rank one.rank refl) within))
    where
      go : (rank : ℕ) → rank ≤ 2 → s ∈ links_of rank every → s ∈ linking every
      go zero low there = Memᴰ.append_left (links_of 2 every) (Memᴰ.append_left (links_of 1 every) there)
      go (suc zero) low there = Memᴰ.append_left (links_of 2 every) (Memᴰ.append_right (links_of 0 every) there)
      go (suc (suc zero)) low there = Memᴰ.append_right (links_of 0 every ++ links_of 1 every) there
      go (suc (suc (suc rank))) low there = absurd (omega arith)

-- each gadget has one of the three ranks
gadget_rank : (w n : ℕ) (l : Literal) → (gadget w n l).rank ≤ 2
gadget_rank w n (Literal.equal i j) = omega arith
gadget_rank w n (Literal.differ i j) = omega arith
gadget_rank w n (Literal.is_true m) = omega arith
gadget_rank w n (Literal.is_false m) = omega arith
gadget_rank w n (Literal.conclusion v u) = omega arith

-- a gadget of the lemma's is that of a literal, with its fresh variables from n on
gadgets_in : (w n : ℕ) (literals : List Literal) {one : Gadget} → one ∈ gadgets w n literals
    → (l : Literal) × (first : ℕ) × (l ∈ literals) × (n ≤ first) × (one ≡ gadget w first l)
gadgets_in w n [] here = absurd (Memᴰ.not-nil here)
gadgets_in w n (l ∷ literals) (Memᴰ.head same) = (l, n, Memᴰ.head refl, omega arith, same)
gadgets_in w n (l ∷ literals) (Memᴰ.tail further) =
    let below = gadgets_in w (n + (gadget w n l).freshes) literals further in
    (below.0, below.1, Memᴰ.tail below.2, omega arith, below.4)

-- every gadget's clauses hold; some gadget's link has a true member
abbrev EachHolds : List Gadget → Truths → Type 0
EachHolds every β = (one : Gadget) → one ∈ every → all (clause_says β) one.clauses ≡ true

abbrev SomeLinked : List Gadget → Truths → Type 0
SomeLinked every β = (one : Gadget) × (one ∈ every) × (any (signed_says β) one.link ≡ true)

-- all clauses hold exactly if each gadget's do and some link has a true member
named_hold : (w : ℕ) (literals : List Literal) (β : Truths)
    → (all (clause_says β) (named_clauses w literals) ≡ true) ↔ (EachHolds (gadgets w 0 literals) β × SomeLinked (gadgets w 0 literals) β)
unfolding named_clauses
named_hold w literals β = (apart, together)
  where
    every : List Gadget
    every = gadgets w 0 literals

    own : List Clause
    own = concat_map (λ one. one.clauses) every

    apart : all (clause_says β) (own ++ (linking every ∷ [])) ≡ true → EachHolds every β × SomeLinked every β
    apart each =
        let true_link = any_in (signed_says β) (linking every) (all_in (clause_says β) (own ++ (linking every ∷ [])) each (Memᴰ.append_right own (Memᴰ.head refl))) in
        let place = linking_in every true_link.1 in (
          λ one here. all_has (clause_says β) one.clauses (λ c within.
              all_in (clause_says β) (own ++ (linking every ∷ [])) each (Memᴰ.append_left (linking every ∷ []) (concat_map_has (λ one. one.clauses) every here within))),
          (place.0, place.1, any_has (signed_says β) place.0.link place.2 true_link.2),
        )

    together : EachHolds every β × SomeLinked every β → all (clause_says β) (own ++ (linking every ∷ [])) ≡ true
    together hold = all_has (clause_says β) (own ++ (linking every ∷ [])) (λ c here. go c (Memᴰ.append_cases own here))
      where
        linked : clause_says β (linking every) ≡ true
        linked =
            let (one, here, some) = hold.1 in
            let from = gadgets_in w 0 literals here in
            let true_link = any_in (signed_says β) one.link some in
            any_has (signed_says β) (linking every) (linking_has every here (rw from.4 (gadget_rank w from.1 from.0)) true_link.1) true_link.2

        go : (c : Clause) → (c ∈ own) ⊎ (c ∈ linking every ∷ []) → clause_says β c ≡ true
        go c (inl there) =
            let found = concat_map_in (λ one. one.clauses) every there in
            all_in (clause_says β) found.0.clauses (hold.0 found.0 found.1) found.2
        go c (inr last) = rw (Memᴰ.eq_of_singleton last) linked

-- where all named clauses hold, the lemma holds
pub named_sound : (w : ℕ) (literals : List Literal) (β : Truths) → all (clause_says β) (named_clauses w literals) ≡ true → lemma_holds (values_of w β) literals ≡ true
named_sound w literals β each =
    let hold = (named_hold w literals β).0 each in
    let (one, here, some) = hold.1 in
    let from = gadgets_in w 0 literals here in
    let l = from.0 in
    any_has (met (values_of w β)) literals from.2
    ((gadget_serves w from.1 l).sound β (rw from.4 at (hold.0 one here)) (rw from.4 at some))

-- with all fresh variables from n on false, the clauses of the gadgets hold
gadgets_quiet : (w n : ℕ) (literals : List Literal) (β : Truths) → ((m : ℕ) → n ≤ m → β (fresh m) ≡ false) → EachHolds (gadgets w n literals) β
gadgets_quiet w n literals β off one here =
    let from = gadgets_in w n literals here in
    rw from.4 ((gadget_serves w from.1 from.0).quiet β (λ k h. off (from.1 + k) (omega arith)))

-- one gadget more
each_more : {one : Gadget} {every : List Gadget} (β : Truths) → all (clause_says β) one.clauses ≡ true → EachHolds every β → EachHolds (one ∷ every) β
each_more β first rest other (Memᴰ.head same) = rw same first
each_more β first rest other (Memᴰ.tail further) = rest other further

-- Truths for the fresh variables from n on, with which the gadgets' clauses and some link hold, whatever else is the same as in β
abbrev Completion : (w n : ℕ) → List Literal → Truths → Type 0
Completion w n literals β =
    (truths : ℕ → Bool)
    × ((γ : Truths) → ((l : Literal) → l ∈ literals → SameAt w β γ l) → ((m : ℕ) → n ≤ m → γ (fresh m) ≡ truths m)
    → EachHolds (gadgets w n literals) γ × SomeLinked (gadgets w n literals) γ)

-- truths for the fresh variables of one gadget, from n up to next, and of those after it
abbrev spliced : (n next : ℕ) (own later : ℕ → Bool) → ℕ → Bool
spliced n next own later m = cond (ltb m next) (own (m - n)) (later m)

module _ (n many : ℕ) (own later : ℕ → Bool) where
  -- the first are those of the gadget
  spliced_own : (k : ℕ) → k < many → spliced n (n + many) own later (n + k) ≡ own k
  spliced_own k h = rw (lt-ltb (n + k) (n + many) (omega arith), add-sub_cancel_left)

  -- the others are those after it
  spliced_later : (m : ℕ) → n + many ≤ m → spliced n (n + many) own later m ≡ later m
  spliced_later m h = rw (le-ltb m (n + many) h)

-- where the lemma holds, some literal is met: its gadget's fresh variables are completed, all others are false
gadgets_completable : (w n : ℕ) (literals : List Literal) (β : Truths) → lemma_holds (values_of w β) literals ≡ true → Completion w n literals β
gadgets_completable w n [] β holds = absurd (false≢true holds)
gadgets_completable w n (l ∷ literals) β holds =
    go (or_cases (met (values_of w β) l) (lemma_holds (values_of w β) literals) holds) (gadgets_completable w (n + (gadget w n l).freshes) literals β)
  where
    many : ℕ
    many = (gadget w n l).freshes

    go : (met (values_of w β) l ≡ true) ⊎ (lemma_holds (values_of w β) literals ≡ true)
        → (lemma_holds (values_of w β) literals ≡ true → Completion w (n + many) literals β)
        → Completion w n (l ∷ literals) β
    go (inl here) below =
        let own = (gadget_serves w n l).completable β here in
        let off : ℕ → Bool = λ m. false in (
          spliced n (n + many) own.0 off,
          λ γ same on.
              let hold = own.1 γ (same l (Memᴰ.head refl)) (λ k h. on (n + k) (omega arith) ∙ spliced_own n many own.0 off k h) in
              let rest = gadgets_quiet w (n + many) literals γ (λ m h. on m (omega arith) ∙ spliced_later n many own.0 off m h) in
              (each_more γ hold.0 rest, (gadget w n l, Memᴰ.head refl, hold.1)),
        )
    go (inr there) below =
        let rest = below there in
        let off : ℕ → Bool = λ k. false in (
          spliced n (n + many) off rest.0,
          λ γ same on.
              let first = (gadget_serves w n l).quiet γ (λ k h. on (n + k) (omega arith) ∙ spliced_own n many off rest.0 k h) in
              let hold = rest.1 γ (λ k later. same k (Memᴰ.tail later)) (λ m h. on m (omega arith) ∙ spliced_later n many off rest.0 m h) in
              (each_more γ first hold.0, (hold.1.0, Memᴰ.tail hold.1.1, hold.1.2)),
        )

-- where the lemma holds, all named clauses hold with some truths for the fresh variables, whatever the variables are that no literal names
pub named_complete : (w : ℕ) (literals : List Literal) (β : Truths) → lemma_holds (values_of w β) literals ≡ true
    → (truths : ℕ → Bool)
    × ((γ : Truths) → ((l : Literal) → l ∈ literals → SameAt w β γ l) → ((m : ℕ) → γ (fresh m) ≡ truths m) → all (clause_says γ) (named_clauses w literals) ≡ true)
named_complete w literals β holds =
    let whole = gadgets_completable w 0 literals β holds in
    (whole.0, λ γ same on. (named_hold w literals γ).1 (whole.1 γ same (λ m h. on m)))
