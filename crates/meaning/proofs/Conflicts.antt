-- The pair that is taken: it conflicts, it is the least, and its path has the fewest writes, and then the fewest edges. Its lemma is false under the guess.
-- Assumes nothing.
use Prim.Native.Nat.{ℕ, ◌<◌, ◌≤◌}
use native.Mathlib.Nat.{le_refl}
use native.Mathlib.Omega.{arith}
use mathlib.Core.Path.{◌≡◌, refl, sym, ap, ◌∙◌, subst}
use mathlib.Core.Logic.{◌⊎◌, inl, inr, ◌≢◌}
use mathlib.Core.Bool.{Bool, true, false, cond, not, false≢true}
use mathlib.Core.List.Memᴰ
use mathlib.Core.List.{List, [], ◌∷◌, ◌++◌, nil≢cons, head-eq_of_cons-eq, tail-eq_of_cons-eq}
use mathlib.Core.Option.{Option, none, some, none-ne-some}
use borrow.Author.Tests.{eqb-true, eqb-false, eq-eqb, ne_eqb}
use lib.Dec.{eqb}
use lib.ListN.{length}
use Rattle.paper.specs.Lists.{◌∈◌, map_option, or_else, find}
use Rattle.paper.specs.Fields.{base, boolean, array}
use Rattle.paper.specs.Terms.{Term, given, Assignment}
use Rattle.paper.specs.Edges.{index_number, Source, sources, Guard, Edge, edges, opens, open_edges}
use Rattle.paper.specs.Reach.{Walk, index_value, near, step_cost, distances, reaches}
use Rattle.paper.specs.Conflict.{Pair, conflicts, first_pair}
use Rattle.paper.specs.Lemma.{Literal, path_from, literal_of, hypotheses, path, lemma, says, is_conclusion, lemma_holds}
use Rattle.meaning.proofs.Lists.{find_in, find_none, find_first, keep_in, none_has, same_test}
use Rattle.meaning.proofs.Walks.{walked_among}
use Rattle.meaning.proofs.Distances.{entry_least}
use Rattle.meaning.proofs.Paths.{Found, path_found}
use Rattle.meaning.proofs.Fewest.{Fewest, Stepwise, least_fewest, lowest_stepwise}
use Rattle.meaning.proofs.Given.{Numbered, GuardGiven, SourceGiven, edge_given, source_given, open_ranged, open_is_edge}
use Rattle.meaning.proofs.Reach.{reached_walk}
use Rattle.meaning.proofs.Literals.{hypothesis_is, not_conclusion, Within}
use Rattle.meaning.proofs.Fixed.{of_whole}

-- "the least first source s that stands in a pair with a later one, and with it the least later source t"
pub record Taken (terms : List Term) (g : Assignment) (from : List Source) (s t : Source) : Type 0 where
  pub before : List Source
  pub between : List Source
  pub after : List Source
  pub split : from ≡ before ++ (s ∷ (between ++ (t ∷ after)))
  pub clash : conflicts terms g s t ≡ true
  pub none_between : (u : Source) → u ∈ between → conflicts terms g s u ≡ false
  pub none_before : (earlier later : List Source) (r u : Source) → before ≡ earlier ++ (r ∷ later) → u ∈ later ++ (s ∷ (between ++ (t ∷ after))) → conflicts terms g r u ≡ false

module _ (terms : List Term) (g : Assignment) where
  pub taken : (from : List Source) (pair : Pair) → first_pair terms g from ≡ some pair → Taken terms g from pair.first pair.later
  taken [] pair e = absurd (none-ne-some pair e)
  taken (s ∷ rest) pair e = go (find (conflicts terms g s) rest) refl e (λ below. taken rest pair below)
    where
      here : (t : Source) → find (conflicts terms g s) rest ≡ some t → Taken terms g (s ∷ rest) s t
      here t found =
          let split = find_first (conflicts terms g s) rest found in
          record {
            before = [];
            between = split.0;
            after = split.1;
            split = ap (λ (l : List Source). s ∷ l) split.2;
            clash = (find_in (conflicts terms g s) rest found).1;
            none_between = split.3;
            none_before = λ earlier later r u is. absurd (nothing earlier later r is);
          }
        where
          nothing : (earlier later : List Source) (r : Source) → ◌≡◌ {A = List Source} [] (earlier ++ (r ∷ later)) → ⊥
          nothing [] later r is = nil≢cons is
          nothing (first ∷ earlier) later r is = nil≢cons is

      further : find (conflicts terms g s) rest ≡ none → Taken terms g rest pair.first pair.later → Taken terms g (s ∷ rest) pair.first pair.later
      further nothing below =
          record {
            before = s ∷ below.before;
            between = below.between;
            after = below.after;
            split = ap (λ (l : List Source). s ∷ l) below.split;
            clash = below.clash;
            none_between = below.none_between;
            none_before = earlier_free;
          }
        where
          earlier_free : (earlier later : List Source) (r u : Source) → s ∷ below.before ≡ earlier ++ (r ∷ later)
              → u ∈ later ++ (pair.first ∷ (below.between ++ (pair.later ∷ below.after))) → conflicts terms g r u ≡ false
          earlier_free [] later r u is u_here =
              let here : u ∈ rest = subst (λ (l : List Source). u ∈ l) (sym below.split) (subst (λ (l : List Source). u ∈ l ++ (pair.first ∷ (below.between ++ (pair.later ∷ below.after)))) (sym (tail-eq_of_cons-eq is)) u_here) in
              subst (λ (one : Source). conflicts terms g one u ≡ false) (head-eq_of_cons-eq is) (find_none (conflicts terms g s) rest nothing here)
          earlier_free (first ∷ earlier) later r u is u_here = below.none_before earlier later r u (tail-eq_of_cons-eq is) u_here

      go : (later : Option Source) → find (conflicts terms g s) rest ≡ later
          → or_else (map_option {B = Pair} (λ t. record { first = s; later = t }) later) (first_pair terms g rest) ≡ some pair
          → (first_pair terms g rest ≡ some pair → Taken terms g rest pair.first pair.later) → Taken terms g (s ∷ rest) pair.first pair.later
      go none found e below = further found (below e)
      go (some t) found e below = subst (λ (one : Pair). Taken terms g (s ∷ rest) one.first one.later) (some_is e) (here t found)
        where
          some_is : {one other : Pair} → some one ≡ some other → one ≡ other
          some_is {one} {other} same = cc

  -- both are sources
  pub taken_first : {from : List Source} {s t : Source} → Taken terms g from s t → s ∈ from
  taken_first {from} {s} one = subst (λ (l : List Source). s ∈ l) (sym one.split) (Memᴰ.append_right one.before (Memᴰ.head refl))

  pub taken_later : {from : List Source} {s t : Source} → Taken terms g from s t → t ∈ from
  taken_later {from} {s} {t} one =
      subst (λ (l : List Source). t ∈ l) (sym one.split) (Memᴰ.append_right one.before (Memᴰ.tail (Memᴰ.append_right one.between (Memᴰ.head refl))))

-- what a conflict is, part by part
pub record Clash (terms : List Term) (g : Assignment) (s t : Source) : Type 0 where
  pub indices : index_value g s ≡ index_value g t
  pub values : g.value s.value ≢ g.value t.value
  pub reached : reaches terms g s t.origin ≡ true

pub clash : (terms : List Term) (g : Assignment) (s t : Source) → conflicts terms g s t ≡ true → Clash terms g s t
unfolding conflicts
clash terms g s t e = indices (eqb (index_value g s) (index_value g t)) refl e
  where
    values : (b : Bool) → eqb (g.value s.value) (g.value t.value) ≡ b → index_value g s ≡ index_value g t → cond b false (reaches terms g s t.origin) ≡ true → Clash terms g s t
    values true is same e = absurd (false≢true e)
    values false is same e = record { indices = same; values = eqb-false (g.value s.value) (g.value t.value) is; reached = e }

    indices : (b : Bool) → eqb (index_value g s) (index_value g t) ≡ b
        → cond b (cond (eqb (g.value s.value) (g.value t.value)) false (reaches terms g s t.origin)) false ≡ true → Clash terms g s t
    indices true is e = values (eqb (g.value s.value) (g.value t.value)) refl (eqb-true (index_value g s) (index_value g t) is) e
    indices false is e = absurd (false≢true e)

eqb_swap : (m n : ℕ) → eqb m n ≡ eqb n m
eqb_swap m n = same_test (eqb m n) (eqb n m) (λ e. eq-eqb n m (sym (eqb-true m n e))) (λ e. eq-eqb m n (sym (eqb-true n m e)))

pub step_positive : (guard : Guard) → 0 < step_cost guard
step_positive (Guard.differ index) = omega arith
step_positive (Guard.is_true m) = le_refl 1
step_positive (Guard.is_false m) = le_refl 1

-- 02, E6: "The path shall have the fewest write edges, and among those the fewest edges; at each step the lowest-numbered open edge that
-- lies on such a path"
pub record FewestPath (terms : List Term) (g : Assignment) (pair : Pair) : Type 0 where
  pub fewest : Fewest (open_edges terms g (index_value g pair.first)) pair.later.origin pair.first.origin (path terms g pair)
  pub stepwise : Stepwise (open_edges terms g (index_value g pair.first)) pair.later.origin pair.first.origin (path terms g pair)
  pub short : length (path terms g pair) < given array terms

module _ (terms : List Term) (numbered : Numbered terms) (g : Assignment) (pair : Pair) (one : Taken terms g (sources terms) pair.first pair.later) where
  known : Clash terms g pair.first pair.later
  known = clash terms g pair.first pair.later one.clash

  starts : pair.first.origin < given array terms
  starts = (source_given terms numbered pair.first (taken_first terms g one)).origin

  -- between the two origins there is a path, by any cost of at least 1
  pub path_by_lem : (cost : Guard → ℕ) (positive : (guard : Guard) → 0 < cost guard)
      → let x = index_value g pair.first in
      let among = open_edges terms g x in
      let n = given array terms in
      let goal = pair.later.origin in
      let found = path_from cost n among (near cost among n goal n) pair.first.origin in
      ((d : ℕ) × Found cost among n goal (open_ranged terms numbered g x) positive pair.first.origin d found) × (length found < n)
  unfolding reaches
  path_by_lem cost positive =
      let x = index_value g pair.first in
      let ranged = open_ranged terms numbered g x in
      let way = reached_walk terms numbered g x pair.first known.reached in
      let least = entry_least cost (open_edges terms g x) (given array terms) pair.later.origin ranged starts way.1 in
      let (found, short) = path_found cost (open_edges terms g x) (given array terms) pair.later.origin ranged positive least.1 in
      ((least.0, found), short)

  -- the path of the pair is such a one
  pub path_way : Walk (open_edges terms g (index_value g pair.first)) pair.first.origin (path terms g pair) pair.later.origin
  unfolding path distances
  path_way = (path_by_lem step_cost step_positive).0.1.way

  pub path_short : length (path terms g pair) < given array terms
  unfolding path distances
  path_short = (path_by_lem step_cost step_positive).1

  -- and of at most 48 array terms it has all that is promised of it
  pub path_is : given array terms ≤ 48 → FewestPath terms g pair
  unfolding path distances
  path_is few =
      let x = index_value g pair.first in
      let ranged = open_ranged terms numbered g x in
      let ((d, found), short) = path_by_lem step_cost step_positive in
      record {
        fewest =
            least_fewest (open_edges terms g x) (given array terms) pair.later.origin ranged few starts found.way
            (λ other there. omega (arith, found.least other there, found.total));
        stepwise = lowest_stepwise (open_edges terms g x) (given array terms) pair.later.origin ranged few starts found.lowest;
        short = short;
      }

  -- an open edge's literal holds under the guess
  open_says : (i : ℕ) (guard : Guard) → opens g (g.value i) guard ≡ says g (literal_of i guard)
  open_says i (Guard.differ index) = ap not (eqb_swap (g.value index) (g.value i))
  open_says i (Guard.is_true m) = refl
  open_says i (Guard.is_false m) = refl

  -- every hypothesis holds under the guess
  pub supposed : (l : Literal) → l ∈ hypotheses (index_number pair.first.place) (index_number pair.later.place) (path terms g pair) → says g l ≡ true
  unfolding open_edges
  supposed l here = go (hypothesis_is (index_number pair.first.place) (index_number pair.later.place) (path terms g pair) here)
    where
      go : (l ≡ Literal.equal (index_number pair.first.place) (index_number pair.later.place))
          ⊎ ((edge : Edge) × (edge ∈ path terms g pair) × (l ≡ literal_of (index_number pair.first.place) edge.guard)) → says g l ≡ true
      go (inl is) = rw is (eq-eqb (index_value g pair.first) (index_value g pair.later) known.indices)
      go (inr along) =
          let open_here = walked_among path_way along.0 along.1 in
          rw along.2
          (sym (open_says (index_number pair.first.place) along.0.guard)
          ∙ (keep_in (λ edge. opens g (index_value g pair.first) edge.guard) (edges terms) open_here).1)

  -- The lemma is false under the guess
  pub lemma_fails : lemma_holds g (lemma terms g pair) ≡ false
  lemma_fails = none_has (λ l. cond (is_conclusion l) (says g l) (not (says g l))) (lemma terms g pair) (λ l here. go l (Memᴰ.append_cases hyps (of_whole terms g pair here)))
    where
      hyps : List Literal
      hyps = hypotheses (index_number pair.first.place) (index_number pair.later.place) (path terms g pair)

      go : (l : Literal) → (l ∈ hyps) ⊎ (l ∈ Literal.conclusion pair.first.value pair.later.value ∷ []) → cond (is_conclusion l) (says g l) (not (says g l)) ≡ false
      go l (inl here) = rw (not_conclusion (index_number pair.first.place) (index_number pair.later.place) (path terms g pair) l here, supposed l here)
      go l (inr last) = rw (Memᴰ.eq_of_singleton last) (ne_eqb (g.value pair.first.value) (g.value pair.later.value) known.values)

  guard_within : (i : ℕ) → i < given base terms → (guard : Guard) → GuardGiven (given base terms) (given boolean terms) guard → Within (given base terms) (given boolean terms) (literal_of i guard)
  guard_within i i_in (Guard.differ index) known_guard = (i_in, known_guard)
  guard_within i i_in (Guard.is_true m) known_guard = known_guard
  guard_within i i_in (Guard.is_false m) known_guard = known_guard

  -- The lemma names given terms alone
  pub lemma_within : (l : Literal) → l ∈ lemma terms g pair → Within (given base terms) (given boolean terms) l
  lemma_within l here = either (Memᴰ.append_cases (hypotheses (index_number pair.first.place) (index_number pair.later.place) (path terms g pair)) (of_whole terms g pair here))
    where
      first_given : SourceGiven (given array terms) (given base terms) pair.first
      first_given = source_given terms numbered pair.first (taken_first terms g one)

      later_given : SourceGiven (given array terms) (given base terms) pair.later
      later_given = source_given terms numbered pair.later (taken_later terms g one)

      go : (l ≡ Literal.equal (index_number pair.first.place) (index_number pair.later.place))
          ⊎ ((edge : Edge) × (edge ∈ path terms g pair) × (l ≡ literal_of (index_number pair.first.place) edge.guard)) → Within (given base terms) (given boolean terms) l
      go (inl is) = rw is (first_given.place, later_given.place)
      go (inr along) =
          let open_here = walked_among path_way along.0 along.1 in
          rw along.2
          (guard_within (index_number pair.first.place) first_given.place along.0.guard
          (edge_given terms numbered along.0 (open_is_edge terms numbered g (index_value g pair.first) along.0 open_here)).guard)

      either : (l ∈ hypotheses (index_number pair.first.place) (index_number pair.later.place) (path terms g pair))
          ⊎ (l ∈ Literal.conclusion pair.first.value pair.later.value ∷ []) → Within (given base terms) (given boolean terms) l
      either (inl there) = go (hypothesis_is (index_number pair.first.place) (index_number pair.later.place) (path terms g pair) there)
      either (inr last) = rw (Memᴰ.eq_of_singleton last) (first_given.value, later_given.value)
