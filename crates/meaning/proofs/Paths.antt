-- The path: it is a walk of least cost, each step the lowest-numbered open edge that leads nearer, and it comes nowhere twice.
-- Proved for any costs of at least 1.
-- Assumes nothing.
use Prim.Native.Nat.{ℕ, zero, suc, ◌+◌, ◌<◌, ◌≤◌}
use native.Mathlib.Nat.{suc-add, le_refl, le_of_lt, not-suc-le-zero, le_of_suc-le-suc}
use native.Mathlib.Omega.{arith}
use mathlib.Core.Path.{◌≡◌, refl, sym, ap, ◌∙◌, subst}
use mathlib.Core.Logic.{◌⊎◌, inl, inr}
use mathlib.Core.Bool.{true, false≢true}
use mathlib.Core.List.Memᴰ
use mathlib.Core.List.{List, [], ◌∷◌, ◌++◌}
use mathlib.Core.Option.{Option, none, some, get_or}
use borrow.Author.Tests.{eqb-true, eq-eqb}
use lib.ListN.{length}
use Rattle.paper.specs.Lists.{◌∈◌, find, list_from}
use Rattle.paper.specs.Edges.{Guard, Edge}
use Rattle.paper.specs.Reach.{Joins, Walk, stay, step, across, costs, over, near}
use Rattle.paper.specs.Lemma.{same_distance, leads_nearer, path_from}
use Rattle.meaning.proofs.Lists.{find_in, find_none, find_first}
use Rattle.meaning.proofs.Distinct.{Distinct}
use Rattle.meaning.proofs.Walks.{joins_back, Ranged, joins_below, visited, simple_short}
use Rattle.meaning.proofs.Distances.{joins_across, over_is, over_by, entry, entry_inside, entry_walk, entry_least}

module _ (cost : Guard → ℕ) (among : List Edge) (goal : ℕ) where
  -- d is the least cost of a walk from a to the goal
  pub record Least (a d : ℕ) : Type 0 where
    pub walked : List Edge
    pub way : Walk among a walked goal
    pub total : costs cost walked ≡ d
    pub least : (other : List Edge) → Walk among a other goal → d ≤ costs cost other

  -- the two ends of an edge are at most its cost apart
  pub ends_near : {a b d d' : ℕ} (edge : Edge) → edge ∈ among → Joins edge a b → Least a d → Least b d'
      → (d ≤ cost edge.guard + d') × (d' ≤ cost edge.guard + d)
  ends_near edge here joined one other = (
    omega (arith, one.least (edge ∷ other.walked) (step here joined other.way), other.total),
    omega (arith, other.least (edge ∷ one.walked) (step here (joins_back edge joined) one.way), one.total),
  )

  -- an edge leads nearer: with it, a walk of least cost goes on from its other end
  abbrev pub Nearer : (a : ℕ) → Edge → Type 0
  Nearer a edge = (b d : ℕ) × Joins edge a b × Least b d × Least a (cost edge.guard + d)

  -- at each step the lowest-numbered open edge that leads nearer: no edge before it in the list does
  pub data Lowest : ℕ → List Edge → Type 0 where
    arrived : Lowest goal []
    onward : {a b : ℕ} {edge : Edge} {walked : List Edge} (before after : List Edge) → among ≡ before ++ (edge ∷ after) → Nearer a edge
        → ((other : Edge) → other ∈ before → Nearer a other → ⊥) → Joins edge a b → Lowest b walked → Lowest a (edge ∷ walked)

pub same_distance_is : (one other : Option ℕ) → same_distance one other ≡ true → (d : ℕ) × (one ≡ some d) × (other ≡ some d)
same_distance_is none other e = absurd (false≢true e)
same_distance_is (some m) none e = absurd (false≢true e)
same_distance_is (some m) (some n) e = (m, refl, ap some (sym (eqb-true m n e)))

-- a bound of at least the path's steps gives the same path
bound_enough : (cost : Guard → ℕ) (among : List Edge) (table : List (Option ℕ)) (bound more a : ℕ)
    → length (path_from cost (bound + more) among table a) ≤ bound → path_from cost bound among table a ≡ path_from cost (bound + more) among table a
bound_enough cost among table zero more a fits = sym (none_left (path_from cost (zero + more) among table a) fits)
  where
    none_left : (path : List Edge) → length path ≤ 0 → path ≡ []
    none_left [] fits = refl
    none_left (edge ∷ path) fits = absurd (not-suc-le-zero fits)
bound_enough cost among table (suc bound) more a fits =
    rw (suc-add bound more) (go (find (leads_nearer cost table a) among) (λ b below. bound_enough cost among table bound more b below) (rw (suc-add bound more) at fits))
  where
    go : (choice : Option Edge)
        → ((b : ℕ) → length (path_from cost (bound + more) among table b) ≤ bound → path_from cost bound among table b ≡ path_from cost (bound + more) among table b)
        → length (list_from choice (λ edge. edge ∷ path_from cost (bound + more) among table (get_or (across a edge) a))) ≤ suc bound
        → list_from choice (λ edge. edge ∷ path_from cost bound among table (get_or (across a edge) a))
        ≡ list_from choice (λ edge. edge ∷ path_from cost (bound + more) among table (get_or (across a edge) a))
    go none below fits = refl
    go (some edge) below fits = ap (λ (path : List Edge). edge ∷ path) (below (get_or (across a edge) a) (le_of_suc-le-suc fits))

module _ (cost : Guard → ℕ) (among : List Edge) (n goal : ℕ) (ranged : Ranged n among) where
  abbrev pub table : List (Option ℕ)
  table = near cost among n goal n

  -- the entries are the least costs
  pub entry_is_least : {a d : ℕ} → entry cost among n goal n a ≡ some d → Least cost among goal a d
  entry_is_least {a} {d} e =
      let found = entry_walk cost among n goal n e in
      record {
        walked = found.0;
        way = found.1;
        total = found.2;
        least =
            λ other way.
            let most = entry_least cost among n goal ranged (entry_inside cost among n goal n e) way in
            let same : d ≡ most.0 = cc most.1 in
            omega (arith, most.2);
      }

  pub least_is_entry : {a d : ℕ} → a < n → Least cost among goal a d → entry cost among n goal n a ≡ some d
  least_is_entry {a} {d} inside known =
      let most = entry_least cost among n goal ranged inside known.way in
      let found = entry_walk cost among n goal n most.1 in
      let bound = known.least found.0 found.1 in
      most.1 ∙ ap some (omega (arith, bound, most.2, known.total, found.2))

  -- what the test of an edge says
  leads_nearer_lem : {a : ℕ} (edge : Edge) → leads_nearer cost table a edge ≡ true → Nearer cost among goal a edge
  leads_nearer_lem {a} edge e =
      let same = same_distance_is (over cost table a edge) (entry cost among n goal n a) e in
      let by = over_is cost table edge same.1 in
      (by.0, by.1, by.2, entry_is_least by.3, subst (Least cost among goal a) (sym by.4) (entry_is_least same.2))

  nearer_leads : {a : ℕ} (edge : Edge) → edge ∈ among → a < n → Nearer cost among goal a edge → leads_nearer cost table a edge ≡ true
  nearer_leads {a} edge here inside (b, d, joined, rest, whole) =
      rw (over_by cost table edge joined (least_is_entry (joins_below ranged edge here joined) rest), least_is_entry inside whole)
      (eq-eqb (cost edge.guard + d) (cost edge.guard + d) refl)

  module _ (positive : (guard : Guard) → 0 < cost guard) where
    -- away from the goal, the first edge of a walk of least cost leads nearer
    some_leads : {a d : ℕ} {c : ℕ} {walked : List Edge} → entry cost among n goal n a ≡ some d → Walk among a walked c → c ≡ goal → costs cost walked ≡ d
        → (a ≡ goal) ⊎ ((edge : Edge) × (edge ∈ among) × (leads_nearer cost table a edge ≡ true))
    some_leads e stay same total = inl same
    some_leads {a} {d} e (step {b = b} {edge = edge} {walked = walked} first joined rest) same total =
        let way = subst (λ (x : ℕ). Walk among b walked x) same rest in
        let nearest = entry_least cost among n goal ranged (joins_below ranged edge first joined) way in
        let found = entry_walk cost among n goal n nearest.1 in
        let around = (entry_is_least e).least (edge ∷ found.0) (step first joined found.1) in
        let sums : cost edge.guard + nearest.0 ≡ d = omega (arith, nearest.2, found.2, around, total) in
        inr (edge, first, rw (over_by cost table edge joined nearest.1, e) (eq-eqb (cost edge.guard + nearest.0) d sums))

    -- What the path is, from an array term whose distance is d: its edges, as a walk, with all that is promised of it
    pub record Found (a d : ℕ) (path : List Edge) : Type 0 where
      pub way : Walk among a path goal
      pub total : costs cost path ≡ d
      pub least : (other : List Edge) → Walk among a other goal → d ≤ costs cost other
      pub lowest : Lowest cost among goal a path
      pub falls : (x : ℕ) → x ∈ visited way → (e : ℕ) × (entry cost among n goal n x ≡ some e) × (e ≤ d)
      pub distinct : Distinct (visited way)

    found_goal : {a d : ℕ} → entry cost among n goal n a ≡ some d → a ≡ goal → Found a d []
    found_goal {a} {d} e same = subst (λ (x : ℕ). Found x d []) (sym same) (at_goal (subst (λ (x : ℕ). entry cost among n goal n x ≡ some d) same e))
      where
        at_goal : entry cost among n goal n goal ≡ some d → Found goal d []
        at_goal e =
            record {
              way = stay;
              total = sym (omega (arith, (entry_is_least e).least [] stay));
              least = (entry_is_least e).least;
              lowest = arrived;
              falls = λ x here. (d, subst (λ (y : ℕ). entry cost among n goal n y ≡ some d) (sym (Memᴰ.eq_of_singleton here)) e, le_refl d);
              distinct = ((λ here. Memᴰ.not-nil here), tt);
            }

    found_onward : {a b d d' : ℕ} (edge : Edge) (path : List Edge) → entry cost among n goal n a ≡ some d → find (leads_nearer cost table a) among ≡ some edge
        → Joins edge a b → cost edge.guard + d' ≡ d → Found b d' path → Found a d (edge ∷ path)
    found_onward {a} {b} {d} {d'} edge path e chosen joined sums rest =
        let inside = entry_inside cost among n goal n e in
        let split = find_first (leads_nearer cost table a) among chosen in
        let passes = find_in (leads_nearer cost table a) among chosen in
        let fall = positive edge.guard in
        record {
          way = step passes.0 joined rest.way;
          total = ap (λ (x : ℕ). cost edge.guard + x) rest.total ∙ sums;
          least = (entry_is_least e).least;
          lowest =
              onward split.0 split.1 split.2 (leads_nearer_lem edge passes.1)
              (λ other earlier nearer.
              false≢true
              (sym (split.3 other earlier)
              ∙ nearer_leads other (subst (λ (all : List Edge). other ∈ all) (sym split.2) (Memᴰ.append_left (edge ∷ split.1) earlier)) inside nearer))
              joined
              rest.lowest;
          falls = λ x here. lower x (Memᴰ.cases_cons here);
          distinct = ((λ here. again (rest.falls a here)), rest.distinct);
        }
      where
        lower : (x : ℕ) → (x ≡ a) ⊎ (x ∈ visited rest.way) → (e : ℕ) × (entry cost among n goal n x ≡ some e) × (e ≤ d)
        lower x (inl same) = (d, subst (λ (y : ℕ). entry cost among n goal n y ≡ some d) (sym same) e, le_refl d)
        lower x (inr further) =
            let below = rest.falls x further in
            (below.0, below.1, omega (arith, below.2, sums))

        again : (e : ℕ) × (entry cost among n goal n a ≡ some e) × (e ≤ d') → ⊥
        again (e', there, below) =
            let same : d ≡ e' = cc in
            omega (arith, positive edge.guard, sums)

    -- the path, with a bound that is at least the distance
    found_within : (bound : ℕ) {a d : ℕ} → entry cost among n goal n a ≡ some d → d ≤ bound → Found a d (path_from cost bound among table a)
    found_within zero {a} {d} e fits = go (some_leads e walk.1 refl walk.2)
      where
        walk : (walked : List Edge) × Walk among a walked goal × (costs cost walked ≡ d)
        walk = entry_walk cost among n goal n e

        go : (a ≡ goal) ⊎ ((edge : Edge) × (edge ∈ among) × (leads_nearer cost table a edge ≡ true)) → Found a d []
        go (inl same) = found_goal e same
        go (inr leads) =
            let same = same_distance_is (over cost table a leads.0) (entry cost among n goal n a) leads.2 in
            let by = over_is cost table leads.0 same.1 in
            let equal : d ≡ same.0 = cc same.2 in
            absurd (omega (arith, by.4, positive leads.0.guard))
    found_within (suc bound) {a} {d} e fits = go (find (leads_nearer cost table a) among) refl (λ x y there below. found_within bound there below)
      where
        walk : (walked : List Edge) × Walk among a walked goal × (costs cost walked ≡ d)
        walk = entry_walk cost among n goal n e

        arrive : find (leads_nearer cost table a) among ≡ none → (a ≡ goal) ⊎ ((edge : Edge) × (edge ∈ among) × (leads_nearer cost table a edge ≡ true)) → a ≡ goal
        arrive nothing (inl same) = same
        arrive nothing (inr leads) = absurd (false≢true (sym (find_none (leads_nearer cost table a) among nothing leads.1) ∙ leads.2))

        go : (choice : Option Edge) → find (leads_nearer cost table a) among ≡ choice
            → ((x y : ℕ) → entry cost among n goal n x ≡ some y → y ≤ bound → Found x y (path_from cost bound among table x))
            → Found a d (list_from choice (λ edge. edge ∷ path_from cost bound among table (get_or (across a edge) a)))
        go none nothing below = found_goal e (arrive nothing (some_leads e walk.1 refl walk.2))
        go (some edge) chosen below =
            let passes = find_in (leads_nearer cost table a) among chosen in
            let same = same_distance_is (over cost table a edge) (entry cost among n goal n a) passes.1 in
            let by = over_is cost table edge same.1 in
            let equal : d ≡ same.0 = cc same.2 in
            let sums : cost edge.guard + by.1 ≡ d = omega (arith, by.4) in
            rw (joins_across edge by.2)
            (found_onward edge (path_from cost bound among table by.0) e chosen by.2 sums (below by.0 by.1 by.3 (omega (arith, sums, positive edge.guard))))

    -- The path of an array term from which the goal is reached: all that is promised, and fewer steps than there are array terms
    pub path_found : {a d : ℕ} → entry cost among n goal n a ≡ some d → Found a d (path_from cost n among table a) × (length (path_from cost n among table a) < n)
    path_found {a} {d} e =
        let found = found_within (n + d) e (omega arith) in
        let short = simple_short ranged (entry_inside cost among n goal n e) found.way found.distinct in
        rw (bound_enough cost among table n d a (le_of_lt short)) (found, short)
