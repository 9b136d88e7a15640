-- The marks of the base terms say which are fixed numbers, so that of the literals between two sources those are left that the paper leaves.
-- Assumes nothing.
use Prim.Native.Nat.{ℕ, zero, suc, ◌<◌}
use mathlib.Core.Path.{◌≡◌, refl, sym, ap, ap₂, ◌∙◌, subst}
use mathlib.Core.Logic.{◌⊎◌, inl, inr}
use mathlib.Core.Bool.{not, ◌&&◌}
use mathlib.Core.List.Memᴰ
use mathlib.Core.List.{List, [], ◌∷◌, ◌++◌}
use mathlib.Core.Option.{Option, none, some, get_or}
use lib.ListN.{take}
use Rattle.paper.specs.Lists.{◌∈◌, keep, find, list_from}
use Rattle.paper.specs.Fields.{array}
use Rattle.paper.specs.Terms.{Term, given, is_fixed, Query, Assignment, assigned}
use Rattle.paper.specs.Edges.{Guard, Edge, edges, opens, open_edges}
use Rattle.paper.specs.Reach.{index_value, across, step_cost, distances}
use Rattle.paper.specs.Conflict.{Pair}
use Rattle.paper.specs.Lemma.{Literal, leads_nearer, path_from, literal_of, hypotheses, left_out, stays, path}
use Rattle.meaning.proofs.Lists.{find_in, keep_same, keep_in, keep_append, concat_map_in}
use Rattle.meaning.proofs.Literals.{hypothesis_is}
use Rattle.terms.specs.declared.Tables.{Tables}
use Rattle.terms.specs.Tables.{fixed_in, edges_in}
use Rattle.faults.specs.Faults.{count_in}
use Rattle.terms.specs.Holds.{Holds}
use Rattle.terms.specs.Graph.{Each, GuardWithin, EdgeWithin, Graphed}
use Rattle.reach.proofs.Words.{in_each}
use Rattle.lemma.specs.Fixed.{stays_by}

-- a path is made of the edges among which it is looked for
path_among : (cost : Guard → ℕ) (bound : ℕ) (among : List Edge) (table : List (Option ℕ)) (a : ℕ) {edge : Edge} → edge ∈ path_from cost bound among table a → edge ∈ among
path_among cost zero among table a here = absurd (Memᴰ.not-nil here)
path_among cost (suc bound) among table a {edge} here =
    go (find (leads_nearer cost table a) among) refl (λ first later. path_among cost bound among table (get_or (across a first) a) later) here
  where
    go : (found : Option Edge) → find (leads_nearer cost table a) among ≡ found
        → ((first : Edge) → edge ∈ path_from cost bound among table (get_or (across a first) a) → edge ∈ among)
        → edge ∈ list_from found (λ (first : Edge). first ∷ path_from cost bound among table (get_or (across a first) a)) → edge ∈ among
    go none is below there = absurd (Memᴰ.not-nil there)
    go (some first) is below (Memᴰ.head same) = rw same (find_in (leads_nearer cost table a) among is).0
    go (some first) is below (Memᴰ.tail later) = below first later

pub path_open : (terms : List Term) (g : Assignment) (pair : Pair) (edge : Edge) → edge ∈ path terms g pair → edge ∈ open_edges terms g (index_value g pair.first)
unfolding path
path_open terms g pair edge here =
    let x = index_value g pair.first in
    path_among step_cost (given array terms) (open_edges terms g x) (distances terms g x pair.later.origin) pair.first.origin here

module _ {query : Query} {t : Tables} (held : Holds query t) (graph : Graphed query t) where
  -- what an open edge names is given
  open_within : (x : ℕ) {edge : Edge} → edge ∈ open_edges query.terms (assigned query.guess) x → EdgeWithin (count_in t.counts) edge
  unfolding open_edges
  open_within x {edge} here =
      let rows = take t.counts.edges t.edges in
      let listed_there = (keep_in (λ (one : Edge). opens (assigned query.guess) x one.guard) (edges query.terms) here).0 in
      let (row, in_rows, in_row) = concat_map_in edges_in rows (subst (λ (all : List Edge). edge ∈ all) (sym held.edges.same) listed_there) in
      in_each (EdgeWithin (count_in t.counts)) (edges_in row) (in_each (λ (one : ℕ). Each (EdgeWithin (count_in t.counts)) (edges_in one)) rows graph.within_edges in_rows) in_row

  both_same : (i j : ℕ) → i < t.counts.bases → j < t.counts.bases → (fixed_in t.reads i && fixed_in t.reads j) ≡ (is_fixed query.terms i && is_fixed query.terms j)
  both_same i j i_in j_in = sym (ap₂ ◌&&◌ (graph.fixed i i_in) (graph.fixed j j_in))

  edge_same : (i : ℕ) → i < t.counts.bases → (guard : Guard) → GuardWithin (count_in t.counts) guard
      → left_out (fixed_in t.reads) (literal_of i guard) ≡ left_out (is_fixed query.terms) (literal_of i guard)
  edge_same i i_in (Guard.differ j) within = both_same i j i_in within
  edge_same i i_in (Guard.is_true m) within = refl
  edge_same i i_in (Guard.is_false m) within = refl

  -- what is left by the marks is what is left by the terms; the conclusion stays
  pub left_paper : (i j v u : ℕ) → i < t.counts.bases → j < t.counts.bases → (x : ℕ) (walked : List Edge)
      → ((edge : Edge) → edge ∈ walked → edge ∈ open_edges query.terms (assigned query.guess) x)
      → keep (stays_by t.reads) (hypotheses i j walked ++ (Literal.conclusion v u ∷ [])) ≡ keep (stays query.terms) (hypotheses i j walked) ++ (Literal.conclusion v u ∷ [])
  left_paper i j v u i_in j_in x walked among =
      keep_append (stays_by t.reads) (hypotheses i j walked) (Literal.conclusion v u ∷ [])
      ∙ ap (λ (left : List Literal). left ++ (Literal.conclusion v u ∷ []))
      (keep_same (hypotheses i j walked) (λ l here. ap not (go (hypothesis_is i j walked here))))
    where
      go : {l : Literal} → (l ≡ Literal.equal i j) ⊎ ((edge : Edge) × (edge ∈ walked) × (l ≡ literal_of i edge.guard))
          → left_out (fixed_in t.reads) l ≡ left_out (is_fixed query.terms) l
      go (inl is) = rw is (both_same i j i_in j_in)
      go (inr along) = rw along.2 (edge_same i i_in along.0.guard (open_within x (among along.0 along.1)).2)
