-- What the edges and sources of well-numbered terms name is given: array terms, base terms, Booleans.
-- Assumes nothing.
use Prim.Native.Nat.{ℕ, ◌<◌}
use mathlib.Core.Path.{◌≡◌}
use mathlib.Core.Logic.{◌⊎◌, inl, inr}
use mathlib.Core.List.Memᴰ
use mathlib.Core.List.{List, [], ◌∷◌}
use Rattle.paper.specs.Lists.{◌∈◌}
use Rattle.paper.specs.Fields.{base, boolean, array}
use Rattle.paper.specs.Terms.{Term, series, given, Assignment}
use Rattle.paper.specs.Edges.{index_number, Source, source_of, sources, Guard, Edge, edge_of, edges, opens, open_edges}
use Rattle.meaning.proofs.Lists.{concat_map_in, keep_in}
use Rattle.meaning.proofs.Walks.{Ranged}
use Rattle.meaning.proofs.Accepted.{Below, own_number}

-- each term names what is given, and is itself given
pub record Numbered (terms : List Term) : Type 0 where
  pub names : (term : Term) → term ∈ terms → Below (λ s. given s terms) term
  pub own : (term : Term) → term ∈ terms → own_number term < given (series term) terms

-- a guard names a base term or a Boolean
abbrev pub GuardGiven : (bases booleans : ℕ) → Guard → Type 0
GuardGiven bases booleans (Guard.differ index) = index < bases
GuardGiven bases booleans (Guard.is_true m) = m < booleans
GuardGiven bases booleans (Guard.is_false m) = m < booleans

pub record EdgeGiven (arrays bases booleans : ℕ) (edge : Edge) : Type 0 where
  pub left : edge.left < arrays
  pub right : edge.right < arrays
  pub guard : GuardGiven bases booleans edge.guard

pub record SourceGiven (arrays bases : ℕ) (source : Source) : Type 0 where
  pub origin : source.origin < arrays
  pub place : index_number source.place < bases
  pub value : source.value < bases

module _ (terms : List Term) (numbered : Numbered terms) where
  of_term : (term : Term) → Below (λ s. given s terms) term → own_number term < given (series term) terms → (edge : Edge) → edge ∈ edge_of term
      → EdgeGiven (given array terms) (given base terms) (given boolean terms) edge
  of_term (Term.free_base own) names inside edge here = absurd (Memᴰ.not-nil here)
  of_term (Term.free_boolean own) names inside edge here = absurd (Memᴰ.not-nil here)
  of_term (Term.variable own) names inside edge here = absurd (Memᴰ.not-nil here)
  of_term (Term.write own beneath index value) names inside edge here =
      rw (Memᴰ.eq_of_singleton here) (record { left = inside; right = names.0; guard = names.1 })
  of_term (Term.conditional own chooser if_true if_false) names inside edge here = go (Memᴰ.cases_cons here)
    where
      go : (edge ≡ record { left = own; right = if_true; guard = Guard.is_true chooser }) ⊎ (edge ∈ record { left = own; right = if_false; guard = Guard.is_false chooser } ∷ [])
          → EdgeGiven (given array terms) (given base terms) (given boolean terms) edge
      go (inl same) = rw same (record { left = inside; right = names.1; guard = names.0 })
      go (inr there) = rw (Memᴰ.eq_of_singleton there) (record { left = inside; right = names.2; guard = names.0 })
  of_term (Term.read own from index) names inside edge here = absurd (Memᴰ.not-nil here)
  of_term (Term.equality own left right left_witness right_witness) names inside edge here =
      rw (Memᴰ.eq_of_singleton here) (record { left = names.0; right = names.1; guard = inside })
  of_term (Term.fixed own value) names inside edge here = absurd (Memᴰ.not-nil here)

  pub edge_given : (edge : Edge) → edge ∈ edges terms → EdgeGiven (given array terms) (given base terms) (given boolean terms) edge
  unfolding edges
  edge_given edge here =
      let from = concat_map_in edge_of terms here in
      of_term from.0 (numbered.names from.0 from.1) (numbered.own from.0 from.1) edge from.2

  source_of_term : (term : Term) → Below (λ s. given s terms) term → own_number term < given (series term) terms → (source : Source) → source ∈ source_of term
      → SourceGiven (given array terms) (given base terms) source
  source_of_term (Term.free_base own) names inside source here = absurd (Memᴰ.not-nil here)
  source_of_term (Term.free_boolean own) names inside source here = absurd (Memᴰ.not-nil here)
  source_of_term (Term.variable own) names inside source here = absurd (Memᴰ.not-nil here)
  source_of_term (Term.write own beneath index value) names inside source here =
      rw (Memᴰ.eq_of_singleton here) (record { origin = inside; place = names.1; value = names.2 })
  source_of_term (Term.conditional own chooser if_true if_false) names inside source here = absurd (Memᴰ.not-nil here)
  source_of_term (Term.read own from index) names inside source here =
      rw (Memᴰ.eq_of_singleton here) (record { origin = names.0; place = names.1; value = inside })
  source_of_term (Term.equality own left right left_witness right_witness) names inside source here = absurd (Memᴰ.not-nil here)
  source_of_term (Term.fixed own value) names inside source here = absurd (Memᴰ.not-nil here)

  pub source_given : (source : Source) → source ∈ sources terms → SourceGiven (given array terms) (given base terms) source
  unfolding sources
  source_given source here =
      let from = concat_map_in source_of terms here in
      source_of_term from.0 (numbered.names from.0 from.1) (numbered.own from.0 from.1) source from.2

  -- an open edge is an edge, and joins array terms that are given
  pub open_is_edge : (g : Assignment) (x : ℕ) (edge : Edge) → edge ∈ open_edges terms g x → edge ∈ edges terms
  unfolding open_edges
  open_is_edge g x edge here = (keep_in (λ one. opens g x one.guard) (edges terms) here).0

  pub open_ranged : (g : Assignment) (x : ℕ) → Ranged (given array terms) (open_edges terms g x)
  open_ranged g x edge here =
      let known = edge_given edge (open_is_edge g x edge here) in
      (known.left, known.right)
