-- 01, Sources, edges, reach: the sources and edges that the terms give, and which edges a guess opens.
-- Assumes nothing.
use Rattle.std.specs.Prelude.{ℕ, Bool, not, List, [], ◌∷◌, eqb}
use Rattle.paper.specs.Lists.{concat_map, keep}
use Rattle.paper.specs.Terms.{Term, Assignment}

-- where a source gives its value: at the index that a base term holds
pub data Place : Type 0 where
  at : (index : ℕ) → Place

abbrev pub index_number : Place → ℕ
index_number (at index) = index

-- is index value x in the place?
abbrev pub covers : Assignment → (x : ℕ) → Place → Bool
covers g x (at index) = eqb (g.value index) x

pub record Source : Type 0 where
  pub origin : ℕ
  pub place : Place
  pub value : ℕ

-- "A read's origin is the array read, its value the read's own base term. A write's origin is the write, with its index and value terms."
abbrev pub source_of : Term → List Source
source_of (Term.free_base own) = []
source_of (Term.free_boolean own) = []
source_of (Term.variable own) = []
source_of (Term.write own beneath index value) = record { origin = own; place = at index; value = value } ∷ []
source_of (Term.conditional own chooser if_true if_false) = []
source_of (Term.read own from index) = record { origin = from; place = at index; value = own } ∷ []
source_of (Term.equality own left right left_witness right_witness) = []
source_of (Term.fixed own value) = []

-- "Fields 04 and 06, in order"
unfoldable pub sources : List Term → List Source
sources terms = concat_map source_of terms

-- what opens an edge
pub data Guard : Type 0 where
  differ : (index : ℕ) → Guard
  is_true is_false : (m : ℕ) → Guard

pub record Edge : Type 0 where
  pub left : ℕ
  pub right : ℕ
  pub guard : Guard

-- A conditional stands as two guarded edges, to either branch, of which every guess opens exactly one. So the edges depend on the
-- terms alone, and in their order the open ones come by their numbers.
abbrev pub edge_of : Term → List Edge
edge_of (Term.free_base own) = []
edge_of (Term.free_boolean own) = []
edge_of (Term.variable own) = []
edge_of (Term.write own beneath index value) = record { left = own; right = beneath; guard = Guard.differ index } ∷ []
edge_of (Term.conditional own chooser if_true if_false) =
    record { left = own; right = if_true; guard = Guard.is_true chooser }
    ∷ record { left = own; right = if_false; guard = Guard.is_false chooser }
    ∷ []
edge_of (Term.read own from index) = []
edge_of (Term.equality own left right left_witness right_witness) = record { left = left; right = right; guard = Guard.is_true own } ∷ []
edge_of (Term.fixed own value) = []

-- "Fields 04, 05 and 07, in order, are the edges"
unfoldable pub edges : List Term → List Edge
edges terms = concat_map edge_of terms

-- "open to index value v if the write index has another assigned value"; "the branch that the assigned truth chooses"; "open if its
-- truth is 1"
abbrev pub opens : Assignment → (x : ℕ) → Guard → Bool
opens g x (Guard.differ index) = not (eqb (g.value index) x)
opens g x (Guard.is_true m) = g.truth m
opens g x (Guard.is_false m) = not (g.truth m)

-- the edges open to an index value, in order
unfoldable pub open_edges : List Term → Assignment → (x : ℕ) → List Edge
open_edges terms g x = keep (λ edge. opens g x edge.guard) (edges terms)
