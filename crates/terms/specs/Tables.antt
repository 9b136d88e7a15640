-- The lent tables as one record of lists, the numbers that their rows are packed into, and what an accepted field puts into them.
-- Assumes nothing.
use Rattle.std.specs.Prelude.{ℕ, zero, suc, ◌+◌, ◌*◌, ◌/◌, ◌%◌, ◌<◌, ◌≡◌, Bool, List, [], ◌∷◌, eqb, length, get_or, set}
use Rattle.paper.specs.Sizes.{max_arrays, max_bases, max_booleans, max_sources, max_edges}
use Rattle.paper.specs.Edges.{at, Source, Guard, Edge}
use Rattle.query.specs.declared.Field.{Field}
use Rattle.query.specs.declared.Field.TheVariants.{FreeBase, FreeBoolean, Variable, Write, Conditional, Read, Equality, Fixed}
use Rattle.faults.specs.declared.Counts.{Counts}
use Rattle.terms.specs.declared.Tables.{Tables}

abbrev pub tables : (values truths reads sources edges : List ℕ) → Counts → Tables
tables values truths reads sources edges counts = record { values = values; truths = truths; reads = reads; sources = sources; edges = edges; counts = counts }

-- the number that a row is packed into
unfoldable pub read_row : (from index : ℕ) → ℕ
read_row from index = from % 256 + 256 * (index % 256)

unfoldable pub source_row : (origin index value : ℕ) → ℕ
source_row origin index value = origin % 256 + 256 * (index % 256) + 65536 * (value % 256)

unfoldable pub edge_row : (left right other number guard : ℕ) → ℕ
edge_row left right other number guard = left % 64 + 64 * (right % 64) + 4096 * (other % 64) + 262144 * (number % 256) + 67108864 * guard

-- what stands for the read of a base term that is none, and of a fixed number: no array has number 255
abbrev pub no_read : ℕ
no_read = 255

abbrev pub fixed_mark : ℕ
fixed_mark = 511

-- is a base term marked as a fixed number?
abbrev pub fixed_in : (reads : List ℕ) (b : ℕ) → Bool
fixed_in reads b = eqb (get_or reads b 0) fixed_mark

-- and what a row says: a source; or the edges of a write, a conditional or an equality
unfoldable pub source_in : ℕ → Source
source_in row = record { origin = row % 256; place = at (row / 256 % 256); value = row / 65536 % 256 }

abbrev pub edges_of : (left right other number guard : ℕ) → List Edge
edges_of left right other number zero = record { left = left; right = right; guard = Guard.differ number } ∷ []
edges_of left right other number (suc zero) =
    record { left = left; right = right; guard = Guard.is_true number }
    ∷ record { left = left; right = other; guard = Guard.is_false number }
    ∷ []
edges_of left right other number (suc (suc guard)) = record { left = left; right = right; guard = Guard.is_true number } ∷ []

unfoldable pub edges_in : ℕ → List Edge
edges_in row = edges_of (row % 64) (row / 64 % 64) (row / 4096 % 64) (row / 262144 % 256) (row / 67108864)

-- one more of each: a base term, with its value and the read that gives it; a Boolean, with its truth; an array term; the row of a source; an edge's
abbrev pub with_base : (value read : ℕ) → Tables → Tables
with_base value read t =
    record t {
      values = set t.values t.counts.bases value;
      reads = set t.reads t.counts.bases read;
      counts = record t.counts { bases = t.counts.bases + 1 };
    }

abbrev pub with_boolean : (truth : ℕ) → Tables → Tables
with_boolean truth t = record t { truths = set t.truths t.counts.booleans truth; counts = record t.counts { booleans = t.counts.booleans + 1 } }

abbrev pub with_array : Tables → Tables
with_array t = record t { counts = record t.counts { arrays = t.counts.arrays + 1 } }

abbrev pub with_source : (row : ℕ) → Tables → Tables
with_source row t = record t { sources = set t.sources t.counts.sources row; counts = record t.counts { sources = t.counts.sources + 1 } }

abbrev pub with_edge : (row : ℕ) → Tables → Tables
with_edge row t = record t { edges = set t.edges t.counts.edges row; counts = record t.counts { edges = t.counts.edges + 1 } }

-- what an accepted field puts into the tables
abbrev pub put_in : Field → Tables → Tables
put_in (FreeBase value) t = with_base value no_read t
put_in (FreeBoolean truth) t = with_boolean truth t
put_in Variable t = with_array t
put_in (Write p) t =
    with_array (with_edge (edge_row t.counts.arrays p.beneath 0 p.index 0) (with_source (source_row t.counts.arrays p.index p.value) t))
put_in (Conditional p) t = with_array (with_edge (edge_row t.counts.arrays p.if_true p.if_false p.chooser 1) t)
put_in (Read p) t = with_base p.value (read_row p.from p.index) (with_source (source_row p.from p.index t.counts.bases) t)
put_in (Equality p) t = with_boolean p.truth (with_edge (edge_row p.left p.right 0 t.counts.booleans 2) t)
put_in (Fixed value) t = with_base value fixed_mark t

-- there is room for it
abbrev pub Room : Field → Counts → Type 0
Room (FreeBase value) c = c.bases < max_bases
Room (FreeBoolean truth) c = c.booleans < max_booleans
Room Variable c = c.arrays < max_arrays
Room (Write p) c = (c.arrays < max_arrays) × (c.sources < max_sources) × (c.edges < max_edges)
Room (Conditional p) c = (c.arrays < max_arrays) × (c.edges < max_edges)
Room (Read p) c = (c.bases < max_bases) × (c.sources < max_sources)
Room (Equality p) c = (c.booleans < max_booleans) × (c.edges < max_edges)
Room (Fixed value) c = c.bases < max_bases
