-- The sizes of what is lent, by the names that the code gives them (src/lib.rt).
-- Assumes nothing.
use Rattle.std.specs.Prelude.{ℕ, ◌+◌}
use Rattle.paper.specs.Fields.{base, boolean, array}
use Rattle.paper.specs.Load.{limit}

-- "At most 48 array terms, 256 base terms, 64 Booleans"
abbrev pub max_arrays : ℕ
max_arrays = limit array

abbrev pub max_bases : ℕ
max_bases = limit base

abbrev pub max_booleans : ℕ
max_booleans = limit boolean

-- a source has a base or an array term to itself, an edge a Boolean or an array term
abbrev pub max_sources : ℕ
max_sources = max_bases + max_arrays

abbrev pub max_edges : ℕ
max_edges = max_booleans + max_arrays

-- "At most 49 literals"
abbrev pub max_literals : ℕ
max_literals = 49
