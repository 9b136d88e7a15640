-- What a packed row says is what was packed into it.
-- Assumes nothing.
use Prim.Native.Nat.{ℕ, ◌/◌, ◌%◌, ◌<◌}
use native.Mathlib.Omega.{arith}
use mathlib.Core.Path.{◌≡◌}
use Rattle.paper.specs.Edges.{at}
use Rattle.terms.specs.Tables.{read_row, source_row, source_in, edge_row, edges_of, edges_in}

pub read_from : (from index : ℕ) → from < 256 → index < 256 → read_row from index % 256 ≡ from
unfolding read_row
read_from from index small low = omega arith

pub read_index_lem : (from index : ℕ) → from < 256 → index < 256 → read_row from index / 256 ≡ index
unfolding read_row
read_index_lem from index small low = omega arith

module _ (origin index value : ℕ) (origin_low : origin < 256) (index_low : index < 256) (value_low : value < 256) where
  first : source_row origin index value % 256 ≡ origin
  unfolding source_row
  first = omega arith

  second : source_row origin index value / 256 % 256 ≡ index
  unfolding source_row
  second = omega arith

  third : source_row origin index value / 65536 % 256 ≡ value
  unfolding source_row
  third = omega arith

  pub source_back : source_in (source_row origin index value) ≡ record { origin = origin; place = at index; value = value }
  unfolding source_in
  source_back = rw (first, second, third)

module _ (left right other number guard : ℕ) (left_low : left < 64) (right_low : right < 64) (other_low : other < 64) (number_low : number < 256) where
  left_is : edge_row left right other number guard % 64 ≡ left
  unfolding edge_row
  left_is = omega arith

  right_is : edge_row left right other number guard / 64 % 64 ≡ right
  unfolding edge_row
  right_is = omega arith

  other_is : edge_row left right other number guard / 4096 % 64 ≡ other
  unfolding edge_row
  other_is = omega arith

  number_is : edge_row left right other number guard / 262144 % 256 ≡ number
  unfolding edge_row
  number_is = omega arith

  guard_is : edge_row left right other number guard / 67108864 ≡ guard
  unfolding edge_row
  guard_is = omega arith

  pub edge_back : edges_in (edge_row left right other number guard) ≡ edges_of left right other number guard
  unfolding edges_in
  edge_back = rw (left_is, right_is, other_is, number_is, guard_is)
