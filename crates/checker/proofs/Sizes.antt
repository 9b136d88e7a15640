-- The fresh variables of a lemma are few enough that the variables' count fits.
-- Assumes nothing.
use Prim.Native.Nat.{◌≤◌}
use mathlib.Core.List.{List}
use native.Mathlib.Omega.{arith}
use lib.ListN.{length, length-map}
use Rattle.paper.specs.Clauses.{fresh_count}
use Rattle.meaning.proofs.Counts.{is_equal, has_e, fresh_count_32}
use Rattle.meaning.proofs.Bounds.{count_most}
use Rattle.lemma.specs.declared.rows.Literal.{Literal}
use Rattle.lemma.specs.Rows.{literal_in, literals_of}

pub fresh_small : (rows : List Literal) → length rows ≤ 49 → fresh_count 32 (literals_of rows) ≤ 1617
fresh_small rows most =
    omega (
      arith,
      fresh_count_32 (literals_of rows),
      count_most is_equal (literals_of rows),
      count_most has_e (literals_of rows),
      length-map rows literal_in,
    )
