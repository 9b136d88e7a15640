-- A literal that compares has two clauses for each bit.
use native.Mathlib.Omega.{arith}
use Rattle.cnf.proofs.Pieces.{compares_unless, bits_count}
use Rattle.cnf.proofs.literal.clause_count.Goals as goal

pub returns-in_default : goal.returns-in_default
returns-in_default c = (λ n. bits_count _ n _ (compares_unless _ c.in_default.not-IsTrue c.in_default.not-IsFalse), omega arith)
