-- To store the clauses of the bits that are left is to store all.
use Rattle.cnf.specs.Parts.{bit_numbers}
use Rattle.cnf.proofs.Runs.{Left}
use Rattle.cnf.proofs.Pieces.{bits_from}
use Rattle.cnf.proofs.placed.Placed.put_bits.Given as goal

abbrev pub invariant-loop-bit : goal.invariant-loop-bit
invariant-loop-bit l = Left l.initial.here (bit_numbers l.sizes l.self) l.here (bits_from l.sizes l.self l.bit)
