-- There is such a clause by name, as there is in numbers.
use Rattle.cnf.proofs.Nth.{clause_there}
use Rattle.cnf.proofs.put_clause.Goals as goal

pub bit_clause-requires : goal.bit_clause-requires
bit_clause-requires c =
    (c.requires.0, clause_there _ _ _ _ _ c.requires.4)
