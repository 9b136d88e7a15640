-- What the tests of a field come to where the field is a free Boolean.
-- Assumes nothing.
use Rattle.std.proofs.Common.{ℕ, ◌≡◌, Bool, false, cond, ◌||◌, List, ltb, ap}
use Rattle.std.specs.Prelude.{eqb, leb}
use Rattle.std.proofs.Math.Bool.{and-false}
use Rattle.query.specs.declared.Field.TheVariants.{FreeBoolean}
use Rattle.faults.specs.declared.Counts.{Counts}
use Rattle.faults.specs.Faults.{fault_by}

-- of a truth alone the last test is never met
pub boolean_fault : (reads values : List ℕ) (c : Counts) (truth : ℕ)
    → fault_by reads values c (FreeBoolean truth) ≡ cond (leb 64 c.booleans) 5 (cond (ltb 1 truth || false) 7 0)
boolean_fault reads values c truth =
    ap (λ (b : Bool). cond (leb 64 c.booleans) 5 (cond (ltb 1 truth || false) 7 (cond b 9 0))) (and-false (eqb 0 truth || false))
