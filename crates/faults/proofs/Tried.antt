-- A test that a field has passed, and the test of three numbers that must be given.
-- Assumes nothing.
use Rattle.std.specs.Prelude.{◌≡◌, Bool, true, false, ◌||◌, [], ◌∷◌, Result, Ok, Err, if◌then◌else◌}
use Rattle.std.proofs.Common.{refl}
use Rattle.paper.specs.declared.Reason.{Reason}
use Rattle.paper.specs.declared.Reason.TheVariants.{NotGiven}
use Rattle.paper.specs.Lists.{any}
use Rattle.faults.specs.Faults.{fault_number}

-- what a test answers
abbrev pub unless_met : Bool → Reason → Result (Unit {0}) Reason
unless_met met reason = if met then Err reason else Ok tt

-- a test that is passed is not met
pub not_met : (met : Bool) (reason : Reason) → unless_met met reason ≡ Ok tt → met ≡ false
not_met true reason passed = absurd (cc)
not_met false reason passed = refl

-- what is said of three numbers, of which one that is not given is enough
pub one_ungiven : (one other third : Bool) → fault_number (unless_met ((one || other) || third) NotGiven) ≡ (if any (λ ungiven. ungiven) (one ∷ other ∷ third ∷ []) then 6 else 0)
one_ungiven true other third = refl
one_ungiven false true third = refl
one_ungiven false false true = refl
one_ungiven false false false = refl
