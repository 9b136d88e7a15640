-- The reasons of the code for a refusal, as 01 numbers them.
-- Assumes nothing.
use Rattle.std.specs.Prelude.{ℕ, cond, eqb, List, ◌++◌, codes}
use Rattle.std.specs.Fmt.{decimal}
use Rattle.paper.specs.declared.Refusal.{Refusal}
use Rattle.paper.specs.declared.Reason.{Reason}
use Rattle.paper.specs.declared.Reason.TheVariants.{TooLong, RunsPastEnd, UnknownTag, WrongLength, TooMany, NotGiven, WrongTruth, WrongWitness, EqualWitnesses, NoRoom, NoCell, OtherVerdict}

-- "Refusals by number"
abbrev pub number_of : Reason → ℕ
number_of TooLong = 1
number_of RunsPastEnd = 2
number_of UnknownTag = 3
number_of WrongLength = 4
number_of TooMany = 5
number_of NotGiven = 6
number_of WrongTruth = 7
number_of WrongWitness = 8
number_of EqualWitnesses = 9
number_of NoRoom = 10
number_of NoCell = 11
number_of OtherVerdict = 12

-- and back: the reason with a number from 1 to 12
abbrev pub reason_of : ℕ → Reason
reason_of n =
    cond (eqb n 1) TooLong (
    cond (eqb n 2) RunsPastEnd (
    cond (eqb n 3) UnknownTag (
    cond (eqb n 4) WrongLength (
    cond (eqb n 5) TooMany (
    cond (eqb n 6) NotGiven (
    cond (eqb n 7) WrongTruth (
    cond (eqb n 8) WrongWitness (
    cond (eqb n 9) EqualWitnesses (
    cond (eqb n 10) NoRoom (
    cond (eqb n 11) NoCell (OtherVerdict)))))))))))

-- "`refused` number offset"
abbrev pub refused_text : Refusal → List ℕ
refused_text refusal = codes "refused " ++ decimal (number_of refusal.reason) ++ codes " " ++ decimal refusal.offset
