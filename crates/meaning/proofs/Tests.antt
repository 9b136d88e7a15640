-- Tests in order: what the first that is met says, where their refusal numbers are from 2 to 9, and what the tests of a field say.
-- Assumes nothing.
use Prim.Native.Nat.{ℕ, zero, suc, ◌≤◌}
use native.Mathlib.Omega.{arith}
use mathlib.Core.Path.{◌≡◌, refl}
use mathlib.Core.Logic.{◌⊎◌, inl, inr, ◌≢◌}
use mathlib.Core.Bool.{Bool, true, false, cond, ◌&&◌}
use mathlib.Core.List.{List, [], ◌∷◌}
use lib.Dec.{eqb, leb, ltb}
use Rattle.paper.specs.Lists.{any, Test, ◌refuses◌, first_met, unless_refused}
use Rattle.paper.specs.Fields.{Kind, parts, gives}
use Rattle.paper.specs.Terms.{given, Query}
use Rattle.paper.specs.Load.{limit, each_part, as_truth, as_ungiven, of_equality, bad_witnesses, equal_witnesses, next_term, faults}

-- a refusal number for a fault in a field
abbrev pub TwoToNine : ℕ → Type 0
TwoToNine refusal = (2 ≤ refusal) × (refusal ≤ 9)

-- each test of a list refuses with such a number
abbrev pub AllTwoToNine : List Test → Type 0
AllTwoToNine [] = Unit {0}
AllTwoToNine ((met refuses refusal) ∷ tests) = TwoToNine refusal × AllTwoToNine tests

-- no test is met
abbrev pub Unmet : List Test → Type 0
Unmet [] = Unit {0}
Unmet ((met refuses refusal) ∷ tests) = (met ≡ false) × Unmet tests

-- where the first test that is met gives 0, none is met; and otherwise it gives one of the numbers
pub none_met : (tests : List Test) → AllTwoToNine tests → first_met tests ≡ 0 → Unmet tests
none_met [] numbered e = tt
none_met ((true refuses refusal) ∷ tests) numbered e = absurd (omega arith)
none_met ((false refuses refusal) ∷ tests) numbered e = (refl, none_met tests numbered.1 e)

pub some_met : (tests : List Test) → AllTwoToNine tests → first_met tests ≢ 0 → TwoToNine (first_met tests)
some_met [] numbered h = absurd (h refl)
some_met ((true refuses refusal) ∷ tests) numbered h = numbered.0
some_met ((false refuses refusal) ∷ tests) numbered h = some_met tests numbered.1 h

-- a choice between two is one of them; an answer that a test may refuse is the answer or a refusal
pub cond_cases : {A : Type 0} (b : Bool) (x y : A) → ((b ≡ true) × (cond b x y ≡ x)) ⊎ ((b ≡ false) × (cond b x y ≡ y))
cond_cases true x y = inl (refl, refl)
cond_cases false x y = inr (refl, refl)

pub unless_refused_lem : {A : Type 0} (refusal : ℕ) (refused_for : ℕ → A) (answer : A)
    → ((refusal ≡ 0) × (unless_refused refusal refused_for answer ≡ answer)) ⊎ ((refusal ≢ 0) × (unless_refused refusal refused_for answer ≡ refused_for refusal))
unless_refused_lem zero refused_for answer = inl (refl, refl)
unless_refused_lem (suc refusal) refused_for answer = inr (omega arith, refl)

-- what the five tests of a field say where none is met
pub record Faultless (query : Query) (kind : Kind) (numbers : List ℕ) : Type 0 where
  pub room : leb (limit (gives kind)) (given (gives kind) query.terms) ≡ false
  pub named : any (λ ungiven. ungiven) (each_part (as_ungiven (λ s. given s query.terms)) (parts kind) numbers) ≡ false
  pub bits : any (ltb 1) (each_part as_truth (parts kind) numbers) ≡ false
  pub witnesses : of_equality (bad_witnesses query.terms) (next_term query.terms kind numbers) ≡ false
  pub differing : (any (eqb 0) (each_part as_truth (parts kind) numbers) && of_equality (equal_witnesses query.guess) (next_term query.terms kind numbers)) ≡ false

-- the tests of a field have such numbers
pub faults_two_to_nine : (query : Query) (kind : Kind) (numbers : List ℕ) → AllTwoToNine (faults query kind numbers)
unfolding faults
faults_two_to_nine query kind numbers = omega arith

-- what a field without a fault says
pub faultless : (query : Query) (kind : Kind) (numbers : List ℕ) → first_met (faults query kind numbers) ≡ 0 → Faultless query kind numbers
unfolding faults
faultless query kind numbers e =
    let unmet = none_met (faults query kind numbers) (faults_two_to_nine query kind numbers) e in
    record {
      room = unmet.0;
      named = unmet.1.0;
      bits = unmet.1.1.0;
      witnesses = unmet.1.1.1.0;
      differing = unmet.1.1.1.1.0;
    }
