-- 01, Memories and interpretations.
-- Assumes nothing.
use Rattle.std.specs.Prelude.{ℕ, ◌<◌, ◌^◌, true, cond, ◌≡◌, ◌↔◌, ◌≢◌, List}
use Rattle.paper.specs.Lists.{◌∈◌}
use Rattle.paper.specs.Fields.{base, boolean, array}
use Rattle.paper.specs.Terms.{Term, given, Guess, Query, Assignment, assigned}

-- "each array term an array": for each array number, the value at each index
abbrev pub Memories : Type 0
Memories = (array index : ℕ) → ℕ

-- "agree at every index": the indices are those below 2^w
abbrev pub Agree : (w : ℕ) → Memories → (left right : ℕ) → Type 0
Agree w memory left right = (x : ℕ) → x < 2 ^ w → memory left x ≡ memory right x

-- what one term says of values, truths and memories
abbrev pub Means : (w : ℕ) → Assignment → Memories → Term → Type 0
Means w g memory (Term.free_base own) = Unit {0}
Means w g memory (Term.free_boolean own) = Unit {0}
Means w g memory (Term.variable own) = Unit {0}
Means w g memory (Term.write own beneath index value) =
    (memory own (g.value index) ≡ g.value value)
    × ((x : ℕ) → x < 2 ^ w → x ≢ g.value index → memory own x ≡ memory beneath x)
Means w g memory (Term.conditional own chooser if_true if_false) = Agree w memory own (cond (g.truth chooser) if_true if_false)
Means w g memory (Term.read own from index) = g.value own ≡ memory from (g.value index)
Means w g memory (Term.equality own left right left_witness right_witness) = (g.truth own ≡ true) ↔ Agree w memory left right
Means w g memory (Term.fixed own value) = g.value own ≡ value

-- 02, E1: "Interpretations and the assignments of demand 3 are now those that give each such term its value"
abbrev pub GivesFixed : List Term → Assignment → Type 0
GivesFixed terms g = (own value : ℕ) → Term.fixed own value ∈ terms → g.value own ≡ value

pub record Interpretation (w : ℕ) (terms : List Term) (g : Assignment) (memory : Memories) : Type 0 where
  pub values : (b : ℕ) → b < given base terms → g.value b < 2 ^ w
  pub cells : (a x : ℕ) → a < given array terms → x < 2 ^ w → memory a x < 2 ^ w
  pub holds : (term : Term) → term ∈ terms → Means w g memory term

-- "with all the assigned values and truths"
pub record Fits (terms : List Term) (guess : Guess) (g : Assignment) : Type 0 where
  pub values : (b : ℕ) → b < given base terms → g.value b ≡ (assigned guess).value b
  pub truths : (m : ℕ) → m < given boolean terms → g.truth m ≡ (assigned guess).truth m

-- "'Consistent' means that an interpretation exists with all the assigned values and truths"
abbrev pub Consistent : (w : ℕ) → Query → Type 0
Consistent w query =
    (g : Assignment) × (memory : Memories) × Interpretation w query.terms g memory × Fits query.terms query.guess g
