-- Tests on lists, and the few other words in which the paper is written down. Each is the usual function of its name.
-- Assumes nothing.
use Rattle.std.specs.Prelude.{ℕ, zero, suc, ◌+◌, ◌*◌, Bool, true, false, cond, ◌&&◌, ◌||◌, eqb}
use mathlib.Core.List.{List, [], ◌∷◌, ◌++◌, Memᴰ}
use Rattle.std.proofs.Math.Option.{Option, none, some}

infix 40 ◌∈◌
abbrev pub ◌∈◌ : {A : Type 0} → A → List A → Type 0
x ∈ xs = Memᴰ x xs

module _ {A : Type 0} where
  abbrev pub is_some : Option A → Bool
  is_some none = false
  is_some (some x) = true

  abbrev pub or_else : Option A → Option A → Option A
  or_else none other = other
  or_else (some x) other = some x

  abbrev pub any : (A → Bool) → List A → Bool
  any test [] = false
  any test (x ∷ xs) = test x || any test xs

  abbrev pub all : (A → Bool) → List A → Bool
  all test [] = true
  all test (x ∷ xs) = test x && all test xs

  abbrev pub keep : (A → Bool) → List A → List A
  keep test [] = []
  keep test (x ∷ xs) = cond (test x) (x ∷ keep test xs) (keep test xs)

  -- the first element that passes the test
  abbrev pub find : (A → Bool) → List A → Option A
  find test [] = none
  find test (x ∷ xs) = cond (test x) (some x) (find test xs)

  -- how many elements pass the test
  abbrev pub count : (A → Bool) → List A → ℕ
  count test [] = 0
  count test (x ∷ xs) = cond (test x) 1 0 + count test xs

module _ {A B : Type 0} where
  abbrev pub map_option : (A → B) → Option A → Option B
  map_option f none = none
  map_option f (some x) = some (f x)

  abbrev pub bind_option : Option A → (A → Option B) → Option B
  bind_option none f = none
  bind_option (some x) f = f x

  abbrev pub list_from : Option A → (A → List B) → List B
  list_from none f = []
  list_from (some x) f = f x

  abbrev pub concat_map : (A → List B) → List A → List B
  concat_map f [] = []
  concat_map f (x ∷ xs) = f x ++ concat_map f xs

abbrev pub sum : List ℕ → ℕ
sum [] = 0
sum (x ∷ xs) = x + sum xs

-- the numbers from first on, as many as said
abbrev pub range : (first many : ℕ) → List ℕ
range first zero = []
range first (suc many) = first ∷ range (suc first) many

abbrev pub same_numbers : List ℕ → List ℕ → Bool
same_numbers [] [] = true
same_numbers [] (y ∷ ys) = false
same_numbers (x ∷ xs) [] = false
same_numbers (x ∷ xs) (y ∷ ys) = eqb x y && same_numbers xs ys

-- A number from its bytes: big-endian, unsigned
abbrev pub number_from : ℕ → List ℕ → ℕ
number_from high [] = high
number_from high (byte ∷ bytes) = number_from (high * 256 + byte) bytes

abbrev pub number : List ℕ → ℕ
number bytes = number_from 0 bytes

-- An ordered list of tests: the first that is met gives the refusal, and 0 says that none is
infix 20 ◌refuses◌
pub data Test : Type 0 where
  ◌refuses◌ : Bool → ℕ → Test

abbrev pub first_met : List Test → ℕ
first_met [] = 0
first_met ((met refuses refusal) ∷ tests) = cond met refusal (first_met tests)

-- an answer, unless a test refuses it
abbrev pub unless_refused : {A : Type 0} → (refusal : ℕ) → ((refusal : ℕ) → A) → A → A
unless_refused zero refused_for answer = answer
unless_refused (suc refusal) refused_for answer = refused_for (suc refusal)
