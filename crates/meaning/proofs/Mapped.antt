-- Laws of tests and lengths over lists that are mapped, joined, or run through the numbers of a range.
-- Assumes nothing.
use Prim.Native.Nat.{ℕ, zero, suc, ◌+◌, ◌*◌, ◌<◌, ◌≤◌}
use native.Mathlib.Nat.{eq-or-lt_of_le}
use native.Mathlib.Omega.{arith}
use mathlib.Core.Path.{◌≡◌, refl, sym, ap, ◌∙◌}
use mathlib.Core.Logic.{◌⊎◌, inl, inr, ◌↔◌}
use mathlib.Core.Bool.{Bool, true}
use mathlib.Core.List.Memᴰ
use mathlib.Core.List.{List, [], ◌∷◌, map}
use lib.ListN.{length, length-append}
use Rattle.paper.specs.Lists.{◌∈◌, any, all, concat_map, range, sum}
use Rattle.meaning.proofs.Lists.{all_in, all_has, concat_map_has, concat_map_in, concat_map_append, range_in}

module _ {A B : Type 0} where
  -- a test of what is mapped is a test of what it is mapped from
  pub any_map : (test : B → Bool) (f : A → B) (xs : List A) → any test (map f xs) ≡ any (λ x. test (f x)) xs
  any_map test f [] = refl
  any_map test f (x ∷ xs) = rw (any_map test f xs)

  pub all_map : (test : B → Bool) (f : A → B) (xs : List A) → all test (map f xs) ≡ all (λ x. test (f x)) xs
  all_map test f [] = refl
  all_map test f (x ∷ xs) = rw (all_map test f xs)

  -- the length of what is joined is the sum of the lengths
  pub length_concat_map : (f : A → List B) (xs : List A) → length (concat_map f xs) ≡ sum (map (λ x. length (f x)) xs)
  length_concat_map f [] = refl
  length_concat_map f (x ∷ xs) = length-append (f x) (concat_map f xs) ∙ ap (λ (n : ℕ). length (f x) + n) (length_concat_map f xs)

module _ {A B C : Type 0} (g : B → List C) where
  -- lists that are joined twice are joined once
  pub concat_map_concat_map : (f : A → List B) (xs : List A) → concat_map g (concat_map f xs) ≡ concat_map (λ x. concat_map g (f x)) xs
  concat_map_concat_map f [] = refl
  concat_map_concat_map f (x ∷ xs) = concat_map_append g (f x) (concat_map f xs) ∙ rw (concat_map_concat_map f xs)

  -- lists that are mapped and joined are joined
  pub concat_map_map : (f : A → B) (xs : List A) → concat_map g (map f xs) ≡ concat_map (λ x. g (f x)) xs
  concat_map_map f [] = refl
  concat_map_map f (x ∷ xs) = rw (concat_map_map f xs)

-- every number of a range is in it
pub range_has : (first n : ℕ) {x : ℕ} → first ≤ x → x < first + n → x ∈ range first n
range_has first zero h l = absurd (omega arith)
range_has first (suc n) {x} h l = go (eq-or-lt_of_le h) (λ above. range_has (suc first) n above (omega arith))
  where
    go : (first ≡ x) ⊎ (first < x) → (first < x → x ∈ range (suc first) n) → x ∈ first ∷ range (suc first) n
    go (inl here) below = Memᴰ.head (sym here)
    go (inr there) below = Memᴰ.tail (below there)

-- all that is joined over the first n numbers passes a test exactly if it does at each number
pub all_over_range : {A : Type 0} (test : A → Bool) (f : ℕ → List A) (n : ℕ) → (all test (concat_map f (range 0 n)) ≡ true) ↔ ((k : ℕ) → k < n → all test (f k) ≡ true)
all_over_range {A} test f n = (
  λ each k h. all_has test (f k) (λ x here. all_in test (concat_map f (range 0 n)) each (concat_map_has f (range 0 n) (range_has 0 n (omega arith) (omega arith)) here)),
  λ each. all_has test (concat_map f (range 0 n)) (λ x here.
      let found = concat_map_in f (range 0 n) here in
      all_in test (f found.0) (each found.0 (omega (arith, range_in 0 n found.1))) found.2),
)

-- lists of one length, joined over n numbers
pub length_over_range : {A : Type 0} (f : ℕ → List A) (each first n : ℕ) → ((k : ℕ) → length (f k) ≡ each) → length (concat_map f (range first n)) ≡ each * n
length_over_range f each first zero same = omega arith
length_over_range f each first (suc n) same = rw length-append (omega (arith, same first, length_over_range f each (suc first) n same))
