-- Distinct numbers below n are at most n: what bounds the steps of a walk that comes nowhere twice.
-- Assumes nothing.
use Prim.Native.Nat.{ℕ, zero, suc, ◌<◌, ◌≤◌}
use native.Mathlib.Nat.{not-suc-le-zero}
use native.Mathlib.Omega.{arith}
use mathlib.Core.Path.{◌≡◌, refl, sym, ap, subst}
use mathlib.Core.Logic.{◌≢◌}
use mathlib.Core.Bool.{Bool, true, false, cond, not, false≢true}
use mathlib.Core.List.Memᴰ
use mathlib.Core.List.{List, [], ◌∷◌}
use borrow.Author.Tests.{eqb-true, eqb-false}
use lib.Dec.{eqb}
use lib.ListN.{length}
use Rattle.paper.specs.Lists.{◌∈◌, keep}
use Rattle.meaning.proofs.Lists.{keep_in}

abbrev pub Distinct : List ℕ → Type 0
Distinct [] = Unit {0}
Distinct (x ∷ xs) = (x ∈ xs → ⊥) × Distinct xs

-- all but m
without : ℕ → List ℕ → List ℕ
without m xs = keep (λ x. not (eqb x m)) xs

-- a list loses no number where m is not in it, and at most one where it is distinct
without_absent : (m : ℕ) (xs : List ℕ) → (m ∈ xs → ⊥) → length (without m xs) ≡ length xs
unfolding without
without_absent m [] absent = refl
without_absent m (x ∷ xs) absent = go (eqb x m) refl (without_absent m xs (λ here. absent (Memᴰ.tail here)))
  where
    go : (b : Bool) → eqb x m ≡ b → length (without m xs) ≡ length xs → length (cond (not b) (x ∷ without m xs) (without m xs)) ≡ suc (length xs)
    go true e below = absurd (absent (Memᴰ.head (sym (eqb-true x m e))))
    go false e below = ap suc below

without_one : (m : ℕ) (xs : List ℕ) → Distinct xs → length xs ≤ suc (length (without m xs))
unfolding without
without_one m [] distinct = omega arith
without_one m (x ∷ xs) distinct = go (eqb x m) refl (without_one m xs distinct.1)
  where
    go : (b : Bool) → eqb x m ≡ b → length xs ≤ suc (length (without m xs)) → suc (length xs) ≤ suc (length (cond (not b) (x ∷ without m xs) (without m xs)))
    go true e below = omega (arith, without_absent m xs (λ here. distinct.0 (subst (λ (y : ℕ). y ∈ xs) (sym (eqb-true x m e)) here)))
    go false e below = omega arith

without_distinct : (m : ℕ) (xs : List ℕ) → Distinct xs → Distinct (without m xs)
unfolding without
without_distinct m [] distinct = tt
without_distinct m (x ∷ xs) distinct = go (eqb x m) (without_distinct m xs distinct.1)
  where
    go : (b : Bool) → Distinct (without m xs) → Distinct (cond (not b) (x ∷ without m xs) (without m xs))
    go true below = below
    go false below = ((λ here. distinct.0 (keep_in (λ y. not (eqb y m)) xs here).0), below)

without_below : (m : ℕ) (xs : List ℕ) → ((x : ℕ) → x ∈ xs → x < suc m) → (x : ℕ) → x ∈ without m xs → x < m
unfolding without
without_below m xs below x here =
    let kept = keep_in (λ y. not (eqb y m)) xs here in
    let bound = below x kept.0 in
    omega (arith, differs (eqb x m) refl kept.1)
  where
    differs : (b : Bool) → eqb x m ≡ b → not b ≡ true → x ≢ m
    differs true e kept = absurd (false≢true kept)
    differs false e kept = eqb-false x m e

pub distinct_below : (n : ℕ) (xs : List ℕ) → Distinct xs → ((x : ℕ) → x ∈ xs → x < n) → length xs ≤ n
distinct_below zero [] distinct below = omega arith
distinct_below zero (x ∷ xs) distinct below = absurd (not-suc-le-zero (below x (Memᴰ.head refl)))
distinct_below (suc n) xs distinct below =
    let fewer = distinct_below n (without n xs) (without_distinct n xs distinct) (without_below n xs below) in
    omega (arith, without_one n xs distinct)
