-- Numbers given by bits (01, The clauses): two numbers of k bits are equal exactly if their bits below k are.
-- Assumes nothing.
use Prim.Native.Nat.{ℕ, zero, suc, ◌+◌, ◌<◌, ◌^◌}
use native.Mathlib.Nat.{two-pow-succ, not-suc-le-zero, le_of_suc-le-suc, eq-or-lt_of_le}
use native.Mathlib.Omega.{arith}
use mathlib.Core.Path.{◌≡◌, refl}
use mathlib.Core.Logic.{◌⊎◌, inl, inr, ◌≢◌}
use mathlib.Core.Bool.{Bool, true, false, cond, Bool-discrete}
use Rattle.paper.specs.Clauses.{of_bits}

-- k bits give a number below 2 ^ k
bits_below : (k : ℕ) (bits : ℕ → Bool) → of_bits k bits < 2 ^ k
bits_below zero bits = omega arith
bits_below (suc k) bits = go (bits k) (bits_below k bits)
  where
    go : (b : Bool) → of_bits k bits < 2 ^ k → of_bits k bits + cond b (2 ^ k) 0 < 2 ^ suc k
    go true below = omega (arith, two-pow-succ k)
    go false below = omega (arith, two-pow-succ k)

-- a number and a highest bit above it are told apart
highest_bit : (x y p : ℕ) (a b : Bool) → x < p → y < p → x + cond a p 0 ≡ y + cond b p 0 → (x ≡ y) × (a ≡ b)
highest_bit x y p true true h l e = (omega arith, refl)
highest_bit x y p true false h l e = absurd (omega arith)
highest_bit x y p false true h l e = absurd (omega arith)
highest_bit x y p false false h l e = (omega arith, refl)

module _ (a b : ℕ → Bool) where
  -- equal bits give equal numbers
  pub number_of_bits : (k : ℕ) → ((i : ℕ) → i < k → a i ≡ b i) → of_bits k a ≡ of_bits k b
  number_of_bits zero same = refl
  number_of_bits (suc k) same = rw (number_of_bits k (λ i h. same i (omega arith)), same k (omega arith))

  -- equal numbers have equal bits
  pub bits_of_number : (k : ℕ) → of_bits k a ≡ of_bits k b → (i : ℕ) → i < k → a i ≡ b i
  bits_of_number zero e i h = absurd (not-suc-le-zero h)
  bits_of_number (suc k) e i h = go (eq-or-lt_of_le (le_of_suc-le-suc h)) (bits_of_number k parts.0 i)
    where
      parts : (of_bits k a ≡ of_bits k b) × (a k ≡ b k)
      parts = highest_bit (of_bits k a) (of_bits k b) (2 ^ k) (a k) (b k) (bits_below k a) (bits_below k b) e

      go : (i ≡ k) ⊎ (i < k) → (i < k → a i ≡ b i) → a i ≡ b i
      go (inl here) below = rw here parts.1
      go (inr there) below = below there

  -- numbers that differ have a bit that differs
  pub differing_bit : (k : ℕ) → of_bits k a ≢ of_bits k b → (i : ℕ) × (i < k) × (a i ≢ b i)
  differing_bit zero ne = absurd (ne refl)
  differing_bit (suc k) ne = go (Bool-discrete (a k) (b k)) (differing_bit k)
    where
      go : Dec (a k ≡ b k) → (of_bits k a ≢ of_bits k b → (i : ℕ) × (i < k) × (a i ≢ b i)) → (i : ℕ) × (i < suc k) × (a i ≢ b i)
      go (yes same) below =
          let found = below (λ e. ne (rw (e, same))) in
          (found.0, omega arith, found.2)
      go (no other) below = (k, omega arith, other)
