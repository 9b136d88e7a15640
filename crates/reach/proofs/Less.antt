-- Adjacency words with an edge less: what is taken out of them.
-- Assumes nothing.
use Prim.Native.Nat.{ℕ, ◌^◌, ◌<◌}
use native.Mathlib.Decide.{ℕ_discrete}
use native.Mathlib.Omega.{arith}
use mathlib.Core.Path.{◌≡◌, sym, subst}
use mathlib.Core.Logic.{◌⊎◌, inl, inr, ⊎_elim}
use mathlib.Core.List.{List}
use lib.Bits.{bit_or, bit_xor, or_lt, xor_lt}
use lib.ListN.{length, get_or, length-set}
use lib.Pow.{pow-lt}
use lib.Seq.{get_or-set_same, get_or-set_other}
use Rattle.paper.specs.Edges.{Edge}
use Rattle.paper.specs.Reach.{Joins}
use Rattle.reach.specs.Reached.{bit}
use Rattle.reach.specs.Steps.{without_bit, without_edge}
use Rattle.reach.proofs.Bits.{or_left, or_right, or_either, pow_bit, pow_none, xor_bit, xor_has}

-- one bit less
module _ (words : List ℕ) (a b : ℕ) (inside : a < length words) where
  abbrev less : ℕ
  less = bit_xor (bit_or (get_or words a 0) (2 ^ b)) (2 ^ b)

  out_is : (c d : ℕ) → bit (get_or (without_bit words a b) c 0) d ≡ 1 → (bit (get_or words c 0) d ≡ 1) × (c ≡ a → d ≡ b → ⊥)
  out_is c d is = go (ℕ_discrete c a)
    where
      old : bit (2 ^ b) d ≡ 0 → (bit (get_or words a 0) d ≡ 1) ⊎ (bit (2 ^ b) d ≡ 1) → bit (get_or words a 0) d ≡ 1
      old off (inl was) = was
      old off (inr new) = absurd (omega arith)

      go : Dec (c ≡ a) → (bit (get_or words c 0) d ≡ 1) × (c ≡ a → d ≡ b → ⊥)
      go (no other) = (rw (get_or-set_other words a c less 0 other) at is, λ same. absurd (other same))
      go (yes same) =
          let left : bit less d ≡ 1 = rw (get_or-set_same words a less 0 inside) at (subst (λ (x : ℕ). bit (get_or (without_bit words a b) x 0) d ≡ 1) same is) in
          let both = xor_bit (bit_or (get_or words a 0) (2 ^ b)) (2 ^ b) d left (or_right (get_or words a 0) (2 ^ b) d) in (
            subst (λ (x : ℕ). bit (get_or words x 0) d ≡ 1) (sym same) (old both.1 (or_either (get_or words a 0) (2 ^ b) d both.0)),
            λ at here. omega (arith, both.1, subst (λ (x : ℕ). bit (2 ^ b) x ≡ 1) (sym here) (pow_bit b)),
          )

  out_keeps : (c d : ℕ) → bit (get_or words c 0) d ≡ 1 → (c ≡ a → d ≡ b → ⊥) → bit (get_or (without_bit words a b) c 0) d ≡ 1
  out_keeps c d is other = go (ℕ_discrete c a)
    where
      go : Dec (c ≡ a) → bit (get_or (without_bit words a b) c 0) d ≡ 1
      go (no else) = rw (get_or-set_other words a c less 0 else) is
      go (yes same) =
          subst (λ (x : ℕ). bit (get_or (without_bit words a b) x 0) d ≡ 1) (sym same)
          (rw (get_or-set_same words a less 0 inside)
          (xor_has (bit_or (get_or words a 0) (2 ^ b)) (2 ^ b) d (or_left (get_or words a 0) (2 ^ b) d (subst (λ (x : ℕ). bit (get_or words x 0) d ≡ 1) same is)) (pow_none b d (other same))))

  out_small : b < 48 → ((c : ℕ) → get_or words c 0 < 2 ^ 48) → (c : ℕ) → get_or (without_bit words a b) c 0 < 2 ^ 48
  out_small b_in small c = go (ℕ_discrete c a)
    where
      go : Dec (c ≡ a) → get_or (without_bit words a b) c 0 < 2 ^ 48
      go (no other) = rw (get_or-set_other words a c less 0 other) (small c)
      go (yes same) =
          subst (λ (x : ℕ). get_or (without_bit words a b) x 0 < 2 ^ 48) (sym same)
          (rw (get_or-set_same words a less 0 inside) (xor_lt 48 (bit_or (get_or words a 0) (2 ^ b)) (2 ^ b) (or_lt 48 (get_or words a 0) (2 ^ b) (small a) (pow-lt b_in)) (pow-lt b_in)))

-- an edge less, in the words of both its ends
module _ (edge : Edge) (words : List ℕ) (long : length words ≡ 48) (left_in : edge.left < 48) (right_in_lem : edge.right < 48) where
  abbrev one : List ℕ
  one = without_bit words edge.left edge.right

  l_in : edge.left < length words
  l_in = omega arith

  r_in : edge.right < length one
  r_in = simp length-set (omega arith)

  pub less_is : (a b : ℕ) → bit (get_or (without_edge edge.left edge.right words) a 0) b ≡ 1 → (bit (get_or words a 0) b ≡ 1) × (Joins edge a b → ⊥)
  less_is a b is =
      let second = out_is one edge.right edge.left r_in a b is in
      let first = out_is words edge.left edge.right l_in a b second.0 in
      (first.0, ⊎_elim (λ ends. first.1 (sym ends.0) (sym ends.1)) (λ ends. second.1 (sym ends.0) (sym ends.1)))

  pub less_keeps : (a b : ℕ) → bit (get_or words a 0) b ≡ 1 → (Joins edge a b → ⊥) → bit (get_or (without_edge edge.left edge.right words) a 0) b ≡ 1
  less_keeps a b is other =
      out_keeps one edge.right edge.left r_in a b (out_keeps words edge.left edge.right l_in a b is (λ at to. other (inl (sym at, sym to)))) (λ at to. other (inr (sym at, sym to)))

  pub less_small : ((a : ℕ) → get_or words a 0 < 2 ^ 48) → (a : ℕ) → get_or (without_edge edge.left edge.right words) a 0 < 2 ^ 48
  less_small small = out_small one edge.right edge.left r_in left_in (out_small words edge.left edge.right l_in right_in_lem small)

  pub less_long : length (without_edge edge.left edge.right words) ≡ 48
  less_long = simp length-set long
