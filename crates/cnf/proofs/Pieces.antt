-- The pieces that a literal brings.
-- Assumes nothing.
use Prim.Native.Nat.{ℕ, zero, suc, ◌+◌, ◌-◌, ◌*◌, ◌<◌}
use native.Mathlib.Omega.{arith}
use mathlib.Core.Path.{◌≡◌, refl, sym, ap, ◌∙◌}
use mathlib.Core.List.{List, [], ◌∷◌, ◌++◌, map}
use mir.Syntax.{w32}
use mir.Val.{SFits, to_z, of_z}
use mir.ValLaws.{to_z-of_z}
use lib.IntN.{ℤ, pos, neg_ℤ, ◌-ℤ◌, +ℤ_idl}
use lib.ListN.{length, get_or}
use Rattle.paper.specs.Lists.{concat_map, range}
use Rattle.paper.specs.Clauses.{plus, fresh, Clause, differing, agreeing, gadget}
use Rattle.meaning.proofs.Lists.{concat_map_append}
use Rattle.meaning.proofs.Mapped.{length_over_range}
use Rattle.cnf.specs.declared.numbers.Sizes.{Sizes}
use Rattle.cnf.specs.declared.placed.Placed.{Placed}
use Rattle.lemma.specs.declared.rows.Literal.{Literal}
use Rattle.lemma.specs.declared.rows.Literal.TheVariants.{Equal, Differ, IsTrue, IsFalse, Conclusion}
use Rattle.lemma.specs.Rows.{literal_in}
use Rattle.cnf.specs.Parts.{numbers_of, closed, clauses_of_bit, bit_clauses, Compares}
use Rattle.cnf.proofs.Runs.{range_step}

-- A variable's number as 32 bits store it, as it stands and reversed
stored_fits : (n : ℕ) → n < 2147483648 → SFits w32 (pos n)
stored_fits n h = record { sfits = omega arith }

negative_fits : (n : ℕ) → n < 2147483648 → SFits w32 (neg_ℤ (pos n))
negative_fits zero h = record { sfits = omega arith }
negative_fits (suc n) h = record { sfits = omega arith }

pub as_it_is : {x : ℤ} (n : ℕ) → (x ≡ pos n) × (n < 2147483648) → to_z w32 (of_z w32 x) ≡ pos n
as_it_is n h = rw h.0 (to_z-of_z w32 (pos n) (stored_fits n h.1))

pub reversed : {x : ℤ} (n : ℕ) → (x ≡ pos n) × (n < 2147483648) → to_z w32 (of_z w32 (pos 0 -ℤ to_z w32 (of_z w32 x))) ≡ neg_ℤ (pos n)
reversed n h = rw (as_it_is n h, +ℤ_idl (neg_ℤ (pos n))) (to_z-of_z w32 (neg_ℤ (pos n)) (negative_fits n h.1))

-- one of a bit's two clauses, in numbers
abbrev pub side : Sizes → Literal → (n k which : ℕ) → List ℤ
side sizes literal n k which = closed sizes (get_or (clauses_of_bit literal n k) which [])

-- the clauses of the bits from k on, and the d from bit k on
abbrev pub bits_from : Sizes → Placed → (k : ℕ) → List ℤ
bits_from sizes placed k = concat_map (closed sizes) (concat_map (bit_clauses placed) (range k (sizes.width - k)))

abbrev pub differences_from : Sizes → (n k : ℕ) → List ℤ
differences_from sizes n k = numbers_of sizes (map (λ bit. plus (fresh (n + bit))) (range k (sizes.width - k)))

pub differences_step : (sizes : Sizes) (n k : ℕ) → k < sizes.width
    → differences_from sizes n k ≡ (pos (sizes.width * sizes.bases + sizes.booleans + (n + k) + 1) ∷ []) ++ differences_from sizes n (k + 1)
differences_step sizes n k h = rw (range_step k sizes.width h)

-- what the two clauses of a bit are goes by the literal
by_literal : (literal : Literal) (P : List Clause → Type 0) (n k : ℕ)
    → ((i j : ℕ) → P (differing i j n k)) → ((v w : ℕ) → P (agreeing v w n k)) → P (clauses_of_bit literal n k)
by_literal (Equal i j) P n k differ agree = differ i j
by_literal (Differ i j) P n k differ agree = agree i j
by_literal (IsTrue m) P n k differ agree = agree m 0
by_literal (IsFalse m) P n k differ agree = agree m 0
by_literal (Conclusion v w) P n k differ agree = agree v w

module _ (sizes : Sizes) (literal : Literal) (n : ℕ) where
  pub two_sides : (k : ℕ) → map (closed sizes) (clauses_of_bit literal n k) ≡ side sizes literal n k 0 ∷ side sizes literal n k 1 ∷ []
  two_sides k =
      by_literal literal (λ two. map (closed sizes) two ≡ closed sizes (get_or two 0 []) ∷ closed sizes (get_or two 1 []) ∷ [])
      n k (λ i j. refl) (λ v w. refl)

  pub side_at : (k which : ℕ) → which < 2 → get_or (map (closed sizes) (clauses_of_bit literal n k)) which [] ≡ side sizes literal n k which
  side_at k zero h = ap (λ (two : List (List ℤ)). get_or two 0 []) (two_sides k)
  side_at k (suc zero) h = ap (λ (two : List (List ℤ)). get_or two 1 []) (two_sides k)
  side_at k (suc (suc which)) h = absurd (omega arith)

pub bits_step : (sizes : Sizes) (placed : Placed) (k : ℕ) (two : List (List ℤ)) → k < sizes.width
    → two ≡ map (closed sizes) (bit_clauses placed k)
    → bits_from sizes placed k ≡ get_or two 0 [] ++ (get_or two 1 [] ++ bits_from sizes placed (k + 1))
bits_step sizes placed k two h same =
    rw (same, range_step k sizes.width h, concat_map_append (closed sizes))
    (by_literal placed.literal (λ clauses. concat_map (closed sizes) clauses ++ bits_from sizes placed (k + 1) ≡ get_or (map (closed sizes) clauses) 0 [] ++ (get_or (map (closed sizes) clauses) 1 [] ++ bits_from sizes placed (k + 1)))
    placed.fresh k (λ i j. refl) (λ v w. refl))

-- The clauses of a literal: none for a Boolean one, else two for each bit
pub no_clauses_lem : (w n : ℕ) (literal : Literal) → (gadget w n (literal_in literal)).rank ≡ 0 → (gadget w n (literal_in literal)).clauses ≡ []
no_clauses_lem w n (Equal i j) rank = absurd (omega arith)
no_clauses_lem w n (Differ i j) rank = absurd (omega arith)
no_clauses_lem w n (IsTrue m) rank = refl
no_clauses_lem w n (IsFalse m) rank = refl
no_clauses_lem w n (Conclusion v u) rank = absurd (omega arith)

-- a literal that is neither Boolean compares
pub compares_unless : (literal : Literal) → ((m : ℕ) → literal ≡ IsTrue m → ⊥) → ((m : ℕ) → literal ≡ IsFalse m → ⊥) → Compares literal
compares_unless (Equal i j) no_true no_false = tt
compares_unless (Differ i j) no_true no_false = tt
compares_unless (IsTrue m) no_true no_false = no_true m refl
compares_unless (IsFalse m) no_true no_false = no_false m refl
compares_unless (Conclusion v u) no_true no_false = tt

pub by_bits : (w n : ℕ) (literal : Literal) → Compares literal → (gadget w n (literal_in literal)).clauses ≡ concat_map (clauses_of_bit literal n) (range 0 w)
by_bits w n (Equal i j) compares = refl
by_bits w n (Differ i j) compares = refl
by_bits w n (IsTrue m) compares = absurd compares
by_bits w n (IsFalse m) compares = absurd compares
by_bits w n (Conclusion v u) compares = refl

pub two_clauses : (n : ℕ) (literal : Literal) (k : ℕ) → length (clauses_of_bit literal n k) ≡ 2
two_clauses n literal k = by_literal literal (λ two. length two ≡ 2) n k (λ i j. refl) (λ v w. refl)

pub bits_count : (w n : ℕ) (literal : Literal) → Compares literal → 2 * w ≡ length (gadget w n (literal_in literal)).clauses
bits_count w n literal compares =
    sym (ap (λ (all : List Clause). length all) (by_bits w n literal compares) ∙ length_over_range (clauses_of_bit literal n) 2 0 w (two_clauses n literal))
