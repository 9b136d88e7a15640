-- What was written is read back: the literals off the lemma's bytes, and the clauses off the run of their numbers.
-- Assumes nothing.
use Prim.Native.Nat.{ℕ, zero, suc, ◌+◌, ◌*◌, ◌/◌, ◌%◌, ◌<◌, ◌≤◌}
use native.Mathlib.Nat.{le_refl, not-suc-le-zero}
use native.Mathlib.Numerals.{add-one}
use native.Mathlib.Omega.{arith}
use mathlib.Core.Path.{◌≡◌, refl, ◌∙◌}
use mathlib.Core.Bool.{false, cond}
use mathlib.Core.List.{List, [], ◌∷◌, ◌++◌, map, append_assoc, append-nil}
use mathlib.Core.Option.{Option, none, some}
use borrow.Author.Tests.{le-leb}
use lib.Dec.{leb}
use lib.IntN.{ℤ, pos}
use lib.ListN.{length}
use Rattle.paper.specs.Lists.{map_option}
use Rattle.paper.specs.Lemma.{Literal, lemma_bytes}
use Rattle.paper.specs.Clauses.{bit, boolean, fresh, Signed, plus, minus, Clause, signed_number, named_clauses, clauses_of, run}
use Rattle.paper.specs.Reading.{literals_from, read_lemma, is_zero, clauses_from, read_run}

two_bytes : (x : ℕ) → (0 * 256 + x / 256) * 256 + x % 256 ≡ x
two_bytes x = omega arith

-- a field that does not run past the end is read
within : (size many : ℕ) (read : Option (List Literal)) (literals : List Literal) → size ≤ many → read ≡ some literals
    → cond (leb size many) read none ≡ some literals
within size many read literals fits is = rw (le-leb size many fits, is)

literals_read : (bound : ℕ) (literals : List Literal) → length (lemma_bytes literals) < bound → literals_from bound (lemma_bytes literals) ≡ some literals
literals_read zero literals fits = absurd (not-suc-le-zero fits)
literals_read (suc bound) [] fits = refl
literals_read (suc bound) (Literal.equal i j ∷ literals) fits =
    within 7 (length (lemma_bytes (Literal.equal i j ∷ literals))) _ _ (omega arith) (rw (two_bytes i, two_bytes j, literals_read bound literals (omega arith)))
literals_read (suc bound) (Literal.differ i j ∷ literals) fits =
    within 7 (length (lemma_bytes (Literal.differ i j ∷ literals))) _ _ (omega arith) (rw (two_bytes i, two_bytes j, literals_read bound literals (omega arith)))
literals_read (suc bound) (Literal.is_true m ∷ literals) fits =
    within 5 (length (lemma_bytes (Literal.is_true m ∷ literals))) _ _ (omega arith) (rw (two_bytes m, literals_read bound literals (omega arith)))
literals_read (suc bound) (Literal.is_false m ∷ literals) fits =
    within 5 (length (lemma_bytes (Literal.is_false m ∷ literals))) _ _ (omega arith) (rw (two_bytes m, literals_read bound literals (omega arith)))
literals_read (suc bound) (Literal.conclusion v u ∷ literals) fits =
    within 7 (length (lemma_bytes (Literal.conclusion v u ∷ literals))) _ _ (omega arith) (rw (two_bytes v, two_bytes u, literals_read bound literals (omega arith)))

-- a lemma is read off its bytes
pub lemma_read : (literals : List Literal) → read_lemma (lemma_bytes literals) ≡ some literals
lemma_read literals = literals_read (suc (length (lemma_bytes literals))) literals (le_refl (suc (length (lemma_bytes literals))))

module _ (w bases booleans : ℕ) where
  -- no variable has the number that closes a clause
  never_zero : (s : Signed) → is_zero (signed_number w bases booleans s) ≡ false
  never_zero (plus (bit b k)) = rw (add-one (w * b + k))
  never_zero (plus (boolean m)) = rw (add-one (w * bases + m))
  never_zero (plus (fresh n)) = rw (add-one (w * bases + booleans + n))
  never_zero (minus (bit b k)) = rw (add-one (w * b + k))
  never_zero (minus (boolean m)) = rw (add-one (w * bases + m))
  never_zero (minus (fresh n)) = rw (add-one (w * bases + booleans + n))

  clause_read : (clause : Clause) (rest begun : List ℤ)
      → clauses_from ((map (signed_number w bases booleans) clause ++ (pos 0 ∷ [])) ++ rest) begun
      ≡ map_option (λ clauses. (begun ++ map (signed_number w bases booleans) clause) ∷ clauses) (read_run rest)
  clause_read [] rest begun = rw (append-nil begun)
  clause_read (s ∷ clause) rest begun =
      let n = signed_number w bases booleans s in
      rw (never_zero s)
      (clause_read clause rest (begun ++ (n ∷ [])) ∙ rw (append_assoc begun (n ∷ []) (map (signed_number w bases booleans) clause)))

  run_read : (clauses : List Clause)
      → read_run (run (map (map (signed_number w bases booleans)) clauses)) ≡ some (map (map (signed_number w bases booleans)) clauses)
  run_read [] = refl
  run_read (clause ∷ clauses) =
      clause_read clause (run (map (map (signed_number w bases booleans)) clauses)) [] ∙ rw (run_read clauses)

  -- clauses are read off the run of their numbers
  pub clauses_read : (literals : List Literal) → read_run (run (clauses_of w bases booleans literals)) ≡ some (clauses_of w bases booleans literals)
  unfolding clauses_of
  clauses_read literals = run_read (named_clauses w literals)
