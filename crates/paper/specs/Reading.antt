-- What stands in an answer buffer, read back: the literals that bytes are, and the clauses that numbers are. The promises are about what is
-- read here, so they say nothing of how it was written.
-- Assumes nothing.
use Rattle.std.specs.Prelude.{ℕ, zero, suc, ◌+◌, Bool, true, false, cond, List, [], ◌∷◌, ◌++◌, leb, ℤ, pos, negsuc, length, take, drop}
use Rattle.std.proofs.Math.Option.{Option, none, some}
use Rattle.paper.specs.Lists.{number, same_numbers, map_option, bind_option}
use Rattle.paper.specs.Fields.{length_at}
use Rattle.paper.specs.Lemma.{Literal}

-- "Fields: 21 equal, 22 differ, 25 conclusion, each length 4 with two base numbers; 23 true, 24 false, length 2": the literal that a whole
-- field is
abbrev pub literal_in : List ℕ → Option Literal
literal_in field =
    let head = take 3 field in
    let first = number (take 2 (drop 3 field)) in
    let second = number (drop 5 field) in
    cond (same_numbers head (0x21 ∷ 0 ∷ 4 ∷ [])) (some (Literal.equal first second))
    (cond (same_numbers head (0x22 ∷ 0 ∷ 4 ∷ [])) (some (Literal.differ first second))
    (cond (same_numbers head (0x23 ∷ 0 ∷ 2 ∷ [])) (some (Literal.is_true first))
    (cond (same_numbers head (0x24 ∷ 0 ∷ 2 ∷ [])) (some (Literal.is_false first))
    (cond (same_numbers head (0x25 ∷ 0 ∷ 4 ∷ [])) (some (Literal.conclusion first second)) none))))

-- The fields of a lemma, one after another; none where the bytes are anything else, or end inside a field. The bound only lets the recursion
-- end: one more than there are bytes is enough.
abbrev pub literals_from : (bound : ℕ) → List ℕ → Option (List Literal)
literals_from zero bytes = none
literals_from (suc bound) [] = some []
literals_from (suc bound) (byte ∷ bytes) =
    let left = byte ∷ bytes in
    let size = 3 + length_at left in
    cond (leb size (length left))
    (bind_option (literal_in (take size left)) (λ l. map_option (λ literals. l ∷ literals) (literals_from bound (drop size left))))
    none

abbrev pub read_lemma : List ℕ → Option (List Literal)
read_lemma bytes = literals_from (suc (length bytes)) bytes

abbrev pub is_zero : ℤ → Bool
is_zero (pos zero) = true
is_zero (pos (suc n)) = false
is_zero (negsuc n) = false

-- "each clause closed by 0": the clauses of a run, whose first goes on from the numbers begun with; none where the last is not closed
abbrev pub clauses_from : List ℤ → (begun : List ℤ) → Option (List (List ℤ))
clauses_from [] [] = some []
clauses_from [] (n ∷ begun) = none
clauses_from (n ∷ numbers) begun =
    cond (is_zero n) (map_option (λ clauses. begun ∷ clauses) (clauses_from numbers [])) (clauses_from numbers (begun ++ (n ∷ [])))

abbrev pub read_run : List ℤ → Option (List (List ℤ))
read_run numbers = clauses_from numbers []
