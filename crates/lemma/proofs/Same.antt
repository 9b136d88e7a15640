-- The code's test for a literal that stands already is the paper's.
-- Assumes nothing.
use Rattle.std.proofs.Common.{ℕ, ◌≡◌, Bool, true, ◌&&◌, ◌||◌, List, [], ◌∷◌, eqb, refl, sym, ap, ap₂, ◌∙◌, arith}
use Rattle.std.specs.List.{list_any}
use Rattle.paper.specs.Lemma.{same_literal}
use Rattle.lemma.specs.contracts.rows.LiteralPartialEq.TheImpl.{ghosts}
use Rattle.lemma.specs.declared.rows.Literal.{Literal as Row}
use Rattle.lemma.specs.declared.rows.Literal.TheVariants.{Equal, Differ, IsTrue, IsFalse, Conclusion}
use Rattle.lemma.specs.Rows.{literal_in}
use Rattle.lemma.specs.Literals.{stands_in}

one_number : (a c : ℕ) → eqb c a ≡ (eqb a c && true)
one_number a c = grind arith

two_numbers : (a b c d : ℕ) → (eqb c a && eqb d b) ≡ (eqb a c && (eqb b d && true))
two_numbers a b c d = grind arith

-- two are equal exactly if they say the same literal
equal_same : (row other : Row) → ghosts.eq other row ≡ same_literal (literal_in row) (literal_in other)
equal_same (Equal a b) (Equal c d) = two_numbers a b c d
equal_same (Differ a b) (Differ c d) = two_numbers a b c d
equal_same (IsTrue a) (IsTrue c) = one_number a c
equal_same (IsFalse a) (IsFalse c) = one_number a c
equal_same (Conclusion a b) (Conclusion c d) = two_numbers a b c d
equal_same _ _ = refl

stands_same : (row : Row) (rows : List Row) → list_any (λ k. ghosts.eq k row) rows ≡ stands_in rows row
stands_same row [] = refl
stands_same row (first ∷ rows) = ap₂ (λ (here later : Bool). here || later) (equal_same row first) (stands_same row rows)

-- so what the code finds of the rows is whether it stands there
pub stands_is : (row : Row) {rows seen : List Row} {stood : Bool} → seen ≡ rows → stood ≡ list_any (λ k. ghosts.eq k row) seen → stands_in rows row ≡ stood
stands_is row {rows} same found = sym (stands_same row rows) ∙ ap (list_any (λ k. ghosts.eq k row)) (sym same) ∙ sym found
