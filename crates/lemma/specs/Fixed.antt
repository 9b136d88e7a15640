-- The literals that are left (02, E1) once those between two fixed numbers are taken out.
-- Assumes nothing.
use Rattle.std.specs.Prelude.{ℕ, ◌≤◌, ◌≡◌, Bool, not, List, length}
use Rattle.paper.specs.Lists.{keep}
use Rattle.paper.specs.Lemma.{Literal, left_out}
use Rattle.terms.specs.Tables.{fixed_in}
use Rattle.lemma.specs.declared.rows.Literal.{Literal as Row}
use Rattle.lemma.specs.Rows.{literals_of}

-- by the marks of the base terms
abbrev pub stays_by : (reads : List ℕ) → Literal → Bool
stays_by reads l = not (left_out (fixed_in reads) l)

-- of the whole list those are left that stay
pub record Kept (reads : List ℕ) (whole left : List Row) : Type 0 where
  pub same : literals_of left ≡ keep (stays_by reads) (literals_of whole)
  pub most : length left ≤ length whole
